use Rattle.std.proofs.Common.{◌≡◌, ◌-◌, ◌*◌, ◌%◌, ◌^◌}
use Rattle.av1_model.specs.Comes.{Comes}
use Rattle.av1_syntax.specs.Calls.{stands, Moved, coded_in, learnt_in}
use Rattle.av1_syntax.specs.Vectors.{bits_from}
use Rattle.av1_syntax.proofs.context_writer.ContextWriter.write_mv_bits.Given as goal

abbrev pub invariant-loop-i : goal.invariant-loop-i
invariant-loop-i g l = record {
  came : Comes coded_in learnt_in (bits_from l.axis l.bits 0 0).tree (bits_from l.axis (l.bits - l.i) l.i (l.d % 2 ^ l.i)).tree (stands g.W.Known l.fn.w l.fn.self) (stands g.W.Known l.w l.self);
  moves : Moved g.W.Known (13 * l.i) l.fn.w l.w l.fn.self l.self;
  rest : l.self.bc ≡ l.fn.self.bc;
}
