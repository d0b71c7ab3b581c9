use Rattle.std.proofs.Common.{◌≡◌, ◌+◌, ◌-◌, ◌*◌, ◌≤◌}
use Rattle.av1_cdf.specs.Distribution.Distribution.{Adaptive}
use Rattle.av1_cdf.specs.Slots.{slot_of}
use Rattle.av1_model.specs.Comes.{Comes}
use Rattle.av1_syntax.specs.Calls.{stands, Moved, coded_in, learnt_in}
use Rattle.av1_syntax.specs.Levels.{range_after, range_element}
use Rattle.av1_syntax.proofs.context_writer.ContextWriter.write_coeff_range.Given as goal

abbrev pub invariant-loop-turn : goal.invariant-loop-turn
invariant-loop-turn g l =
    let q = Adaptive (slot_of l.cdf) in
    record {
      read : l.read ≡ 3 + 3 * l.turn;
      enough : l.read ≤ l.size;
      came : Comes coded_in learnt_in (range_element q).tree (range_after q (4 - l.turn) l.read).tree (stands g.W.Known l.fn.w l.fn.self) (stands g.W.Known l.w l.self);
      moves : Moved g.W.Known (13 * l.turn) l.fn.w l.w l.fn.self l.self;
      rest : l.self.bc ≡ l.fn.self.bc;
    }
