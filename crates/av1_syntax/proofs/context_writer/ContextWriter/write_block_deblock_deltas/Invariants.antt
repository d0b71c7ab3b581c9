use Rattle.std.proofs.Common.{◌≡◌, ◌-◌, ◌*◌, [], take}
use Rattle.av1_model.specs.Comes.{Comes}
use Rattle.av1_syntax.specs.Calls.{stands, Moved, coded_in, learnt_in}
use Rattle.av1_syntax.specs.Deltas.{delta_slot, deltas_after}
use Rattle.av1_syntax.proofs.context_writer.ContextWriter.write_block_deblock_deltas.Given as goal

abbrev pub invariant-loop-k : goal.invariant-loop-k
invariant-loop-k g l =
    let q = delta_slot l.multi in
    record {
      came : Comes coded_in learnt_in (deltas_after q [] l.count).tree (deltas_after q (take l.k l.deltas) (l.count - l.k)).tree (stands g.W.Known l.fn.w l.fn.self) (stands g.W.Known l.w l.self);
      moves : Moved g.W.Known (130 * l.k) l.fn.w l.w l.fn.self l.self;
      rest : l.self.bc ≡ l.fn.self.bc;
    }
