use Rattle.std.proofs.Common.{◌≡◌, ◌-◌, ◌*◌, ◌≤◌, map}
use Rattle.av1_syntax.specs.Calls.{stands, Moved}
use Rattle.av1_syntax.proofs.CoeffLoops.{SizesCame}
use Rattle.av1_syntax.proofs.context_writer.ContextWriter.write_coeff_sizes.Given as goal

abbrev pub invariant-loop-left : goal.invariant-loop-left
invariant-loop-left g l =
    let values = map g.T.Coefficient.value l.coeffs in
    record {
      most : l.left ≤ l.eob;
      came : SizesCame l.block.tx_size l.block.tx_class l.scan l.eob values l.block.plane_type l.left (stands g.W.Known l.fn.w l.fn.self) (stands g.W.Known l.w l.self);
      moves : Moved g.W.Known (65 * (l.eob - l.left)) l.fn.w l.w l.fn.self l.self;
      rest : l.self.bc ≡ l.fn.self.bc;
    }

abbrev pub decreases-loop-left : goal.decreases-loop-left
decreases-loop-left g l = l.left
