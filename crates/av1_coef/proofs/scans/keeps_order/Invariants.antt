use Rattle.std.proofs.Common.{◌≡◌, ℕ, ◌<◌, ◌≤◌, drop, length, true, false}
use Rattle.std.specs.Prelude.{slice_index_or}
use Rattle.av1_coef.specs.Contexts.{base_steps}
use Rattle.av1_coef.specs.Scans.{is_in, keeps_order}
use Rattle.av1_coef.proofs.scans.keeps_order.Given as goal

abbrev pub invariant-loop-left : goal.invariant-loop-left
invariant-loop-left l = record {
  most : l.left ≤ length l.scan;
  kept : keeps_order l.w l.h (base_steps l.tx_class) (drop l.left l.scan) ≡ true;
  seen : (q : ℕ) → q < 1024 → slice_index_or l.seen q false ≡ is_in (drop l.left l.scan) q;
}

abbrev pub decreases-loop-left : goal.decreases-loop-left
decreases-loop-left l = l.left
