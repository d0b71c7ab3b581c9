use Rattle.std.proofs.Common.{◌≡◌, ℕ, ◌<◌, ◌≤◌, drop, length, true, false}
use Rattle.std.specs.Prelude.{slice_index_or}
use Rattle.av1_coef.specs.Scans.{is_in, each_once, all_there}
use Rattle.av1_coef.proofs.scans.is_permutation.Given as goal

abbrev pub invariant-loop-left : goal.invariant-loop-left
invariant-loop-left l = record {
  most : l.left ≤ length l.scan;
  once : each_once l.area (drop l.left l.scan) ≡ true;
  seen : (q : ℕ) → q < 1024 → slice_index_or l.seen q false ≡ is_in (drop l.left l.scan) q;
}

abbrev pub decreases-loop-left : goal.decreases-loop-left
decreases-loop-left l = l.left

abbrev pub invariant-loop-p : goal.invariant-loop-p
invariant-loop-p l = all_there l.p l.scan ≡ true
