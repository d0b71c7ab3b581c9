use Rattle.std.proofs.Common.{◌≡◌, ◌<◌, ◌≤◌, ℕ, length}
use Rattle.std.specs.Prelude.{slice_index}
use Rattle.av1_ec.specs.Learning.{moved}
use Rattle.av1_ec.proofs.lanes.learn_short.Given as goal

abbrev pub invariant-loop-i : goal.invariant-loop-i
invariant-loop-i l = record {
  size : length l.cdf ≡ length l.fn.cdf;
  written : (k : ℕ) → k < l.i → slice_index l.cdf k ≡ moved l.fn.rate l.fn.val k (slice_index l.fn.cdf k);
  kept : (k : ℕ) → l.i ≤ k → slice_index l.cdf k ≡ slice_index l.fn.cdf k;
}
