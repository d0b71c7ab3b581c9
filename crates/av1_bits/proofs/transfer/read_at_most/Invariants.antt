use Rattle.std.proofs.Common.{◌≡◌, ◌-◌, ◌≤◌, ℕ, List, length, take, Some}
use Rattle.av1_bits.specs.Outside.{Takes}
use Rattle.av1_bits.proofs.transfer.read_at_most.Given as goal

abbrev pub invariant-loop-bytes : goal.invariant-loop-bytes
invariant-loop-bytes g l = record {
  few : length l.bytes.items ≤ l.most;
  taken : Takes (length l.bytes.items) (g.R.Source.left l.initial.source) (g.R.Source.left l.source);
  front : (all : List ℕ) → g.R.Source.left l.initial.source ≡ Some all → l.bytes.items ≡ take (length l.bytes.items) all;
  count : g.R.Source.faults l.source ≡ g.R.Source.faults l.initial.source;
}

abbrev pub decreases-loop-bytes : goal.decreases-loop-bytes
decreases-loop-bytes g l = l.most - length l.bytes.items
