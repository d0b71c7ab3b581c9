use Rattle.std.proofs.Common.{ℕ, ◌-◌, ◌≤◌, max, Bool, List}
use Rattle.av1_header.specs.Rows.{Wrote}
use Rattle.av1_header.specs.Tiles.{increments}
use Rattle.av1_header.proofs.tiles.write_increments.Given as goal

-- what is left and what was written make the whole
abbrev pub invariant-loop-k : goal.invariant-loop-k
invariant-loop-k l = record {
  from : l.least ≤ l.k;
  to : l.k ≤ max l.least l.goal;
  rest : (a : ℕ) (r : Bool) (new : List Bool) → Wrote (increments (l.most - l.k) l.k) l.goal a l.refused r l.bits new → Wrote (increments (l.most - l.least) l.least) l.goal a l.fn.refused r l.fn.bits new;
}

abbrev pub decreases-loop-k : goal.decreases-loop-k
decreases-loop-k l = l.most - l.k
