use Rattle.std.proofs.Common.{◌≡◌, ◌≤◌, ◌-◌, length, drop, take}
use Rattle.av1_cdf.specs.Part.{undone_part}
use Rattle.av1_cdf.proofs.part.Part.undo.Given as goal

abbrev pub invariant-loop-at : goal.invariant-loop-at
invariant-loop-at g l = record {
  least : l.left ≤ l.at;
  most : l.at ≤ length l.self.saves.items;
  same : undone_part g.row.N (drop l.left (take l.at l.self.saves.items)) l.fc-inside.numbers.xs ≡ undone_part g.row.N (drop l.left l.self.saves.items) l.fn.fc;
}

abbrev pub decreases-loop-at : goal.decreases-loop-at
decreases-loop-at g l = l.at - l.left
