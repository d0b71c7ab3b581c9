use Rattle.std.proofs.Common.{◌≡◌, ◌≤◌, take}
use Rattle.av1_blocks.specs.Coefficients.{signs}
use Rattle.av1_blocks.proofs.coefficients.signs.Given as goal

abbrev pub invariant-loop-entry : goal.invariant-loop-entry
invariant-loop-entry l = (l.count ≡ signs l.sign (take l.entry-index l.entries)) × (l.count ≤ l.entry-index)
