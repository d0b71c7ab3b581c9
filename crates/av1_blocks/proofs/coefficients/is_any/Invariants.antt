use Rattle.std.proofs.Common.{◌≡◌, take}
use Rattle.av1_blocks.specs.Coefficients.{is_any}
use Rattle.av1_blocks.proofs.coefficients.is_any.Given as goal

abbrev pub invariant-loop-entry : goal.invariant-loop-entry
invariant-loop-entry l = l.any ≡ is_any (take l.entry-index l.entries)
