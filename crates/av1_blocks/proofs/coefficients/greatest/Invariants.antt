use Rattle.std.proofs.Common.{◌≡◌, take}
use Rattle.av1_blocks.specs.Coefficients.{greatest}
use Rattle.av1_blocks.proofs.coefficients.greatest.Given as goal

abbrev pub invariant-loop-entry : goal.invariant-loop-entry
invariant-loop-entry l = l.most ≡ greatest (take l.entry-index l.entries)
