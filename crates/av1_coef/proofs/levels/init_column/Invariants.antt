use Rattle.std.proofs.Common.{◌≡◌, ℕ, slice_index}
use Rattle.av1_coef.specs.Padded.{sizes_of, column_after}
use Rattle.av1_coef.proofs.levels.init_column.Given as goal

abbrev pub invariant-loop-r : goal.invariant-loop-r
invariant-loop-r g l = (p : ℕ) → slice_index l.levels p ≡ column_after (sizes_of g.T.Coefficient.value l.coeffs) l.fn.levels l.from l.at l.r p
