use Rattle.std.proofs.Common.{◌≡◌, ℕ, slice_index}
use Rattle.av1_coef.specs.Padded.{sizes_of}
use Rattle.av1_coef.proofs.LevelSteps.{columns}
use Rattle.av1_coef.proofs.levels.txb_init_levels.Given as goal

abbrev pub invariant-loop-c : goal.invariant-loop-c
invariant-loop-c g l = (p : ℕ) → slice_index l.levels p ≡ columns l.height l.levels_stride (sizes_of g.T.Coefficient.value l.coeffs) l.fn.levels l.c p
