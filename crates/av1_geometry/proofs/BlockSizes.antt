-- The sizes of a block: each number has its size.
use Rattle.std.proofs.Common.{◌≡◌, ℕ, refl}
use Rattle.std.specs.Prelude.{slice_get, IfSome}
use Rattle.av1_geometry.specs.declared.block_size.TheConstants.{ALL_SIZES}
use Rattle.av1_geometry.specs.BlockSize.{number_of}
use Rattle.av1_geometry.proofs.Numbered.{numbered_from_0}

pub sized : (n : ℕ) → IfSome (slice_get ALL_SIZES n) (λ size. number_of size ≡ n)
sized n = numbered_from_0 number_of ALL_SIZES n refl
