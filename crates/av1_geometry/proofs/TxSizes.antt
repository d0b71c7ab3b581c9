-- The sizes of a transform: each number has its size.
use Rattle.std.proofs.Common.{◌≡◌, ℕ, refl}
use Rattle.std.specs.Prelude.{slice_get, IfSome}
use Rattle.av1_geometry.specs.declared.tx_size.TheConstants.{ALL_TX_SIZES}
use Rattle.av1_geometry.specs.TxSize.{tx_number}
use Rattle.av1_geometry.proofs.Numbered.{numbered_from_0}

pub sized : (n : ℕ) → IfSome (slice_get ALL_TX_SIZES n) (λ size. tx_number size ≡ n)
sized n = numbered_from_0 tx_number ALL_TX_SIZES n refl
