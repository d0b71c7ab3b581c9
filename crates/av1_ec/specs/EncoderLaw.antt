-- An encoder's position is a valid one.
use Rattle.std.specs.Prelude.{ℕ, ℤ, ◌^◌, ◌≤◌, List}
use Rattle.std.proofs.Common.{arith}
use Rattle.std.proofs.Math.Logic.{∥∥₁_elim}
use Rattle.std.proofs.Props.{props}
use Rattle.av1_ec.specs.Encoder.{weight_of, IsEncoding, encoder_position}
use Rattle.av1_ec.specs.Writing.{IsPosition}

pub position_valid : (entries : List ℕ) (low range : ℕ) (count : ℤ) (fake : ℕ) → ∥ IsEncoding entries low range (weight_of count) ∥₁ →
    fake ≤ 2 ^ 28 → IsPosition (encoder_position entries low range count fake)
position_valid entries low range count fake h f =
    ∥∥₁_elim h (hlevel props) (λ e. record { interval = e.window.valid; shift = omega (arith, e.shift); fake = f })
