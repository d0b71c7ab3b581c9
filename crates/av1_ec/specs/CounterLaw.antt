-- A counter's position is a valid one.
use Rattle.std.specs.Prelude.{ℕ, ◌^◌, ◌≤◌}
use Rattle.std.proofs.Math.Logic.{∥∥₁_elim}
use Rattle.std.proofs.Props.{props}
use Rattle.av1_ec.specs.Counter.{IsCount, counter_position}
use Rattle.av1_ec.specs.Writing.{IsPosition}

pub count_valid : (range bits fake : ℕ) → ∥ IsCount range bits ∥₁ → fake ≤ 2 ^ 28 → IsPosition (counter_position range bits fake)
count_valid range bits fake h f =
    ∥∥₁_elim h (hlevel props) (λ c. record { interval = c.interval; shift = c.few; fake = f })
