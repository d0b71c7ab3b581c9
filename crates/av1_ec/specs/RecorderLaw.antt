-- A recorder's position is a valid one.
use Rattle.std.specs.Prelude.{ℕ, ◌≡◌, ◌+◌, ◌^◌, ◌≤◌, List}
use Rattle.std.proofs.Common.{arith, ap}
use Rattle.std.proofs.Math.Logic.{∥∥₁_elim}
use Rattle.std.proofs.Props.{props}
use Rattle.av1_ec.specs.Counter.{counter_position}
use Rattle.av1_ec.specs.Recorder.{IsRecording, recorder_position}
use Rattle.av1_ec.specs.Writing.{IsPosition}
use Rattle.av1_model.specs.Interval.{Token, IsInterval}
use Rattle.av1_model.specs.Position.{advance_all}
use Rattle.av1_model.proofs.Tokens.{whole_valid}
use Rattle.av1_model.proofs.Positions.{advance_all_valid}

-- the interval that a recorder's range and bits are of
pub recording_interval : (tokens : List Token) (range bits : ℕ) → IsRecording tokens range bits →
    IsInterval (record { low = 0; range = range; shift = bits })
recording_interval tokens range bits r =
    let p = advance_all (counter_position 32768 0 0) tokens in
    let v = advance_all_valid (counter_position 32768 0 0) tokens whole_valid r.valid in
    let e : 2 ^ (15 + p.shift) ≡ 2 ^ (15 + bits) = ap (λ n. 2 ^ (15 + n)) r.shift_after in
    record {
      wide = omega (arith, v.wide, r.range_after);
      below = omega (arith, v.below, r.range_after);
      inside = omega (arith, v.inside, e, r.range_after);
    }

pub recording_valid : (tokens : List Token) (range bits fake : ℕ) → ∥ IsRecording tokens range bits ∥₁ →
    fake ≤ 2 ^ 28 → IsPosition (recorder_position tokens range bits fake)
recording_valid tokens range bits fake h f =
    ∥∥₁_elim h (hlevel props) (λ r. record { interval = recording_interval tokens range bits r; shift = r.few; fake = f })
