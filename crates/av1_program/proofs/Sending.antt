-- What a sink was sent, all of it or a front.
use Rattle.std.proofs.Common.{◌≡◌, ℕ, ◌<◌, List, length, take, Option, Result, Ok, Err, arith}
use Rattle.std.specs.Prelude.{OnOk, OnErr}
use Rattle.std.proofs.Math.Seq.{take-length}
use Rattle.av1_bits.specs.Outside.{appended}
use Rattle.av1_program.specs.Run.{IsSentFront}

-- all of it is a front of it
pub is_front : {X E : Type 0} (r : Result X E) (before after : Option (List ℕ)) (text : List ℕ) → OnOk r (after ≡ appended before text)
    → OnErr r ((k : ℕ) × (k < length text) × (after ≡ appended before (take k text))) → IsSentFront before after text
is_front (Ok x) before after text all front = (length text, omega arith, rw (take-length text) all)
is_front (Err e) before after text all front = (front.0, omega (arith, front.1), front.2)
