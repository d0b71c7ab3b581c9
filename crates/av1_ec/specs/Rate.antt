-- What a writer tells of the bits that its symbols take.
use Rattle.std.specs.Prelude.{◌≡◌, ℕ, ◌+◌, ◌*◌, ◌/◌, List, [], ◌∷◌}
use Rattle.av1_ec.specs.Counter.{counter_position}
use Rattle.av1_ec.specs.Recorder.{recorder_position, tokens_at}
use Rattle.av1_ec.specs.Writing.{with_fake}
use Rattle.av1_model.specs.Eighths.{eighths}
use Rattle.av1_model.specs.Interval.{Interval, Token, narrow, whole}
use Rattle.av1_model.specs.Position.{Position, interval_of, advance_all, encoder_at}

-- in whole bits: those that were shifted out, one more, and the whole fake bits
abbrev pub tell_at : Position → ℕ
tell_at p = p.shift + 1 + p.fake / 256

-- in eighths of a bit: each whole fake bit counts as eight of them, and each 256th once more as one
abbrev pub tell_frac_at : Position → ℕ
tell_frac_at p = eighths (interval_of p) + 8 * (p.fake / 256) + p.fake

-- new writers
abbrev pub new_counter : Position
new_counter = counter_position 32768 0 0

abbrev pub new_recorder : Position
new_recorder = recorder_position [] 32768 0 0

abbrev pub new_encoder : Position
new_encoder = encoder_at whole

-- after tokens, and with fake bits
abbrev pub told : Position → List Token → ℕ → Position
told p ts fake = with_fake (advance_all p ts) fake

-- this holds of where a recorder's tokens bring a new writer of any kind
abbrev pub AfterReplay : Position → (Position → Type 0) → Type 0
AfterReplay recorder Holds =
    (q : Position) → q.range ≡ 32768 → q.shift ≡ 0 → Holds (advance_all q (tokens_at recorder))

-- what tokens leave of an interval, in order
abbrev pub narrow_all : Interval → List Token → Interval
narrow_all i [] = i
narrow_all i (t ∷ ts) = narrow_all (narrow i t) ts
