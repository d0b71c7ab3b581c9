-- What a recorder keeps: its tokens, and the range and the bits after them.
use Rattle.std.specs.Prelude.{◌≡◌, ℕ, ◌+◌, ◌^◌, ◌≤◌, List, [], map, take, length, Some, unwrap_or}
use Rattle.std.specs.List.{All}
use Rattle.av1_ec.specs.Checkpoint.{reach}
use Rattle.av1_ec.specs.Counter.{counter_position}
use Rattle.av1_ec.specs.declared.recorder.Recorded.{Recorded}
use Rattle.av1_ec.specs.declared.storage.WriterCheckpoint.{WriterCheckpoint}
use Rattle.av1_model.specs.Interval.{Token, IsToken}
use Rattle.av1_model.specs.Position.{Position, advance_all}

-- the token that is kept as this
abbrev pub token_in : Recorded → Token
token_in r = record { fl = r.fl; fh = r.fh; nms = r.nms }

abbrev pub tokens_in : List Recorded → List Token
tokens_in rs = map token_in rs

-- what is known of a recorder
abbrev pub recorder_position : List Token → ℕ → ℕ → ℕ → Position
recorder_position tokens range bits fake = record (counter_position range bits fake) { tokens = Some tokens }

-- a recorder's tokens
abbrev pub tokens_at : Position → List Token
tokens_at p = unwrap_or p.tokens []

-- the range and the bits are those after the tokens, and there are no more bits than a writer may have
pub record IsRecording (tokens : List Token) (range bits : ℕ) : Type 0 where
  pub valid : All IsToken tokens
  pub range_after : (advance_all (counter_position 32768 0 0) tokens).range ≡ range
  pub shift_after : (advance_all (counter_position 32768 0 0) tokens).shift ≡ bits
  pub few : bits ≤ 2 ^ 28 + 2 ^ 24

-- a recorder has the tokens of a checkpoint, and the checkpoint's range and bits are those after them
pub record IsRecorded (tokens : List Token) (c : WriterCheckpoint) : Type 0 where
  pub there : reach c ≤ length tokens
  pub recording : IsRecording (take (reach c) tokens) c.rng c.backend_var
