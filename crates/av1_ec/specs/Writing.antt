-- What holds of every writer, whichever it is.
use Rattle.std.specs.Prelude.{ℕ, ◌+◌, ◌-◌, ◌*◌, ◌/◌, ◌^◌, ◌≤◌, Option, Some, None}
use Rattle.av1_model.specs.Interval.{IsInterval}
use Rattle.av1_model.specs.Position.{Position, interval_of}

-- a position that a writer can have: its interval is valid, and its bits fit the numbers that count them
pub record IsPosition (p : Position) : Type 0 where
  pub interval : IsInterval (interval_of p)
  pub shift : p.shift ≤ 2 ^ 28 + 2 ^ 24
  pub fake : p.fake ≤ 2 ^ 28

-- a position has no more bits than a writer may have
abbrev pub HasFewBits : Position → Type 0
HasFewBits p = p.shift ≤ 2 ^ 28 + 2 ^ 24

-- with more fake bits
abbrev pub with_fake : Position → ℕ → Position
with_fake p more = record p { fake = p.fake + more }

-- an encoder's stream is whole bytes, and its window has 1 to 8 bits more; another writer's is all bits
abbrev pub stream_bits_of : Option ℕ → ℕ → ℕ
stream_bits_of None shift = shift
stream_bits_of (Some low) shift = 8 * ((shift - 1) / 8)

abbrev pub stream_bits_at : Position → ℕ
stream_bits_at p = stream_bits_of p.low p.shift
