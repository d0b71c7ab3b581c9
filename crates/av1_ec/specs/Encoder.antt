-- What an encoder keeps: entries of a byte and a carry, and a window of the low end below them.
use Rattle.std.specs.Prelude.{◌≡◌, ℕ, ◌+◌, ◌-◌, ◌*◌, ◌^◌, ◌<◌, ◌≤◌, ◌⊎◌, ℤ, pos, negsuc, List, length}
use Rattle.std.specs.Int.{bytes_high_first}
use Rattle.std.specs.Int.Digits.{number_from_digits}
use Rattle.std.specs.List.{All}
use Rattle.av1_model.specs.Position.{Position, encoder_at}
use Rattle.av1_model.specs.Window.{interval_of_window, IsWindow}

-- the window begins at 2^weight, where the weight is 24 more than rav1e's count `cnt`
abbrev pub weight_of : ℤ → ℕ
weight_of (pos n) = 24 + n
weight_of (negsuc n) = 23 - n

-- each entry is a byte and at most one carry, and the window has its first weight only before the first entry
pub record IsEncoding (entries : List ℕ) (low range weight : ℕ) : Type 0 where
  pub window : IsWindow entries low range weight
  pub carries : All (λ e. e < 512) entries
  pub first : weight ≡ 15 → length entries ≡ 0
  pub shift : 8 * length entries + weight ≤ 2 ^ 28 + 2 ^ 24 + 15

-- what is known of an encoder
abbrev pub encoder_position : List ℕ → ℕ → ℕ → ℤ → ℕ → Position
encoder_position entries low range count fake = record (encoder_at (interval_of_window entries low range (weight_of count))) { fake = fake }

-- the bytes of entries, the carry of each added to the byte before it
abbrev pub bytes_of_entries : List ℕ → List ℕ
bytes_of_entries entries = bytes_high_first (length entries) (number_from_digits 256 entries)

-- entries left the window, so that d bits fit below: the low end and the number of bits are the same, and where an entry
-- left, what is left in the window is small
pub record HasRoom (old new : List ℕ) (low weight d rest place : ℕ) : Type 0 where
  pub same : number_from_digits 256 new * 2 ^ place + rest ≡ number_from_digits 256 old * 2 ^ weight + low
  pub bits : 8 * length new + place ≡ 8 * length old + weight
  pub room : place + d ≤ 23
  pub carries : All (λ e. e < 512) new
  pub left : ((rest ≡ low) × (place ≡ weight) × (new ≡ old)) ⊎ ((rest < 2 ^ place) × (16 ≤ place + d))
