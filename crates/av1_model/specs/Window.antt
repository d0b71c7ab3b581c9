-- An encoder keeps the low end of its interval as entries of a byte and a carry, and a window below them.
use Rattle.std.specs.Prelude.{ℕ, ◌+◌, ◌-◌, ◌*◌, ◌^◌, ◌≤◌, List, length}
use Rattle.std.specs.Int.Digits.{number_from_digits}
use Rattle.av1_model.specs.Interval.{Interval, IsInterval}

-- the interval of entries and a window that begins at 2^weight
abbrev pub interval_of_window : List ℕ → ℕ → ℕ → ℕ → Interval
interval_of_window entries low range weight = record {
  low = number_from_digits 256 entries * 2 ^ weight + low;
  range = range;
  shift = 8 * length entries + weight - 15;
}

-- the window has room for the range, and the entries and the window make an interval
pub record IsWindow (entries : List ℕ) (low range weight : ℕ) : Type 0 where
  pub least : 15 ≤ weight
  pub most : weight ≤ 23
  pub room : low + range ≤ 2 ^ (weight + 1)
  pub valid : IsInterval (interval_of_window entries low range weight)
