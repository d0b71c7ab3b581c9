-- Adaptive distributions (AV1's CDFs): numbers that fall from below 32768, and a count.
use Rattle.std.specs.Prelude.{ℕ, ◌+◌, ◌-◌, ◌/◌, ◌^◌, ◌<◌, ◌≤◌, min, List, nat_eq, nat_lt, if◌then◌else◌, Option, length, slice_index, map}
use Rattle.std.specs.List.{position, range_with_len}
use Rattle.av1_model.specs.Interval.{Interval, Token, part, holds}

-- as many numbers as there are symbols, of which the last is the count
pub record IsCdf (cdf : List ℕ) : Type 0 where
  pub two : 2 ≤ length cdf
  pub few : length cdf ≤ 16
  pub below : (k : ℕ) → k + 1 < length cdf → slice_index cdf k < 32768
  pub falls : (j k : ℕ) → j ≤ k → k + 1 < length cdf → slice_index cdf k ≤ slice_index cdf j
  pub count : slice_index cdf (length cdf - 1) ≤ 32

-- the token of a symbol; the count, which ends the last one, is below 64 and so counts as 0
abbrev pub token_of : List ℕ → ℕ → Token
token_of cdf s = record { fl = (if nat_eq s 0 then 32768 else slice_index cdf (s - 1)); fh = slice_index cdf s; nms = length cdf - s }

-- the symbol whose part of the interval has the bytes
abbrev pub decoded_symbol : List ℕ → Interval → List ℕ → Option ℕ
decoded_symbol bytes i cdf = position (λ s. holds bytes (part i (token_of cdf s))) (range_with_len 0 (length cdf))

-- how slowly a distribution learns, as a power of 2
abbrev pub rate : List ℕ → ℕ
rate cdf = 3 + min (length cdf / 2) 2 + slice_index cdf (length cdf - 1) / 16

-- number k of a distribution after symbol s: those before s rise towards 32768, the others fall, and the count rises to 32
abbrev pub adapted : List ℕ → ℕ → ℕ → ℕ
adapted cdf s k =
    let v = slice_index cdf k in
    if nat_eq (k + 1) (length cdf) then min (v + 1) 32 else if nat_lt k s then v + (32768 - v) / 2 ^ rate cdf else v - v / 2 ^ rate cdf

-- a distribution after symbol s
abbrev pub adapt : List ℕ → ℕ → List ℕ
adapt cdf s = map (adapted cdf s) (range_with_len 0 (length cdf))
