-- The numbers of a context by their CDFs.
use Rattle.std.specs.Prelude.{◌≡◌, ℕ, ◌+◌, ◌-◌, ◌*◌, ◌/◌, List, Bool, ◌&&◌, IsTrue, nat_eq, nat_le, nat_lt, if◌then◌else◌, length, slice_index, map}
use Rattle.std.specs.List.{range_with_len, slice_range}
use Rattle.av1_cdf.specs.Layout.{Slot, cell, is_slot, size_of_context}
use Rattle.av1_model.specs.Cdf.{IsCdf}

-- the numbers of a CDF
abbrev pub contents : List ℕ → Slot → List ℕ
contents numbers s = slice_range numbers s.place (s.place + s.len)

-- number i of a CDF of n symbols that are equally likely; the count comes to 0
abbrev pub even : ℕ → ℕ → ℕ
even n i = 32768 - 32768 * (i + 1) / n

-- the number at a place where all symbols are equally likely
abbrev pub uniform_number : ℕ → ℕ
uniform_number k = let c = cell k in even c.len (k - c.place)

-- the context whose CDFs are all even, and whose padding is 0
unfoldable pub uniform_numbers : List ℕ
uniform_numbers = map uniform_number (range_with_len 0 size_of_context)

-- whether a place is the last one of a CDF, which has the count
abbrev pub is_count : ℕ → Bool
is_count k = let c = cell k in nat_le 2 c.len && nat_eq (k + 1) (c.place + c.len)

-- a context with 0 for each count
unfoldable pub with_counts_reset : List ℕ → List ℕ
with_counts_reset numbers = map (λ k. if is_count k then 0 else slice_index numbers k) (range_with_len 0 (length numbers))

-- a list with these numbers from one place up to another
unfoldable pub written_between : List ℕ → ℕ → ℕ → List ℕ → List ℕ
written_between numbers from to ws =
    map (λ k. if nat_le from k && nat_lt k to then slice_index ws (k - from) else slice_index numbers k) (range_with_len 0 (length numbers))

-- a context with these numbers in a CDF
abbrev pub with_contents : List ℕ → Slot → List ℕ → List ℕ
with_contents numbers s ws = written_between numbers s.place (s.place + s.len) ws

-- these are the numbers of a context, and each of its distributions is valid
pub record AreCdfs (numbers : List ℕ) : Type 0 where
  pub size : length numbers ≡ size_of_context
  pub valid : (s : Slot) → IsTrue (is_slot s.place s.len) → IsCdf (contents numbers s)
