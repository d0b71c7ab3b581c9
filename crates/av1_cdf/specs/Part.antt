-- What one part of a log undoes: saves that all have as many numbers.
use Rattle.std.specs.Prelude.{ℕ, ◌+◌, ◌-◌, List, [], ◌∷◌, Bool, ◌&&◌, nat_le, nat_lt, if◌then◌else◌, length, slice_index, map, vec_len, vec_capacity}
use Rattle.std.specs.List.{list_all, range_with_len, slice_range}
use Rattle.av1_cdf.specs.declared.part.Part.{Part}
use Rattle.av1_cdf.specs.declared.part.Save.{Save}

-- how many saves fit before more memory is needed
abbrev pub part_spare : {n : ℕ} → Part n → ℕ
part_spare part = vec_capacity part.saves - vec_len part.saves

-- n numbers of a context from a place on
abbrev pub window : (n : ℕ) → List ℕ → ℕ → Save n
window n context place = record { place = place; numbers = slice_range context place (place + n) }

-- whether saves of n numbers lie in the context
abbrev pub all_fit : (n : ℕ) → List (Save n) → Bool
all_fit n saves = list_all (λ s. nat_le (s.place + n) 5528) saves

-- whether a save of n numbers has the number at a place
abbrev pub has : (n : ℕ) → Save n → ℕ → Bool
has n s k = nat_le s.place k && nat_lt k (s.place + n)

-- the number at a place in the first of these saves that has it, and v where none has
abbrev pub undone_number : (n : ℕ) → List (Save n) → ℕ → ℕ → ℕ
undone_number n [] k v = v
undone_number n (s ∷ ss) k v = if has n s k then slice_index s.numbers (k - s.place) else undone_number n ss k v

-- the context in which each number that these saves of n numbers have is that of the first that has it
unfoldable pub undone_part : (n : ℕ) → List (Save n) → List ℕ → List ℕ
undone_part n saves context = map (λ k. undone_number n saves k (slice_index context k)) (range_with_len 0 (length context))
