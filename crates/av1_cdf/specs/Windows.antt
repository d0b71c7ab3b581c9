-- The windows that saves have: a CDF of at most 4 numbers lies in a region of such CDFs, and each longer one in a region of these.
use Rattle.std.specs.Prelude.{ℕ, ◌+◌, ◌-◌, ◌*◌, List, Bool, ◌&&◌, ◌||◌, nat_le, nat_lt, if◌then◌else◌}
use Rattle.std.specs.List.{list_all}
use Rattle.av1_cdf.specs.Layout.{Field, count_in, length_in}
use Rattle.av1_cdf.specs.declared.part.Save.{Save}

-- whether a place is in one of the three regions that have the CDFs of at most 4 numbers; the others are longer
abbrev pub is_short : ℕ → Bool
is_short k = nat_lt k 3312 || (nat_le 5400 k && nat_lt k 5456) || (nat_le 5472 k && nat_lt k 5512)

-- whether windows of 4 numbers that begin from one place up to another lie in one region of short CDFs
abbrev pub short_windows : ℕ → ℕ → Bool
short_windows from to = nat_le (to + 4) 3312 || (nat_le 5400 from && nat_le (to + 4) 5456) || (nat_le 5472 from && nat_le (to + 4) 5512)

-- whether windows of 16 numbers that begin from one place up to another lie in one region of long CDFs
abbrev pub long_windows : ℕ → ℕ → Bool
long_windows from to = (nat_le 3312 from && nat_le (to + 16) 5400) || (nat_le 5456 from && nat_le (to + 16) 5472) || (nat_le 5512 from && nat_le (to + 16) 5528)

-- whether the windows of a field's CDFs lie in one region, from its first CDF to its last; padding has none
abbrev pub windows_fit : Field → Bool
windows_fit f =
    let n = length_in f.dimensions in
    let last = f.place + count_in f.dimensions * n - n in
    nat_lt n 2 || (if nat_le n 4 then short_windows f.place last else long_windows f.place last)

-- whether saves of 4 numbers, or of 16, lie in their regions
abbrev pub all_short : List (Save 4) → Bool
all_short saves = list_all (λ s. short_windows s.place s.place) saves

abbrev pub all_long : List (Save 16) → Bool
all_long saves = list_all (λ s. long_windows s.place s.place) saves
