-- The layout as the code has it: runs of CDFs of one length.
use Rattle.std.specs.Prelude.{◌≡◌, ℕ, ◌+◌, ◌*◌, ◌<◌, ◌≤◌, List, Bool, ◌&&◌, nat_eq, nat_le, nat_lt, map, slice_index_or}
use Rattle.std.specs.List.{list_any}
use Rattle.av1_cdf.specs.declared.run.Run.{Run}
use Rattle.av1_cdf.specs.declared.run.Cell.{Cell}
use Rattle.av1_cdf.specs.Slots.{cell_of}
use Rattle.av1_cdf.specs.Layout.{Field, layout, count_in, length_in}

abbrev pub run_of : Field → Run
run_of f = record { place = f.place; count = count_in f.dimensions; len = length_in f.dimensions }

unfoldable pub runs : List Run
runs = map run_of layout

abbrev pub is_run : Run → Field → Bool
is_run r f = nat_eq r.place f.place && nat_eq r.count (count_in f.dimensions) && nat_eq r.len (length_in f.dimensions)

-- whether these are CDFs of one field
unfoldable pub has_run : Run → Bool
has_run r = nat_le 2 r.len && list_any (is_run r) layout

-- the place past the end of a run
abbrev pub end_of : Run → ℕ
end_of r = r.place + r.count * r.len

-- whether a run has a place
abbrev pub is_in : ℕ → Run → Bool
is_in k r = nat_le r.place k && nat_lt k (end_of r)

-- the run of a number
abbrev pub run_at : ℕ → Run
run_at i = slice_index_or runs i record { place = 0; count = 0; len = 0 }

-- a run has a place
pub record Has (i k : ℕ) : Type 0 where
  pub run : i < 72
  pub from : (run_at i).place ≤ k
  pub to : k < end_of (run_at i)

-- a run has a place, or ends there
pub record HasOrEnds (i k : ℕ) : Type 0 where
  pub run : i < 72
  pub from : (run_at i).place ≤ k
  pub to : k ≤ end_of (run_at i)

-- what a walk over all places has of the one before a place: nothing before the first, and then its CDF
pub record IsBefore (c : Cell) (k : ℕ) : Type 0 where
  pub first : k ≡ 0 → c.place + c.len ≡ 0
  pub last : (j : ℕ) → j + 1 ≡ k → c ≡ cell_of j
