-- Levels as the code has them: columns one after another, each with places of padding below it.
use Rattle.std.specs.Prelude.{◌≡◌, ℕ, ◌+◌, ◌-◌, ◌*◌, ◌/◌, ◌%◌, ◌<◌, ◌≤◌, min, ℤ, pos, unsigned_abs, List, slice_index, length, map}
use Rattle.std.specs.Prelude.{Bool, ◌&&◌, nat_le, nat_lt, if◌then◌else◌}
use Rattle.std.specs.List.{range_with_len}
use Rattle.av1_geometry.specs.declared.tx_size.TxSize.{TxSize}
use Rattle.av1_geometry.specs.declared.tx_type.TxClass.{TxClass}
use Rattle.av1_coef.specs.Contexts.{base_context, last_context, scan_context, coded_height}

-- the level at column c and row r, in columns of h rows and four places of padding
abbrev pub level_in : ℕ → List ℕ → ℕ → ℕ → ℕ
level_in h levels c r = slice_index levels (c * (h + 4) + r)

-- levels by column and row, from levels by position in a block of w columns and h rows: none outside
abbrev pub in_block : ℕ → ℕ → (ℕ → ℕ) → ℕ → ℕ → ℕ
in_block w h at c r = if nat_lt c w && nat_lt r h then at (c * h + r) else 0

-- levels up to `most`
abbrev pub cut : ℕ → (ℕ → ℕ) → ℕ → ℕ
cut most at p = min (at p) most

-- the padded levels of a block: those of its positions up to 127, and none around it
abbrev pub IsPadded : ℕ → ℕ → (ℕ → ℕ) → List ℕ → Type 0
IsPadded w h at levels = (c r : ℕ) → c < w + 4 → r < h + 4 → level_in h levels c r ≡ in_block w h (cut 127 at) c r

-- the context of coeff_base_eob or coeff_base of position p, from padded levels in columns of h rows
abbrev pub padded_context : Bool → ℕ → ℕ → TxClass → TxSize → ℕ → List ℕ → ℕ → ℕ
padded_context is_last area i class size h levels p =
    if is_last then last_context area i else base_context class size (level_in h levels) (p / h) (p % h)

-- the contexts of coeff_base_eob and coeff_base of the first n positions of a scan, from padded levels
abbrev pub padded_contexts : TxClass → TxSize → List ℕ → List ℕ → ℕ → List ℤ
padded_contexts class size levels scan n =
    map (λ i. pos (scan_context class size (level_in (coded_height size) levels) scan n i)) (range_with_len 0 n)

-- the sizes of coefficients
abbrev pub sizes_of : {T : Type 0} → (T → ℤ) → List T → List ℕ
sizes_of value coefficients = map (λ x. unsigned_abs (value x)) coefficients

abbrev pub coeff_size : {T : Type 0} → (T → ℤ) → List T → ℕ → ℕ
coeff_size value coefficients = slice_index (sizes_of value coefficients)

-- room for the padded levels of w columns of h coefficients, n in all, with nothing in it
pub record IsRoom (w h stride n : ℕ) (levels : List ℕ) : Type 0 where
  pub columns : stride ≡ h + 4
  pub coefficients : w * h ≡ n
  pub places : (w + 4) * (h + 4) ≤ length levels
  pub zeros : (p : ℕ) → slice_index levels p ≡ 0

-- whether a place in columns of `stride` levels has a coefficient, in columns of `height`: only whole columns count
abbrev pub is_coded : ℕ → ℕ → ℕ → ℕ → ℕ → Bool
is_coded height coefficients stride places p =
    nat_lt (p / stride) (coefficients / height) && nat_lt (p / stride) (places / stride) && nat_lt (p % stride) height

-- the levels at a place after so many levels of a column are written, from place `at` on, from the sizes from place `from` on
abbrev pub column_after : List ℕ → List ℕ → ℕ → ℕ → ℕ → ℕ → ℕ
column_after sizes levels from at rows p =
    if nat_le at p && nat_lt p (at + rows) then min (slice_index sizes (from + (p - at))) 127 else slice_index levels p

-- the level at a place: that of its coefficient up to 127, else what was there
abbrev pub level_after : ℕ → List ℕ → ℕ → List ℕ → ℕ → ℕ
level_after height sizes stride levels p =
    if is_coded height (length sizes) stride (length levels) p then min (slice_index sizes (p / stride * height + p % stride)) 127
    else slice_index levels p
