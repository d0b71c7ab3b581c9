-- The contexts of a coefficient's level: coeff_base, coeff_base_eob and coeff_br of the AV1 specification, "CDF selection process" (8.3.2).
-- A level is the size of a coefficient. Columns and rows count on to the right and down.
use Rattle.std.specs.Prelude.{ℕ, ◌+◌, ◌*◌, ◌/◌, ◌%◌, ◌^◌, ◌&&◌, List, [], ◌∷◌, Bool, nat_eq, nat_lt, nat_le, min, sum, map, if◌then◌else◌, slice_index, false}
use Rattle.av1_geometry.specs.declared.tx_size.TxSize.{TxSize}
use Rattle.av1_geometry.specs.declared.tx_type.TxClass.{TxClass}
use Rattle.av1_geometry.specs.declared.tx_type.TxClass.TheVariants.{TX_CLASS_2D, TX_CLASS_HORIZ, TX_CLASS_VERT}
use Rattle.av1_geometry.specs.CoefficientTables.{nz_offset, nz_offset_1d}
use Rattle.av1_geometry.specs.TxSize.{tx_width_log2, tx_height_log2, tx_number, tx_sqr, tx_sqr_up}

-- so many columns and rows on
pub record Step : Type 0 where
  pub columns : ℕ
  pub rows : ℕ

abbrev pub step : ℕ → ℕ → Step
step c r = record { columns = c; rows = r }

-- the places whose levels make the base context of a place: Sig_Ref_Diff_Offset
abbrev pub base_steps : TxClass → List Step
base_steps TX_CLASS_2D = step 0 1 ∷ step 1 0 ∷ step 1 1 ∷ step 0 2 ∷ step 2 0 ∷ []
base_steps TX_CLASS_HORIZ = step 0 1 ∷ step 1 0 ∷ step 2 0 ∷ step 3 0 ∷ step 4 0 ∷ []
base_steps TX_CLASS_VERT = step 0 1 ∷ step 1 0 ∷ step 0 2 ∷ step 0 3 ∷ step 0 4 ∷ []

-- and those that make its range context: Mag_Ref_Offset_With_Tx_Class
abbrev pub range_steps : TxClass → List Step
range_steps TX_CLASS_2D = step 0 1 ∷ step 1 0 ∷ step 1 1 ∷ []
range_steps TX_CLASS_HORIZ = step 0 1 ∷ step 1 0 ∷ step 2 0 ∷ []
range_steps TX_CLASS_VERT = step 0 1 ∷ step 1 0 ∷ step 0 2 ∷ []

-- the levels at these steps from a place, each up to `most`; `level` has them by column and row
abbrev pub near_sum : ℕ → (ℕ → ℕ → ℕ) → ℕ → ℕ → List Step → ℕ
near_sum most level c r steps = sum (map (λ s. min (level (c + s.columns) (r + s.rows)) most) steps)

-- the part that the place itself has in the base context: Coeff_Base_Ctx_Offset and Coeff_Base_Pos_Ctx_Offset
abbrev pub place_offset : TxClass → TxSize → ℕ → ℕ → ℕ
place_offset TX_CLASS_2D size c r = nz_offset size (min r 4) (min c 4)
place_offset TX_CLASS_HORIZ size c r = nz_offset_1d c
place_offset TX_CLASS_VERT size c r = nz_offset_1d r

-- the first place of a two-dimensional transform
abbrev pub is_corner : TxClass → ℕ → ℕ → Bool
is_corner TX_CLASS_2D c r = nat_eq (c + r) 0
is_corner TX_CLASS_HORIZ c r = false
is_corner TX_CLASS_VERT c r = false

-- what the levels near a place have in its base context
abbrev pub base_magnitude : TxClass → (ℕ → ℕ → ℕ) → ℕ → ℕ → ℕ
base_magnitude class level c r = min ((near_sum 3 level c r (base_steps class) + 1) / 2) 4

-- the context of coeff_base at a place
abbrev pub base_context : TxClass → TxSize → (ℕ → ℕ → ℕ) → ℕ → ℕ → ℕ
base_context class size level c r =
    if is_corner class c r then 0 else base_magnitude class level c r + place_offset class size c r

-- the low frequencies, which have range contexts of their own
abbrev pub is_low : TxClass → ℕ → ℕ → Bool
is_low TX_CLASS_2D c r = nat_lt r 2 && nat_lt c 2
is_low TX_CLASS_HORIZ c r = nat_eq c 0
is_low TX_CLASS_VERT c r = nat_eq r 0

-- what the levels near a place have in its range context
abbrev pub range_magnitude : TxClass → (ℕ → ℕ → ℕ) → ℕ → ℕ → ℕ
range_magnitude class level c r = min ((near_sum 15 level c r (range_steps class) + 1) / 2) 6

-- the part that the place itself has in its range context
abbrev pub range_offset : TxClass → ℕ → ℕ → ℕ
range_offset class c r = if nat_eq (c + r) 0 then 0 else if is_low class c r then 7 else 14

-- the context of coeff_br at a place
abbrev pub range_context : TxClass → (ℕ → ℕ → ℕ) → ℕ → ℕ → ℕ
range_context class level c r = range_magnitude class level c r + range_offset class c r

-- the context of coeff_base_eob, by the place in the scan, in a block of so many coefficients
abbrev pub last_context : ℕ → ℕ → ℕ
last_context area i = if nat_eq i 0 then 0 else if nat_le i (area / 8) then 1 else if nat_le i (area / 4) then 2 else 3

-- the logarithms of the sides of the coefficients that are coded: sides of 64 count as 32
abbrev pub coded_width_log2 : TxSize → ℕ
coded_width_log2 size = min (tx_width_log2 size) 5

abbrev pub coded_height_log2 : TxSize → ℕ
coded_height_log2 size = min (tx_height_log2 size) 5

abbrev pub coded_width : TxSize → ℕ
coded_width size = 2 ^ coded_width_log2 size

abbrev pub coded_height : TxSize → ℕ
coded_height size = 2 ^ coded_height_log2 size

abbrev pub coded_area : TxSize → ℕ
coded_area size = coded_width size * coded_height size

-- the base context of the coefficient at place i of a scan of which n are coded; position c * h + r is that of column c and row r
abbrev pub scan_context : TxClass → TxSize → (ℕ → ℕ → ℕ) → List ℕ → ℕ → ℕ → ℕ
scan_context class size level scan n i =
    let h = coded_height size in
    let p = slice_index scan i in
    if nat_eq (i + 1) n then last_context (coded_area size) i else base_context class size level (p / h) (p % h)

-- the context of a transform's size: txSzCtx
abbrev pub size_context : TxSize → ℕ
size_context size = (tx_number (tx_sqr size) + tx_number (tx_sqr_up size) + 1) / 2
