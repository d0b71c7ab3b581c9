-- How great the parts are that a place has in a context.
use Rattle.std.proofs.Common.{◌≡◌, ℕ, ◌+◌, ◌^◌, ◌≤◌, Bool, true, false, if◌then◌else◌, nat_le, nat_eq, nat_lt, ◌||◌, min, arith, ap, ◌∙◌, List, ℤ, pos, get_or, to_z, of_z, w8}
use Rattle.std.specs.Prelude.{unsigned_abs}
use Rattle.std.proofs.lemmas.Int.{to_z-of_z, to_z_pos}
use Rattle.av1_geometry.specs.declared.coefficient_tables.TheConstants.{av1_nz_map_ctx_offset}
use Rattle.av1_geometry.proofs.Lookup.{nz_offset_at}
use Rattle.av1_geometry.specs.declared.tx_size.TxSize.{TxSize}
use Rattle.av1_geometry.specs.TxSize.{tx_number, tx_width_log2, tx_height_log2}
use Rattle.av1_geometry.specs.CoefficientTables.{nz_offset, nz_offset_1d}

within : (b : Bool) (m n : ℕ) → m ≤ 21 → n ≤ 21 → (if b then m else n) ≤ 21
within true m n h k = h
within false m n h k = k

pub nz_offset_few : (size : TxSize) (row column : ℕ) → nz_offset size row column ≤ 21
nz_offset_few size row column =
    let w = tx_width_log2 size in
    let h = tx_height_log2 size in
    let high : (if nat_lt (row + column) 4 then 6 else 21) ≤ 21 = within (nat_lt (row + column) 4) 6 21 (omega arith) (omega arith) in
    within (nat_le (2 ^ w) column || nat_le (2 ^ h) row || nat_eq (row + column) 0) 0 _ (omega arith)
    (within (nat_lt w h) _ _ (within (nat_lt row 2) 11 _ (omega arith) high)
    (within (nat_lt h w) _ _ (within (nat_lt column 2) 16 _ (omega arith) high)
    (within (nat_lt (row + column) 2) 1 _ (omega arith) high)))

pub nz_offset_1d_few : (place : ℕ) → nz_offset_1d place ≤ 36
nz_offset_1d_few place = omega arith

-- a small number as a byte with a sign
small_byte : (n : ℕ) → n ≤ 21 → to_z w8 (of_z w8 (pos n)) ≡ pos n
small_byte n l = to_z-of_z w8 (pos n) (record { sfits = omega (arith, l) })

pub offset_value : (size : TxSize) (row column : ℕ) (d : List (List ℤ)) (e : List ℤ) (x : ℤ) →
    unsigned_abs (to_z w8 (of_z w8 (get_or (get_or (get_or av1_nz_map_ctx_offset (tx_number size) d) (min row 4) e) (min column 4) x))) ≡ nz_offset size (min row 4) (min column 4)
offset_value size row column d e x =
    let n = nz_offset size (min row 4) (min column 4) in
    let is = nz_offset_at size (min row 4) (min column 4) d e x (omega arith) (omega arith) in
    ap (λ v. unsigned_abs (to_z w8 (of_z w8 v))) is ∙ ap unsigned_abs (small_byte n (nz_offset_few size (min row 4) (min column 4)))

-- a context as a byte with a sign
pub context_byte : (n : ℕ) → n ≤ 40 → to_z w8 n ≡ pos n
context_byte n l = to_z_pos w8 n (omega (arith, l))
