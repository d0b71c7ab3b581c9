-- The rules of the tables of coefficients.
use Rattle.std.specs.Prelude.{◌≡◌, ℕ, ◌+◌, ◌-◌, ◌*◌, ◌^◌, pos, nat_eq, nat_lt, nat_le, ◌||◌, if◌then◌else◌, min, map, count_by}
use Rattle.std.specs.List.{range_with_len}
use Rattle.av1_geometry.specs.declared.tx_size.TxSize.{TxSize}
use Rattle.av1_geometry.specs.declared.tx_size.TheConstants.{ALL_TX_SIZES}
use Rattle.av1_geometry.specs.declared.coefficient_tables.TheConstants.{eob_to_pos_small, eob_to_pos_large, k_eob_group_start}
use Rattle.av1_geometry.specs.declared.coefficient_tables.TheConstants.{k_eob_offset_bits, av1_nz_map_ctx_offset, nz_map_ctx_offset_1d}
use Rattle.av1_geometry.specs.TxSize.{tx_width_log2, tx_height_log2}

-- the least end of a class: 0, 1, 2, and then one more than a power of two
abbrev pub group_start : ℕ → ℕ
group_start class = if nat_lt class 2 then class else 2 ^ (class - 2) + 1

-- the bits that tell the ends of a class apart
abbrev pub offset_bits : ℕ → ℕ
offset_bits class = class - 2

-- the class of an end: how many classes above the first have started
abbrev pub eob_class : ℕ → ℕ
eob_class eob = count_by (λ class. nat_le (group_start class) eob) (range_with_len 1 11)

-- the context offset of a coefficient by the shape of its transform and its place: near the corner, and by the shorter side where the sides differ
abbrev pub nz_offset : TxSize → ℕ → ℕ → ℕ
nz_offset size row column =
    let w = tx_width_log2 size in
    let h = tx_height_log2 size in
    if nat_le (2 ^ w) column || nat_le (2 ^ h) row || nat_eq (row + column) 0 then 0
    else if nat_lt w h then (if nat_lt row 2 then 11 else if nat_lt (row + column) 4 then 6 else 21)
    else if nat_lt h w then (if nat_lt column 2 then 16 else if nat_lt (row + column) 4 then 6 else 21)
    else if nat_lt (row + column) 2 then 1
    else if nat_lt (row + column) 4 then 6
    else 21

-- the same along a one-dimensional transform
abbrev pub nz_offset_1d : ℕ → ℕ
nz_offset_1d place = 26 + 5 * min place 2

abbrev pub GroupsStart : Type 0
GroupsStart = k_eob_group_start ≡ map group_start (range_with_len 0 12)

abbrev pub GroupsHaveOffsetBits : Type 0
GroupsHaveOffsetBits = k_eob_offset_bits ≡ map offset_bits (range_with_len 0 12)

abbrev pub SmallEnds : Type 0
SmallEnds = eob_to_pos_small ≡ map eob_class (range_with_len 0 33)

-- by the greatest end of each 32
abbrev pub LargeEnds : Type 0
LargeEnds = eob_to_pos_large ≡ map (λ i. eob_class (32 * i + 32)) (range_with_len 0 17)

abbrev pub OffsetsByShape : Type 0
OffsetsByShape =
    av1_nz_map_ctx_offset ≡ map (λ size. map (λ row. map (λ column. pos (nz_offset size row column)) (range_with_len 0 5)) (range_with_len 0 5)) ALL_TX_SIZES

abbrev pub OffsetsInOneDimension : Type 0
OffsetsInOneDimension = nz_map_ctx_offset_1d ≡ map nz_offset_1d (range_with_len 0 32)
