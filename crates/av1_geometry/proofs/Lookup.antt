-- What a table with an entry for each value of a type has at the place of a value, for proofs here and in the crates above.
use Rattle.std.proofs.Common.{◌≡◌, ◌<◌, ◌+◌, ◌*◌, ℕ, ℤ, pos, get_or, map, refl, ap, ◌∙◌, zero-add, List}
use Rattle.std.specs.List.{range_with_len}
use Rattle.std.proofs.lemmas.List.FromFn.{get_or-map-range_with_len}
use Rattle.av1_geometry.specs.declared.block_size.BlockSize.{BlockSize}
use Rattle.av1_geometry.specs.declared.block_size.BlockSize.TheVariants.{BLOCK_4X4, BLOCK_4X8, BLOCK_8X4, BLOCK_8X8, BLOCK_8X16, BLOCK_16X8, BLOCK_16X16, BLOCK_16X32, BLOCK_32X16, BLOCK_32X32, BLOCK_32X64, BLOCK_64X32, BLOCK_64X64, BLOCK_64X128, BLOCK_128X64, BLOCK_128X128, BLOCK_4X16, BLOCK_16X4, BLOCK_8X32, BLOCK_32X8, BLOCK_16X64, BLOCK_64X16}
use Rattle.av1_geometry.specs.declared.block_size.TheConstants.{ALL_SIZES}
use Rattle.av1_geometry.specs.declared.tx_size.TxSize.{TxSize}
use Rattle.av1_geometry.specs.declared.tx_size.TxSize.TheVariants.{TX_4X4, TX_8X8, TX_16X16, TX_32X32, TX_64X64, TX_4X8, TX_8X4, TX_8X16, TX_16X8, TX_16X32, TX_32X16, TX_32X64, TX_64X32, TX_4X16, TX_16X4, TX_8X32, TX_32X8, TX_16X64, TX_64X16}
use Rattle.av1_geometry.specs.declared.tx_size.TheConstants.{ALL_TX_SIZES}
use Rattle.av1_geometry.specs.declared.tx_type.TxType.{TxType}
use Rattle.av1_geometry.specs.declared.tx_type.TxType.TheVariants.{DCT_DCT, ADST_DCT, DCT_ADST, ADST_ADST, FLIPADST_DCT, DCT_FLIPADST, FLIPADST_FLIPADST, ADST_FLIPADST, FLIPADST_ADST, IDTX, V_DCT, H_DCT, V_ADST, H_ADST, V_FLIPADST, H_FLIPADST}
use Rattle.av1_geometry.specs.declared.tx_type.TxSet.{TxSet}
use Rattle.av1_geometry.specs.declared.tx_type.TxSet.TheVariants.{TX_SET_DCTONLY, TX_SET_INTER_3, TX_SET_INTRA_2, TX_SET_INTRA_1, TX_SET_INTER_2, TX_SET_INTER_1}
use Rattle.av1_geometry.specs.declared.tx_type.TheConstants.{ALL_TX_TYPES}
use Rattle.av1_geometry.specs.declared.coefficient_tables.TheConstants.{av1_nz_map_ctx_offset, nz_map_ctx_offset_1d, eob_to_pos_small, eob_to_pos_large, k_eob_group_start, k_eob_offset_bits}
use Rattle.av1_geometry.specs.BlockSize.{number_of}
use Rattle.av1_geometry.specs.TxSize.{tx_number}
use Rattle.av1_geometry.specs.TxType.{tx_type_number, tx_set_number}
use Rattle.av1_geometry.specs.TxTables.{tx_sets}
use Rattle.av1_geometry.specs.CoefficientTables.{nz_offset, nz_offset_1d, eob_class, group_start, offset_bits}

pub at_size : {X : Type 0} (f : BlockSize → X) (size : BlockSize) (d : X) → get_or (map f ALL_SIZES) (number_of size) d ≡ f size
at_size f BLOCK_4X4 d = refl
at_size f BLOCK_4X8 d = refl
at_size f BLOCK_8X4 d = refl
at_size f BLOCK_8X8 d = refl
at_size f BLOCK_8X16 d = refl
at_size f BLOCK_16X8 d = refl
at_size f BLOCK_16X16 d = refl
at_size f BLOCK_16X32 d = refl
at_size f BLOCK_32X16 d = refl
at_size f BLOCK_32X32 d = refl
at_size f BLOCK_32X64 d = refl
at_size f BLOCK_64X32 d = refl
at_size f BLOCK_64X64 d = refl
at_size f BLOCK_64X128 d = refl
at_size f BLOCK_128X64 d = refl
at_size f BLOCK_128X128 d = refl
at_size f BLOCK_4X16 d = refl
at_size f BLOCK_16X4 d = refl
at_size f BLOCK_8X32 d = refl
at_size f BLOCK_32X8 d = refl
at_size f BLOCK_16X64 d = refl
at_size f BLOCK_64X16 d = refl

pub at_tx_size : {X : Type 0} (f : TxSize → X) (size : TxSize) (d : X) → get_or (map f ALL_TX_SIZES) (tx_number size) d ≡ f size
at_tx_size f TX_4X4 d = refl
at_tx_size f TX_8X8 d = refl
at_tx_size f TX_16X16 d = refl
at_tx_size f TX_32X32 d = refl
at_tx_size f TX_64X64 d = refl
at_tx_size f TX_4X8 d = refl
at_tx_size f TX_8X4 d = refl
at_tx_size f TX_8X16 d = refl
at_tx_size f TX_16X8 d = refl
at_tx_size f TX_16X32 d = refl
at_tx_size f TX_32X16 d = refl
at_tx_size f TX_32X64 d = refl
at_tx_size f TX_64X32 d = refl
at_tx_size f TX_4X16 d = refl
at_tx_size f TX_16X4 d = refl
at_tx_size f TX_8X32 d = refl
at_tx_size f TX_32X8 d = refl
at_tx_size f TX_16X64 d = refl
at_tx_size f TX_64X16 d = refl

pub at_type : {X : Type 0} (f : TxType → X) (t : TxType) (d : X) → get_or (map f ALL_TX_TYPES) (tx_type_number t) d ≡ f t
at_type f DCT_DCT d = refl
at_type f ADST_DCT d = refl
at_type f DCT_ADST d = refl
at_type f ADST_ADST d = refl
at_type f FLIPADST_DCT d = refl
at_type f DCT_FLIPADST d = refl
at_type f FLIPADST_FLIPADST d = refl
at_type f ADST_FLIPADST d = refl
at_type f FLIPADST_ADST d = refl
at_type f IDTX d = refl
at_type f V_DCT d = refl
at_type f H_DCT d = refl
at_type f V_ADST d = refl
at_type f H_ADST d = refl
at_type f V_FLIPADST d = refl
at_type f H_FLIPADST d = refl

pub at_set : {X : Type 0} (f : TxSet → X) (set : TxSet) (d : X) → get_or (map f tx_sets) (tx_set_number set) d ≡ f set
at_set f TX_SET_DCTONLY d = refl
at_set f TX_SET_INTER_3 d = refl
at_set f TX_SET_INTRA_2 d = refl
at_set f TX_SET_INTRA_1 d = refl
at_set f TX_SET_INTER_2 d = refl
at_set f TX_SET_INTER_1 d = refl

-- what a table of f by numbers has at a number
pub at_number : {X : Type 0} (f : ℕ → X) (n i : ℕ) (d : X) → i < n → get_or (map f (range_with_len 0 n)) i d ≡ f i
at_number f n i d h = get_or-map-range_with_len f 0 n i i d h (zero-add i)

pub nz_offset_at : (size : TxSize) (row column : ℕ) (d : List (List ℤ)) (e : List ℤ) (x : ℤ) → row < 5 → column < 5 → get_or (get_or (get_or av1_nz_map_ctx_offset (tx_number size) d) row e) column x ≡ pos (nz_offset size row column)
nz_offset_at size row column d e x h k =
    let f : TxSize → List (List ℤ) = λ s. map (λ r. map (λ c. pos (nz_offset s r c)) (range_with_len 0 5)) (range_with_len 0 5) in
    ap (λ (t : List (List ℤ)). get_or (get_or t row e) column x) (at_tx_size f size d)
    ∙ ap (λ (t : List ℤ). get_or t column x) (at_number (λ r. map (λ c. pos (nz_offset size r c)) (range_with_len 0 5)) 5 row e h)
    ∙ at_number (λ c. pos (nz_offset size row c)) 5 column x k

pub nz_offset_1d_at : (place d : ℕ) → place < 32 → get_or nz_map_ctx_offset_1d place d ≡ nz_offset_1d place
nz_offset_1d_at place d h = at_number nz_offset_1d 32 place d h

pub small_end_at : (eob d : ℕ) → eob < 33 → get_or eob_to_pos_small eob d ≡ eob_class eob
small_end_at eob d h = at_number eob_class 33 eob d h

pub large_end_at : (i d : ℕ) → i < 17 → get_or eob_to_pos_large i d ≡ eob_class (32 * i + 32)
large_end_at i d h = at_number (λ j. eob_class (32 * j + 32)) 17 i d h

pub group_start_at : (class d : ℕ) → class < 12 → get_or k_eob_group_start class d ≡ group_start class
group_start_at class d h = at_number group_start 12 class d h

pub offset_bits_at : (class d : ℕ) → class < 12 → get_or k_eob_offset_bits class d ≡ offset_bits class
offset_bits_at class d h = at_number offset_bits 12 class d h
