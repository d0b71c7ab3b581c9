-- The layout of the 5528 numbers of a context (rav1e's `CDFContext`): one table, and what follows from it.
use Rattle.std.specs.Prelude.{ℕ, ◌+◌, ◌-◌, ◌*◌, ◌/◌, List, [], ◌∷◌, ◌++◌, Bool, ◌&&◌, nat_eq, nat_lt, nat_le, if◌then◌else◌, drop, map, codes, bytes_eq}

-- a field of the context: its dimensions, of which the last is the length of its CDFs, and its first place
pub record Field : Type 0 where
  pub name : List ℕ
  pub dimensions : List ℕ
  pub place : ℕ

abbrev pub field : List ℕ → List ℕ → ℕ → Field
field name dimensions place = record { name = name; dimensions = dimensions; place = place }

-- the fields up to the vectors, in order
unfoldable pub fields : List Field
fields =
    field (codes "comp_bwd_ref_cdf") (3 ∷ 2 ∷ 2 ∷ []) 0
    ∷ field (codes "comp_mode_cdf") (5 ∷ 2 ∷ []) 12
    ∷ field (codes "comp_ref_cdf") (3 ∷ 3 ∷ 2 ∷ []) 22
    ∷ field (codes "comp_ref_type_cdf") (5 ∷ 2 ∷ []) 40
    ∷ field (codes "dc_sign_cdf") (2 ∷ 3 ∷ 2 ∷ []) 50
    ∷ field (codes "drl_cdfs") (3 ∷ 2 ∷ []) 62
    ∷ field (codes "eob_extra_cdf") (5 ∷ 2 ∷ 9 ∷ 2 ∷ []) 68
    ∷ field (codes "filter_intra_cdfs") (22 ∷ 2 ∷ []) 248
    ∷ field (codes "intra_inter_cdfs") (4 ∷ 2 ∷ []) 292
    ∷ field (codes "lrf_sgrproj_cdf") (2 ∷ []) 300
    ∷ field (codes "lrf_wiener_cdf") (2 ∷ []) 302
    ∷ field (codes "newmv_cdf") (6 ∷ 2 ∷ []) 304
    ∷ field (codes "palette_uv_mode_cdfs") (2 ∷ 2 ∷ []) 316
    ∷ field (codes "palette_y_mode_cdfs") (7 ∷ 3 ∷ 2 ∷ []) 320
    ∷ field (codes "refmv_cdf") (6 ∷ 2 ∷ []) 362
    ∷ field (codes "single_ref_cdfs") (3 ∷ 6 ∷ 2 ∷ []) 374
    ∷ field (codes "skip_cdfs") (3 ∷ 2 ∷ []) 410
    ∷ field (codes "txb_skip_cdf") (5 ∷ 13 ∷ 2 ∷ []) 416
    ∷ field (codes "txfm_partition_cdf") (21 ∷ 2 ∷ []) 546
    ∷ field (codes "zeromv_cdf") (2 ∷ 2 ∷ []) 588
    ∷ field (codes "tx_size_8x8_cdf") (3 ∷ 2 ∷ []) 592
    ∷ field (codes "inter_tx_3_cdf") (4 ∷ 2 ∷ []) 598
    ∷ field (codes "coeff_base_eob_cdf") (5 ∷ 2 ∷ 4 ∷ 3 ∷ []) 606
    ∷ field (codes "lrf_switchable_cdf") (3 ∷ []) 726
    ∷ field (codes "tx_size_cdf") (3 ∷ 3 ∷ 3 ∷ []) 729
    ∷ field (codes "coeff_base_cdf") (5 ∷ 2 ∷ 42 ∷ 4 ∷ []) 756
    ∷ field (codes "coeff_br_cdf") (5 ∷ 2 ∷ 21 ∷ 4 ∷ []) 2436
    ∷ field (codes "deblock_delta_cdf") (4 ∷ []) 3276
    ∷ field (codes "deblock_delta_multi_cdf") (4 ∷ 4 ∷ []) 3280
    ∷ field (codes "partition_w8_cdf") (4 ∷ 4 ∷ []) 3296
    ∷ field (codes "eob_flag_cdf16") (2 ∷ 2 ∷ 5 ∷ []) 3312
    ∷ field (codes "intra_tx_2_cdf") (4 ∷ 13 ∷ 5 ∷ []) 3332
    ∷ field (codes "eob_flag_cdf32") (2 ∷ 2 ∷ 6 ∷ []) 3592
    ∷ field (codes "angle_delta_cdf") (8 ∷ 7 ∷ []) 3616
    ∷ field (codes "eob_flag_cdf64") (2 ∷ 2 ∷ 7 ∷ []) 3672
    ∷ field (codes "intra_tx_1_cdf") (4 ∷ 13 ∷ 7 ∷ []) 3700
    ∷ field (codes "cfl_sign_cdf") (8 ∷ []) 4064
    ∷ field (codes "compound_mode_cdf") (8 ∷ 8 ∷ []) 4072
    ∷ field (codes "eob_flag_cdf128") (2 ∷ 2 ∷ 8 ∷ []) 4136
    ∷ field (codes "spatial_segmentation_cdfs") (3 ∷ 8 ∷ []) 4168
    ∷ field (codes "partition_w128_cdf") (4 ∷ 8 ∷ []) 4192
    ∷ field (codes "eob_flag_cdf256") (2 ∷ 2 ∷ 9 ∷ []) 4224
    ∷ field (codes "eob_flag_cdf512") (2 ∷ 2 ∷ 10 ∷ []) 4260
    ∷ field (codes "partition_cdf") (12 ∷ 10 ∷ []) 4300
    ∷ field (codes "eob_flag_cdf1024") (2 ∷ 2 ∷ 11 ∷ []) 4420
    ∷ field (codes "inter_tx_2_cdf") (4 ∷ 12 ∷ []) 4464
    ∷ field (codes "kf_y_cdf") (5 ∷ 5 ∷ 13 ∷ []) 4512
    ∷ field (codes "y_mode_cdf") (4 ∷ 13 ∷ []) 4837
    ∷ field (codes "uv_mode_cdf") (13 ∷ 13 ∷ []) 4889
    ∷ field (codes "uv_mode_cfl_cdf") (13 ∷ 14 ∷ []) 5058
    ∷ field (codes "cfl_alpha_cdf") (6 ∷ 16 ∷ []) 5240
    ∷ field (codes "inter_tx_1_cdf") (4 ∷ 16 ∷ []) 5336
    ∷ []

-- what vectors have in common; padding counts as lists of one number
unfoldable pub vector_fields : List Field
vector_fields =
    field (codes "joints_cdf") (4 ∷ []) 5400
    ∷ field (codes "padding") (12 ∷ 1 ∷ []) 5404
    ∷ []

-- what the first component of vectors has; the second has the same, 56 places on
unfoldable pub component_fields : List Field
component_fields =
    field (codes "sign_cdf") (2 ∷ []) 5416
    ∷ field (codes "class0_hp_cdf") (2 ∷ []) 5418
    ∷ field (codes "hp_cdf") (2 ∷ []) 5420
    ∷ field (codes "class0_cdf") (2 ∷ []) 5422
    ∷ field (codes "bits_cdf") (10 ∷ 2 ∷ []) 5424
    ∷ field (codes "class0_fp_cdf") (2 ∷ 4 ∷ []) 5444
    ∷ field (codes "fp_cdf") (4 ∷ []) 5452
    ∷ field (codes "classes_cdf") (11 ∷ []) 5456
    ∷ field (codes "padding") (5 ∷ 1 ∷ []) 5467
    ∷ []

abbrev pub component_size : ℕ
component_size = 56

abbrev pub moved_on : Field → Field
moved_on f = record f { place = f.place + component_size }

-- all fields in order
unfoldable pub layout : List Field
unfolding fields vector_fields component_fields
layout = fields ++ vector_fields ++ component_fields ++ map moved_on component_fields

abbrev pub size_of_context : ℕ
size_of_context = 5528

-- the length of a field's CDFs
abbrev pub length_in : List ℕ → ℕ
length_in [] = 1
length_in (n ∷ []) = n
length_in (d ∷ e ∷ ds) = length_in (e ∷ ds)

-- how many CDFs a field has
abbrev pub count_in : List ℕ → ℕ
count_in [] = 0
count_in (n ∷ []) = 1
count_in (d ∷ e ∷ ds) = d * count_in (e ∷ ds)

-- a CDF of the context: its first place, and its length
pub record Slot : Type 0 where
  pub place : ℕ
  pub len : ℕ

-- the number of a CDF among those of its field, by its indices; the last index counts up first
abbrev pub number_onto : ℕ → List ℕ → List ℕ → ℕ
number_onto n ds [] = n
number_onto n [] (i ∷ is) = n
number_onto n (d ∷ ds) (i ∷ is) = number_onto (n * d + i) ds is

abbrev pub number_at : List ℕ → List ℕ → ℕ
number_at ds [] = 0
number_at ds (i ∷ is) = number_onto i (drop 1 ds) is

-- the field of a name
abbrev pub named : List ℕ → List Field → Field
named name [] = field name [] 0
named name (f ∷ fs) = if bytes_eq f.name name then f else named name fs

abbrev pub cdf_of : Field → List ℕ → Slot
cdf_of f indices = record { place = f.place + number_at f.dimensions indices * length_in f.dimensions; len = length_in f.dimensions }

-- the CDF of a field at these indices
unfoldable pub slot : List ℕ → List ℕ → Slot
unfolding layout
slot name indices = cdf_of (named name layout) indices

-- the CDF of a field of vectors in component 0 or 1, at these indices
unfoldable pub component_slot : ℕ → List ℕ → List ℕ → Slot
unfolding component_fields
component_slot component name indices =
    let f = named name component_fields in
    cdf_of (record f { place = f.place + component_size * component }) indices

-- the CDF that the number at a place belongs to; padding is by itself
abbrev pub cell_among : List Field → ℕ → Slot
cell_among [] k = record { place = k; len = 1 }
cell_among (f ∷ fs) k =
    let n = length_in f.dimensions in
    if nat_lt k (f.place + count_in f.dimensions * n) then record { place = f.place + (k - f.place) / n * n; len = n } else cell_among fs k

unfoldable pub cell : ℕ → Slot
cell k = cell_among layout k

-- whether the fields follow on one another without a gap, from the first number to the second, and none is empty
abbrev pub rises : ℕ → List Field → ℕ → Bool
rises start [] end = nat_eq start end
rises start (f ∷ fs) end =
    let n = length_in f.dimensions in
    nat_eq f.place start && nat_lt 0 n && nat_lt 0 (count_in f.dimensions) && rises (f.place + count_in f.dimensions * n) fs end

-- whether these are the place and the length of a CDF
unfoldable pub is_slot : ℕ → ℕ → Bool
is_slot place len = nat_le 2 len && nat_eq (cell place).place place && nat_eq (cell place).len len
