-- The sets of transform types and the rules of the tables of transforms.
use Rattle.std.specs.Prelude.{◌≡◌, ℕ, ◌-◌, List, [], ◌∷◌, Bool, Some, nat_eq, nat_lt, ◌||◌}
use Rattle.std.specs.Prelude.{if◌then◌else◌, min, max, unwrap_or, map, length, slice_get, IsTrue, position}
use Rattle.std.specs.List.{list_any}
use Rattle.av1_geometry.specs.declared.tx_size.TxSize.{TxSize}
use Rattle.av1_geometry.specs.declared.tx_size.TheConstants.{ALL_TX_SIZES}
use Rattle.av1_geometry.specs.declared.tx_type.TxType.{TxType}
use Rattle.av1_geometry.specs.declared.tx_type.TxType.TheVariants.{DCT_DCT, ADST_DCT, DCT_ADST, ADST_ADST, FLIPADST_DCT}
use Rattle.av1_geometry.specs.declared.tx_type.TxType.TheVariants.{DCT_FLIPADST, FLIPADST_FLIPADST, ADST_FLIPADST}
use Rattle.av1_geometry.specs.declared.tx_type.TxType.TheVariants.{FLIPADST_ADST, IDTX, V_DCT, H_DCT, V_ADST, H_ADST, V_FLIPADST, H_FLIPADST}
use Rattle.av1_geometry.specs.declared.tx_type.TxSet.{TxSet}
use Rattle.av1_geometry.specs.declared.tx_type.TxSet.TheVariants.{TX_SET_DCTONLY, TX_SET_INTER_3, TX_SET_INTRA_2}
use Rattle.av1_geometry.specs.declared.tx_type.TxSet.TheVariants.{TX_SET_INTRA_1, TX_SET_INTER_2, TX_SET_INTER_1}
use Rattle.av1_geometry.specs.declared.tx_type.TxClass.{TxClass}
use Rattle.av1_geometry.specs.declared.tx_type.TxClass.TheVariants.{TX_CLASS_2D, TX_CLASS_HORIZ, TX_CLASS_VERT}
use Rattle.av1_geometry.specs.declared.tx_type.TheConstants.{ALL_TX_TYPES}
use Rattle.av1_geometry.specs.declared.tx_tables.TheConstants.{num_tx_set, av1_tx_used, av1_tx_ind, sub_tx_size_map, tx_type_to_class}
use Rattle.av1_geometry.specs.TxType.{tx_type_number}
use Rattle.av1_geometry.specs.TxSize.{tx_width_log2, tx_height_log2, tx_with_sides}

-- the types of a set by their symbols (AV1 specification, "Transform type semantics")
abbrev pub coded_types : TxSet → List TxType
coded_types TX_SET_DCTONLY = DCT_DCT ∷ []
coded_types TX_SET_INTER_3 = IDTX ∷ DCT_DCT ∷ []
coded_types TX_SET_INTRA_2 = IDTX ∷ DCT_DCT ∷ ADST_ADST ∷ ADST_DCT ∷ DCT_ADST ∷ []
coded_types TX_SET_INTRA_1 = IDTX ∷ DCT_DCT ∷ V_DCT ∷ H_DCT ∷ ADST_ADST ∷ ADST_DCT ∷ DCT_ADST ∷ []
coded_types TX_SET_INTER_2 =
    IDTX ∷ V_DCT ∷ H_DCT ∷ DCT_DCT ∷ ADST_DCT ∷ DCT_ADST ∷ FLIPADST_DCT ∷ DCT_FLIPADST ∷ ADST_ADST ∷ FLIPADST_FLIPADST ∷ ADST_FLIPADST ∷ FLIPADST_ADST ∷ []
coded_types TX_SET_INTER_1 = IDTX ∷ V_DCT ∷ H_DCT ∷ V_ADST ∷ H_ADST ∷ V_FLIPADST ∷ H_FLIPADST ∷ DCT_DCT ∷ ADST_DCT ∷ DCT_ADST ∷ FLIPADST_DCT
    ∷ DCT_FLIPADST ∷ ADST_ADST ∷ FLIPADST_FLIPADST ∷ ADST_FLIPADST ∷ FLIPADST_ADST ∷ []

abbrev pub tx_sets : List TxSet
tx_sets = TX_SET_DCTONLY ∷ TX_SET_INTER_3 ∷ TX_SET_INTRA_2 ∷ TX_SET_INTRA_1 ∷ TX_SET_INTER_2 ∷ TX_SET_INTER_1 ∷ []

abbrev pub is_type : TxType → TxType → Bool
is_type t u = nat_eq (tx_type_number t) (tx_type_number u)

-- whether a set has a type
abbrev pub uses : TxSet → TxType → Bool
uses set t = list_any (is_type t) (coded_types set)

-- the symbol of a type in a set, and 0 where the set does not have it
abbrev pub index_in : TxSet → TxType → ℕ
index_in set t = unwrap_or (position (is_type t) (coded_types set)) 0

-- vertical or horizontal where the name begins so
abbrev pub class_of : TxType → TxClass
class_of V_DCT = TX_CLASS_VERT
class_of V_ADST = TX_CLASS_VERT
class_of V_FLIPADST = TX_CLASS_VERT
class_of H_DCT = TX_CLASS_HORIZ
class_of H_ADST = TX_CLASS_HORIZ
class_of H_FLIPADST = TX_CLASS_HORIZ
class_of _ = TX_CLASS_2D

-- the longer side is halved, both of a square, and neither below 4
abbrev pub half_size : TxSize → TxSize
half_size size =
    let w = tx_width_log2 size in
    let h = tx_height_log2 size in
    unwrap_or (tx_with_sides (if nat_lt w h then w else max 2 (w - 1)) (if nat_lt h w then h else max 2 (h - 1))) size

-- sides of 64 count as 32
abbrev pub coded_size : TxSize → TxSize
coded_size size = unwrap_or (tx_with_sides (min (tx_width_log2 size) 5) (min (tx_height_log2 size) 5)) size

-- the set of a transform by its sides, whether the block is inter, and whether the frame has reduced sets
abbrev pub tx_set : TxSize → Bool → Bool → TxSet
tx_set size inter reduced =
    let shorter = min (tx_width_log2 size) (tx_height_log2 size) in
    let longer = max (tx_width_log2 size) (tx_height_log2 size) in
    if nat_lt 5 longer then TX_SET_DCTONLY
    else if inter then (if reduced || nat_eq longer 5 then TX_SET_INTER_3 else if nat_eq shorter 4 then TX_SET_INTER_2 else TX_SET_INTER_1)
    else if nat_eq longer 5 then TX_SET_DCTONLY
    else if reduced || nat_eq shorter 4 then TX_SET_INTRA_2
    else TX_SET_INTRA_1

-- the place of a set among those of its kind that have CDFs, from 1
abbrev pub index_of_set : TxSet → ℕ
index_of_set TX_SET_DCTONLY = 0
index_of_set TX_SET_INTRA_1 = 1
index_of_set TX_SET_INTRA_2 = 2
index_of_set TX_SET_INTER_1 = 1
index_of_set TX_SET_INTER_2 = 2
index_of_set TX_SET_INTER_3 = 3

abbrev pub SetsHaveTheirCodedTypes : Type 0
SetsHaveTheirCodedTypes = av1_tx_used ≡ map (λ set. map (λ t. if uses set t then 1 else 0) ALL_TX_TYPES) tx_sets

abbrev pub SizesOfSets : Type 0
SizesOfSets = num_tx_set ≡ map (λ set. length (coded_types set)) tx_sets

abbrev pub IndexTable : Type 0
IndexTable = av1_tx_ind ≡ map (λ set. map (index_in set) ALL_TX_TYPES) tx_sets

-- the types that a set has are told apart by their symbols
abbrev pub IndicesAreOneToOne : Type 0
IndicesAreOneToOne = (set : TxSet) (t : TxType) → IsTrue (uses set t) → slice_get (coded_types set) (index_in set t) ≡ Some t

abbrev pub ClassesAreByName : Type 0
ClassesAreByName = tx_type_to_class ≡ map class_of ALL_TX_TYPES

abbrev pub SplitsHalveTheLongerSide : Type 0
SplitsHalveTheLongerSide = sub_tx_size_map ≡ map half_size ALL_TX_SIZES
