-- The types of a transform and the sets of types, by their numbers.
use Rattle.std.specs.Prelude.{ℕ, Option, slice_get}
use Rattle.av1_geometry.specs.declared.tx_type.TxType.{TxType}
use Rattle.av1_geometry.specs.declared.tx_type.TxType.TheVariants.{DCT_DCT, ADST_DCT, DCT_ADST, ADST_ADST, FLIPADST_DCT}
use Rattle.av1_geometry.specs.declared.tx_type.TxType.TheVariants.{DCT_FLIPADST, FLIPADST_FLIPADST, ADST_FLIPADST}
use Rattle.av1_geometry.specs.declared.tx_type.TxType.TheVariants.{FLIPADST_ADST, IDTX, V_DCT, H_DCT, V_ADST, H_ADST, V_FLIPADST, H_FLIPADST}
use Rattle.av1_geometry.specs.declared.tx_type.TheConstants.{ALL_TX_TYPES}
use Rattle.av1_geometry.specs.declared.tx_type.TxSet.{TxSet}
use Rattle.av1_geometry.specs.declared.tx_type.TxSet.TheVariants.{TX_SET_DCTONLY, TX_SET_INTER_3, TX_SET_INTRA_2}
use Rattle.av1_geometry.specs.declared.tx_type.TxSet.TheVariants.{TX_SET_INTRA_1, TX_SET_INTER_2, TX_SET_INTER_1}

-- the place of a type in the order of the enum
abbrev pub tx_type_number : TxType → ℕ
tx_type_number DCT_DCT = 0
tx_type_number ADST_DCT = 1
tx_type_number DCT_ADST = 2
tx_type_number ADST_ADST = 3
tx_type_number FLIPADST_DCT = 4
tx_type_number DCT_FLIPADST = 5
tx_type_number FLIPADST_FLIPADST = 6
tx_type_number ADST_FLIPADST = 7
tx_type_number FLIPADST_ADST = 8
tx_type_number IDTX = 9
tx_type_number V_DCT = 10
tx_type_number H_DCT = 11
tx_type_number V_ADST = 12
tx_type_number H_ADST = 13
tx_type_number V_FLIPADST = 14
tx_type_number H_FLIPADST = 15

-- the value with this number
abbrev pub tx_type_of : ℕ → Option TxType
tx_type_of number = slice_get ALL_TX_TYPES number

-- the place of a set in the order of the enum
abbrev pub tx_set_number : TxSet → ℕ
tx_set_number TX_SET_DCTONLY = 0
tx_set_number TX_SET_INTER_3 = 1
tx_set_number TX_SET_INTRA_2 = 2
tx_set_number TX_SET_INTRA_1 = 3
tx_set_number TX_SET_INTER_2 = 4
tx_set_number TX_SET_INTER_1 = 5
