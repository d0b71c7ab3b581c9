-- The types of transforms.
use Rattle.std.specs.Prelude.{ℕ, [], ◌∷◌, Bool, Option, Some, None, codes, slice_get}
use Rattle.std.specs.Option.{option_map_or}
use Rattle.av1_cdf.specs.Distribution.{Distribution}
use Rattle.av1_cdf.specs.Distribution.Distribution.{Adaptive}
use Rattle.av1_cdf.specs.Layout.{Slot, slot}
use Rattle.av1_geometry.specs.PredictionMode.{prediction_mode_number}
use Rattle.av1_geometry.specs.TxSize.{tx_number, tx_sqr}
use Rattle.av1_geometry.specs.TxTables.{coded_types, index_in, tx_set}
use Rattle.av1_geometry.specs.declared.prediction_mode.PredictionMode.{PredictionMode}
use Rattle.av1_geometry.specs.declared.tx_size.TxSize.{TxSize}
use Rattle.av1_geometry.specs.declared.tx_type.TxSet.{TxSet}
use Rattle.av1_geometry.specs.declared.tx_type.TxSet.TheVariants.{TX_SET_DCTONLY, TX_SET_INTER_3, TX_SET_INTRA_2}
use Rattle.av1_geometry.specs.declared.tx_type.TxSet.TheVariants.{TX_SET_INTRA_1, TX_SET_INTER_2, TX_SET_INTER_1}
use Rattle.av1_geometry.specs.declared.tx_type.TxType.{TxType}
use Rattle.av1_geometry.specs.declared.tx_type.TxType.TheVariants.{DCT_DCT}
use Rattle.av1_model.specs.Element.{Element, known, symbol}

-- what codes a type of a set, by the square of the transform's shorter side and, in an intra block, the mode; a set of one type needs nothing
abbrev pub type_slot : TxSet → ℕ → ℕ → Option Slot
type_slot TX_SET_DCTONLY sqr mode = None
type_slot TX_SET_INTRA_1 sqr mode = Some (slot (codes "intra_tx_1_cdf") (sqr ∷ mode ∷ []))
type_slot TX_SET_INTRA_2 sqr mode = Some (slot (codes "intra_tx_2_cdf") (sqr ∷ mode ∷ []))
type_slot TX_SET_INTER_1 sqr mode = Some (slot (codes "inter_tx_1_cdf") (sqr ∷ []))
type_slot TX_SET_INTER_2 sqr mode = Some (slot (codes "inter_tx_2_cdf") (sqr ∷ []))
type_slot TX_SET_INTER_3 sqr mode = Some (slot (codes "inter_tx_3_cdf") (sqr ∷ []))

-- a type of a set, by its symbol
abbrev pub type_in : TxSet → Slot → Element Distribution TxType
type_in set s = symbol (Adaptive s) (slice_get (coded_types set)) (index_in set)

abbrev pub type_of_set : TxSet → Option Slot → Element Distribution TxType
type_of_set set slot = option_map_or (type_in set) slot (known DCT_DCT)

-- what codes the type of a transform in a block of this mode
abbrev pub tx_type_slot : TxSize → PredictionMode → Bool → Bool → Option Slot
tx_type_slot tx mode inter reduced = type_slot (tx_set tx inter reduced) (tx_number (tx_sqr tx)) (prediction_mode_number mode)

-- the type of a transform, by its size, the mode of the block, whether that is an inter mode, and whether the frame has reduced
-- sets: transform_type() of the AV1 specification
abbrev pub tx_type_element : TxSize → PredictionMode → Bool → Bool → Element Distribution TxType
tx_type_element tx mode inter reduced = type_of_set (tx_set tx inter reduced) (tx_type_slot tx mode inter reduced)
