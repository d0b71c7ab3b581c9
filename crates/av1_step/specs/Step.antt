-- The kinds of step. Each is a row: its place, its rules, what a reader does, what its answer changes.
use Rattle.std.specs.Prelude.{Option, ℕ, ℤ, ◌^◌, option_map, ◌%◌, ◌&&◌, ◌==◌, List, [], ◌∷◌, Bool}
use Rattle.std.specs.Prelude.{true, false, Some, None, nat_le, nat_lt, if◌then◌else◌, zero, suc}
use Rattle.std.specs.Option.{option_map_or}
use Rattle.av1_blocks.specs.Grid.{Grid}
use Rattle.av1_cdf.specs.Distribution.{Distribution}
use Rattle.av1_geometry.specs.Rules.{Check, first_broken, rule}
use Rattle.av1_geometry.specs.declared.block_offset.BlockOffset.{BlockOffset}
use Rattle.av1_geometry.specs.declared.block_size.BlockSize.{BlockSize}
use Rattle.av1_geometry.specs.declared.motion_vector.MotionVector.{MotionVector}
use Rattle.av1_geometry.specs.declared.partition_type.PartitionType.{PartitionType}
use Rattle.av1_geometry.specs.declared.prediction_mode.PredictionMode.{PredictionMode}
use Rattle.av1_geometry.specs.declared.ref_type.RefType.{RefType}
use Rattle.av1_geometry.specs.declared.tx_size.TxSize.{TxSize}
use Rattle.av1_geometry.specs.declared.tx_type.TxType.{TxType}
use Rattle.av1_geometry.specs.BlockSize.{width_log2, height_log2, width_mi, height_mi}
use Rattle.av1_geometry.specs.BlockTables.{subsize_of}
use Rattle.av1_geometry.specs.PartitionType.{partition_number}
use Rattle.av1_model.specs.Element.{known}
use Rattle.av1_model.specs.Syntax.{Syntax}
use Rattle.av1_syntax.specs.Flags.{skip_element}
use Rattle.av1_syntax.specs.declared.restoration.RestorationFilter.{RestorationFilter}
use Rattle.av1_syntax.specs.Partition.{has_cols, has_rows, is_allowed, partition_element}
use Rattle.av1_step.specs.declared.error.StepFault.{StepFault}
use Rattle.av1_step.specs.declared.error.StepFault.TheVariants.{TooLong, Broken}
use Rattle.av1_step.specs.declared.step.TileStep.{TileStep}
use Rattle.av1_step.specs.declared.step.TileStep.TheVariants.{RowStart, Block, Partition, Skip, IntraModeKf, UvMode, IntraMode, Cdef}
use Rattle.av1_step.specs.declared.step.TileStep.TheVariants.{FilterIntra, Palette, Lrf, Segment, DeltaLf, AngleDelta, CflAlphas, TxNote}
use Rattle.av1_step.specs.declared.step.TileStep.TheVariants.{TxIntra, TxInter, IsInter, RefFrames, Coeffs, InterMode, CompoundMode, Drl, MvRefs, Mv}
use Rattle.av1_step.specs.AngleSteps.{angle_delta_kind, cfl_alphas_kind}
use Rattle.av1_step.specs.DeltaSteps.{segment_kind, delta_lf_kind}
use Rattle.av1_step.specs.CoeffSteps.{chroma_coeffs_kind, luma_coeffs_kind}
use Rattle.av1_step.specs.Effect.{Effect, Over, Parted, Unfilled, NewRow, Become, changed_by_all}
use Rattle.av1_step.specs.InterSteps.{is_inter_kind, ref_frames_kind}
use Rattle.av1_step.specs.IntraSteps.{intra_mode_kf_kind, uv_mode_kind, intra_mode_kind}
use Rattle.av1_step.specs.FilterSteps.{cdef_kind, filter_intra_kind, palette_kind}
use Rattle.av1_step.specs.ModeSteps.{inter_mode_kind, compound_mode_kind, drl_kind}
use Rattle.av1_step.specs.RestorationSteps.{lrf_kind}
use Rattle.av1_step.specs.TransformSteps.{note, tx_note_kind, tx_intra_kind, tx_inter_kind}
use Rattle.av1_step.specs.VectorSteps.{find, mv_refs_kind, mv_kind}
use Rattle.av1_step.specs.Kind.{Kind, answers, rules_of, steps, of_block, of_current}
use Rattle.av1_step.specs.Tile.{Tile, CurrentBlock, has_chroma_size, inside, place_of_block, size_of_block, sampling}

-- a row of superblocks begins
abbrev pub row_start_kind : Kind (Unit {0})
row_start_kind = record { place = None; asking = []; answering = λ a. []; element = known tt; effects = λ a. NewRow ∷ []; step = λ a. RowStart }

abbrev pub is_aligned : BlockOffset → BlockSize → Bool
is_aligned bo size = (bo.x % width_mi size == 0) && (bo.y % height_mi size == 0)

-- a size without a side of 128 whose chroma has a size
abbrev pub is_coded_size : Tile → BlockSize → Bool
is_coded_size t size = nat_le (width_log2 size) 6 && nat_le (height_log2 size) 6 && has_chroma_size (sampling t) size

-- a block becomes the current one; nothing is coded
abbrev pub block_kind : BlockOffset → BlockSize → Tile → Kind (Unit {0})
block_kind bo size t = record {
  place = Some bo;
  asking = inside bo t ∷ rule 61 (is_coded_size t size && is_aligned bo size) ∷ [];
  answering = λ a. [];
  element = known tt;
  effects = λ a. Become (record { 0 = bo }, size) ∷ [];
  step = λ a. Block bo.x bo.y size;
}

-- a square from 8x8 to 64x64
abbrev pub is_parted_size : BlockSize → Bool
is_parted_size size = (width_log2 size == height_log2 size) && nat_le 3 (width_log2 size) && nat_le (width_log2 size) 6

-- a block above 8x8 that is split leaves its edges to its parts
abbrev pub is_split_on : BlockSize → PartitionType → Bool
is_split_on size p = (partition_number p == 3) && nat_lt 3 (width_log2 size)

abbrev pub parted : BlockOffset → BlockSize → PartitionType → List Effect
parted bo size p = if is_split_on size p then [] else option_map_or (λ subsize. Parted bo size subsize ∷ []) (subsize_of size p) []

-- where its second half begins outside the tile, it has to be parted there
abbrev pub may_be_parted : Grid → BlockOffset → BlockSize → PartitionType → Bool
may_be_parted g bo size p = is_allowed (has_cols g bo size) (has_rows g bo size) size p

-- how a block is parted
abbrev pub partition_kind : BlockOffset → BlockSize → Tile → Kind PartitionType
partition_kind bo size t =
    record {
      place = Some bo;
      asking = inside bo t ∷ rule 62 (is_parted_size size && is_aligned bo size) ∷ [];
      answering = λ p. rule 63 (may_be_parted t.bc.blocks bo size p) ∷ [];
      element = partition_element t.numbers t.bc bo size;
      effects = parted bo size;
      step = λ p. Partition bo.x bo.y size p;
    }

-- whether a block is skipped
abbrev pub skip_kind : Tile → CurrentBlock → Kind Bool
skip_kind t b =
    let bo = place_of_block b in
    let size = size_of_block b in
    of_block b [] (λ on. []) (skip_element t.bc.blocks bo) (λ on. Over bo size (λ x. record x { skip = on }) ∷ (if on then Unfilled bo size ∷ [] else [])) Skip

-- what the reader is given of a step
pub data Question : Type 0 where
  OfRowStart : Question
  OfBlock : BlockOffset → BlockSize → Question
  OfPartition : BlockOffset → BlockSize → Question
  OfSkip : Question
  OfSegment : Question
  OfIntraModeKf : Question
  OfUvMode : Question
  OfIntraMode : Question
  OfCdef : Question
  OfDeltaLf : Question
  OfAngleDelta : Bool → Question
  OfCflAlphas : Question
  OfFilterIntra : Question
  OfPalette : Question
  OfTxNote : Question
  OfTxIntra : Question
  OfTxInter : Question
  OfIsInter : Question
  OfRefFrames : Question
  OfInterMode : Question
  OfCompoundMode : Question
  OfDrl : ℕ → Question
  OfMvRefs : Bool → Question
  OfMv : ℕ → Question
  OfLumaCoeffs : BlockOffset → Question
  -- the plane less 1, and the type of the transform, which is not coded there
  OfChromaCoeffs : ℕ → BlockOffset → TxType → Question
  OfLrf : ℕ → Question

-- what the bytes tell of it
abbrev pub Answer : Question → Type 0
Answer OfRowStart = Unit {0}
Answer (OfBlock bo size) = Unit {0}
Answer (OfPartition bo size) = PartitionType
Answer OfSkip = Bool
Answer OfSegment = ℕ
Answer OfIntraModeKf = PredictionMode
Answer OfUvMode = PredictionMode
Answer OfIntraMode = PredictionMode
Answer OfCdef = ℕ
Answer OfDeltaLf = List ℤ
Answer (OfAngleDelta chroma) = ℤ
Answer OfCflAlphas = ℤ × ℤ
Answer OfFilterIntra = Bool
Answer OfPalette = Bool
Answer OfTxNote = Unit {0}
Answer OfTxIntra = TxSize
Answer OfTxInter = Bool
Answer OfIsInter = Bool
Answer OfRefFrames = RefType × RefType
Answer OfInterMode = PredictionMode
Answer OfCompoundMode = PredictionMode
Answer (OfDrl i) = Bool
Answer (OfMvRefs has_tr) = Unit {0}
Answer (OfMv list) = MotionVector
Answer (OfLumaCoeffs bo) = TxType × List ℤ
Answer (OfChromaCoeffs plane bo given) = List ℤ
Answer (OfLrf plane) = RestorationFilter

abbrev pub question_of : TileStep → Question
question_of RowStart = OfRowStart
question_of (Block x y size) = OfBlock record { x = x; y = y } size
question_of (Partition x y size p) = OfPartition record { x = x; y = y } size
question_of (Skip on) = OfSkip
question_of (Segment i) = OfSegment
question_of (IntraModeKf m) = OfIntraModeKf
question_of (UvMode m) = OfUvMode
question_of (IntraMode m) = OfIntraMode
question_of (Cdef i) = OfCdef
question_of (DeltaLf ds) = OfDeltaLf
question_of (AngleDelta chroma a) = OfAngleDelta chroma
question_of (CflAlphas f) = OfCflAlphas
question_of (FilterIntra on) = OfFilterIntra
question_of (Palette on) = OfPalette
question_of TxNote = OfTxNote
question_of (TxIntra tx) = OfTxIntra
question_of (TxInter split) = OfTxInter
question_of (IsInter on) = OfIsInter
question_of (RefFrames rs) = OfRefFrames
question_of (InterMode m) = OfInterMode
question_of (CompoundMode m) = OfCompoundMode
question_of (Drl i later) = OfDrl i
question_of (MvRefs has_tr) = OfMvRefs has_tr
question_of (Mv list mv) = OfMv list
question_of (Coeffs zero x y t levels) = OfLumaCoeffs record { x = x; y = y }
question_of (Coeffs (suc plane) x y t levels) = OfChromaCoeffs plane record { x = x; y = y } t
question_of (Lrf plane filter) = OfLrf plane

abbrev pub answer_of : (step : TileStep) → Answer (question_of step)
answer_of RowStart = tt
answer_of (Block x y size) = tt
answer_of (Partition x y size p) = p
answer_of (Skip on) = on
answer_of (Segment i) = i
answer_of (IntraModeKf m) = m
answer_of (UvMode m) = m
answer_of (IntraMode m) = m
answer_of (Cdef i) = i
answer_of (DeltaLf ds) = ds
answer_of (AngleDelta chroma a) = a
answer_of (CflAlphas f) = f
answer_of (FilterIntra on) = on
answer_of (Palette on) = on
answer_of TxNote = tt
answer_of (TxIntra tx) = tx
answer_of (TxInter split) = split
answer_of (IsInter on) = on
answer_of (RefFrames rs) = rs
answer_of (InterMode m) = m
answer_of (CompoundMode m) = m
answer_of (Drl i later) = later
answer_of (MvRefs has_tr) = tt
answer_of (Mv list mv) = mv
answer_of (Coeffs zero x y t levels) = (t, levels)
answer_of (Coeffs (suc plane) x y t levels) = levels
answer_of (Lrf plane filter) = filter

abbrev pub kind_of : (q : Question) → Tile → Kind (Answer q)
kind_of OfRowStart t = row_start_kind
kind_of (OfBlock bo size) t = block_kind bo size t
kind_of (OfPartition bo size) t = partition_kind bo size t
kind_of OfSkip t = of_current t.current Skip (skip_kind t)
kind_of OfSegment t = of_current t.current Segment (segment_kind t)
kind_of OfIntraModeKf t = of_current t.current IntraModeKf (intra_mode_kf_kind t)
kind_of OfUvMode t = of_current t.current UvMode (uv_mode_kind t)
kind_of OfIntraMode t = of_current t.current IntraMode (intra_mode_kind t)
kind_of OfCdef t = of_current t.current Cdef (cdef_kind t)
kind_of OfDeltaLf t = of_current t.current DeltaLf (delta_lf_kind t)
kind_of (OfAngleDelta chroma) t = of_current t.current (AngleDelta chroma) (angle_delta_kind chroma t)
kind_of OfCflAlphas t = of_current t.current CflAlphas (cfl_alphas_kind t)
kind_of OfFilterIntra t = of_current t.current FilterIntra (filter_intra_kind t)
kind_of OfPalette t = of_current t.current Palette (palette_kind t)
kind_of OfTxNote t = of_current t.current note (tx_note_kind t)
kind_of OfTxIntra t = of_current t.current TxIntra (tx_intra_kind t)
kind_of OfTxInter t = of_current t.current TxInter (tx_inter_kind t)
kind_of OfIsInter t = of_current t.current IsInter (is_inter_kind t)
kind_of OfRefFrames t = of_current t.current RefFrames (ref_frames_kind t)
kind_of OfInterMode t = of_current t.current InterMode (inter_mode_kind t)
kind_of OfCompoundMode t = of_current t.current CompoundMode (compound_mode_kind t)
kind_of (OfDrl i) t = of_current t.current (Drl i) (drl_kind i t)
kind_of (OfMvRefs has_tr) t = of_current t.current (find has_tr) (mv_refs_kind has_tr t)
kind_of (OfMv list) t = of_current t.current (Mv list) (mv_kind list t)
kind_of (OfLumaCoeffs bo) t = luma_coeffs_kind t t.current bo
kind_of (OfChromaCoeffs plane bo given) t = chroma_coeffs_kind t t.current (suc plane) bo given
kind_of (OfLrf plane) t = lrf_kind plane t

-- a step that no trial has: what it changes is not undone
abbrev pub is_untried : TileStep → Bool
is_untried RowStart = true
is_untried (Lrf plane filter) = true
is_untried step = false

-- the place of a step: its own, or the current block's
abbrev pub place_of_step : TileStep → Tile → Option BlockOffset
place_of_step step t = (kind_of (question_of step) t).place

-- the rules of a step, by rising numbers
abbrev pub rules : TileStep → Tile → List Check
rules step t = rules_of (kind_of (question_of step) t) (answer_of step)

-- what a reader does to come to a step
abbrev pub syntax_of : Question → Tile → Syntax Distribution TileStep
syntax_of q t = steps (kind_of q t)

-- the symbols that lead to a step
abbrev pub symbols_of : TileStep → Tile → List ℕ
symbols_of step t = (answers (kind_of (question_of step) t)).symbols (answer_of step)

-- what a step changes
abbrev pub effects_of : TileStep → Tile → List Effect
effects_of step t = (kind_of (question_of step) t).effects (answer_of step)

-- the state after a step
abbrev pub entered : TileStep → Tile → Tile
entered step t = changed_by_all (effects_of step t) t

-- after more bits no step begins
abbrev pub most_bits : ℕ
most_bits = 2 ^ 28

-- what is wrong with a step that begins after so many bits
abbrev pub step_fault : Tile → ℕ → TileStep → Option StepFault
step_fault t bits step =
    if nat_lt most_bits bits then Some TooLong else option_map Broken (first_broken (rules step t))
