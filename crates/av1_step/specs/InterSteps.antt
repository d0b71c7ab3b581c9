-- The kinds of step that say whether a block is predicted from other frames, and from which.
use Rattle.std.specs.Prelude.{◌&&◌, ◌||◌, ◌==◌, [], ◌∷◌, Bool, not, None, nat_le, if◌then◌else◌}
use Rattle.av1_blocks.specs.declared.block.Block.{Block}
use Rattle.av1_geometry.specs.RefType.{reference_number}
use Rattle.av1_geometry.specs.Rules.{rule}
use Rattle.av1_geometry.specs.declared.block_size.BlockSize.TheVariants.{BLOCK_4X4}
use Rattle.av1_geometry.specs.declared.frame_type.ReferenceMode.{ReferenceMode}
use Rattle.av1_geometry.specs.declared.prediction_mode.PredictionMode.{PredictionMode}
use Rattle.av1_geometry.specs.declared.prediction_mode.PredictionMode.TheVariants.{DC_PRED, NEARESTMV, NEAREST_NEARESTMV}
use Rattle.av1_geometry.specs.declared.ref_type.RefType.{RefType}
use Rattle.av1_geometry.specs.declared.ref_type.RefType.TheVariants.{INTRA_FRAME, LAST_FRAME, NONE_FRAME}
use Rattle.av1_mvref.specs.References.{counts}
use Rattle.av1_syntax.specs.InterModes.{is_inter_element}
use Rattle.av1_syntax.specs.RefFrames.{may_be_pair, ref_frames_element}
use Rattle.av1_step.specs.declared.step.TileStep.TheVariants.{IsInter, RefFrames}
use Rattle.av1_step.specs.Effect.{Effect, Over, Listed}
use Rattle.av1_step.specs.IntraSteps.{is_intra}
use Rattle.av1_step.specs.Kind.{Kind, of_block}
use Rattle.av1_step.specs.Tile.{Tile, CurrentBlock, grid_block, place_of_block, size_of_block}

-- a block gets references and a mode
abbrev pub refers : CurrentBlock → RefType × RefType → PredictionMode → Effect
refers b rs m = Over (place_of_block b) (size_of_block b) (λ x. record x { ref_frames = rs.0 ∷ rs.1 ∷ []; mode = m })

-- what an inter block refers to before its references are known, and an intra block in any case
abbrev pub first_refs : Bool → RefType × RefType
first_refs on = (if on then LAST_FRAME else INTRA_FRAME, NONE_FRAME)

-- and the mode that either begins with
abbrev pub first_mode : Bool → PredictionMode
first_mode on = if on then NEARESTMV else DC_PRED

-- whether a block is predicted from other frames
abbrev pub is_inter_kind : Tile → CurrentBlock → Kind Bool
is_inter_kind t b =
    of_block b (rule 65 (not t.given.fi.intra_only) ∷ []) (λ on. []) (is_inter_element t.bc.blocks (place_of_block b))
    (λ on. refers b (first_refs on) (first_mode on) ∷ Listed None ∷ []) IsInter

-- one of the seven references alone
abbrev pub is_one : RefType × RefType → Bool
is_one rs = nat_le 1 (reference_number rs.0) && nat_le (reference_number rs.0) 7 && (reference_number rs.1 == 8)

-- one reference behind and one ahead
abbrev pub is_two : RefType × RefType → Bool
is_two rs = nat_le 1 (reference_number rs.0) && nat_le (reference_number rs.0) 4 && nat_le 5 (reference_number rs.1) && nat_le (reference_number rs.1) 7

-- what a block of the grid may refer to
abbrev pub are_references : ReferenceMode → Block → RefType × RefType → Bool
are_references mode x rs = is_one rs || (is_two rs && may_be_pair mode x)

-- the block at the current one's place knows how often its neighbours refer to each reference
abbrev pub counted : Tile → CurrentBlock → Effect
counted t b = Over (place_of_block b) BLOCK_4X4 (λ x. record x { neighbors_ref_counts = counts t.bc.blocks (place_of_block b) })

-- the mode that references begin with
abbrev pub mode_of_refs : RefType × RefType → PredictionMode
mode_of_refs rs = if is_two rs then NEAREST_NEARESTMV else NEARESTMV

-- which frames a block is predicted from
abbrev pub ref_frames_kind : Tile → CurrentBlock → Kind (RefType × RefType)
ref_frames_kind t b =
    let mode = t.given.fi.reference_mode in
    of_block b (rule 65 (not t.given.fi.intra_only) ∷ rule 66 (not (is_intra t b)) ∷ []) (λ rs. rule 77 (are_references mode (grid_block t b) rs) ∷ [])
    (ref_frames_element t.bc.blocks (place_of_block b) mode) (λ rs. counted t b ∷ refers b rs (mode_of_refs rs) ∷ Listed None ∷ []) RefFrames
