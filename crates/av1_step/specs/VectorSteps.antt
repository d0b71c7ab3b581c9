-- The kinds of step of the vectors of an inter block: its candidates, and the vectors that are coded.
use Rattle.std.specs.Prelude.{ℕ, ◌%◌, ◌&&◌, ◌||◌, ◌==◌, List, [], ◌∷◌, Bool, not, Some, int_lt, is_some, nat_le, slice_set, if◌then◌else◌}
use Rattle.av1_frame.specs.declared.frame.FrameInvariants.{FrameInvariants}
use Rattle.av1_geometry.specs.Cfl.{magnitude}
use Rattle.av1_geometry.specs.Rules.{Check, rule}
use Rattle.av1_geometry.specs.declared.constants.TheConstants.{MV_LOW, MV_UPP}
use Rattle.av1_geometry.specs.declared.motion_vector.MotionVector.{MotionVector}
use Rattle.av1_geometry.specs.declared.motion_vector.MvSubpelPrecision.{MvSubpelPrecision}
use Rattle.av1_geometry.specs.declared.motion_vector.MvSubpelPrecision.TheVariants.{MV_SUBPEL_NONE, MV_SUBPEL_LOW_PRECISION, MV_SUBPEL_HIGH_PRECISION}
use Rattle.av1_geometry.specs.declared.prediction_mode.PredictionMode.{PredictionMode}
use Rattle.av1_geometry.specs.declared.prediction_mode.PredictionMode.TheVariants.{NEWMV, NEAREST_NEWMV, NEW_NEARESTMV, NEAR_NEW0MV, NEAR_NEW1MV}
use Rattle.av1_geometry.specs.declared.prediction_mode.PredictionMode.TheVariants.{NEAR_NEW2MV, NEW_NEAR0MV, NEW_NEAR1MV, NEW_NEAR2MV, NEW_NEWMV}
use Rattle.av1_model.specs.Element.{known}
use Rattle.av1_mvref.specs.ExtraSearch.{Candidates, candidates}
use Rattle.av1_syntax.specs.InterModes.{is_among}
use Rattle.av1_syntax.specs.Vectors.{difference, unit_of, vector_element}
use Rattle.av1_step.specs.declared.step.TileStep.{TileStep}
use Rattle.av1_step.specs.declared.step.TileStep.TheVariants.{MvRefs, Mv}
use Rattle.av1_step.specs.Effect.{Over, Listed}
use Rattle.av1_step.specs.IntraSteps.{is_intra, mode_at}
use Rattle.av1_step.specs.Kept.{candidate_at}
use Rattle.av1_step.specs.Kind.{Kind, of_block}
use Rattle.av1_step.specs.Listed.{is_compound, listed}
use Rattle.av1_step.specs.Tile.{Tile, CurrentBlock, grid_block, place_of_block, size_of_block}

-- the candidates that a block's neighbours and references give
abbrev pub candidates_of : Bool → Tile → CurrentBlock → Candidates
candidates_of has_tr t b =
    candidates t.bc.blocks (place_of_block b) (size_of_block b) (grid_block t b).ref_frames (is_compound t b) has_tr t.given.fi.ref_frame_sign_bias

abbrev pub find : Bool → Unit {0} → TileStep
find has_tr a = MvRefs has_tr

-- the candidates of a block are found; nothing is coded
abbrev pub mv_refs_kind : Bool → Tile → CurrentBlock → Kind (Unit {0})
mv_refs_kind has_tr t b = of_block b (rule 65 (not t.given.fi.intra_only) ∷ rule 66 (not (is_intra t b)) ∷ []) (λ a. []) (known tt)
    (λ a. Listed (Some (candidates_of has_tr t b)) ∷ []) (find has_tr)

-- the precision of the frame's vectors
abbrev pub precision_of : FrameInvariants → MvSubpelPrecision
precision_of fi =
    if not (fi.force_integer_mv == 0) then MV_SUBPEL_NONE else if fi.allow_high_precision_mv then MV_SUBPEL_HIGH_PRECISION else MV_SUBPEL_LOW_PRECISION

-- the modes whose vector of a list is coded
abbrev pub codes_first : List PredictionMode
codes_first = NEWMV ∷ NEW_NEARESTMV ∷ NEW_NEAR0MV ∷ NEW_NEAR1MV ∷ NEW_NEAR2MV ∷ NEW_NEWMV ∷ []

abbrev pub codes_second : List PredictionMode
codes_second = NEAREST_NEWMV ∷ NEAR_NEW0MV ∷ NEAR_NEW1MV ∷ NEAR_NEW2MV ∷ NEW_NEWMV ∷ []

abbrev pub is_coded_list : ℕ → PredictionMode → Bool
is_coded_list list m = ((list == 0) && is_among codes_first m) || ((list == 1) && is_among codes_second m)

-- what the vector of a list is coded against: the candidate that the mode takes
abbrev pub reference_vector : ℕ → Tile → MotionVector
reference_vector list t = let c = candidate_at (listed t) t.pick in if list == 0 then c.this_mv else c.comp_mv

-- both parts lie between the bounds
abbrev pub is_valid : MotionVector → Bool
is_valid mv = int_lt MV_LOW mv.row && int_lt mv.row MV_UPP && int_lt MV_LOW mv.col && int_lt mv.col MV_UPP

-- a difference can be coded: its parts are at most 16384, and multiples of the unit of the precision
abbrev pub is_small : MotionVector → Bool
is_small d = nat_le (magnitude d.row) 16384 && nat_le (magnitude d.col) 16384

abbrev pub is_whole : MvSubpelPrecision → MotionVector → Bool
is_whole p d = (magnitude d.row % unit_of p == 0) && (magnitude d.col % unit_of p == 0)

-- the vectors of a block, of which that of a list is this one; the other is that of the block at its place, which the whole area has
abbrev pub with_vector : ℕ → Tile → CurrentBlock → MotionVector → List MotionVector
with_vector list t b mv = slice_set (grid_block t b).mv list mv

-- the rules of a vector, by its reference vector
abbrev pub vector_rules : MvSubpelPrecision → MotionVector → MotionVector → List Check
vector_rules p ref mv = rule 81 (is_valid mv && is_small (difference mv ref)) ∷ rule 82 (is_whole p (difference mv ref)) ∷ []

-- the vector of a list
abbrev pub mv_kind : ℕ → Tile → CurrentBlock → Kind MotionVector
mv_kind list t b =
    let ref = reference_vector list t in
    let p = precision_of t.given.fi in
    of_block b
    (rule 65 (not t.given.fi.intra_only) ∷ rule 66 (not (is_intra t b)) ∷ rule 81 (is_some t.cands && is_coded_list list (mode_at t b)) ∷ [])
    (vector_rules p ref) (vector_element ref p)
    (λ mv. Over (place_of_block b) (size_of_block b) (λ x. record x { mv = with_vector list t b mv }) ∷ []) (Mv list)
