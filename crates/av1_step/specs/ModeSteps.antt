-- The kinds of step of the mode of an inter block, and of the candidate that it takes.
use Rattle.std.specs.Prelude.{ℕ, ◌+◌, ◌&&◌, ◌||◌, List, [], ◌∷◌, Bool, Option, not, is_some, find, length, nat_le, nat_lt, slice_index_or, if◌then◌else◌}
use Rattle.std.specs.Option.{option_map_or}
use Rattle.av1_geometry.specs.PredictionMode.{prediction_mode_number}
use Rattle.av1_geometry.specs.Rules.{rule}
use Rattle.av1_geometry.specs.declared.motion_vector.MotionVector.{MotionVector}
use Rattle.av1_geometry.specs.declared.prediction_mode.PredictionMode.{PredictionMode}
use Rattle.av1_geometry.specs.declared.prediction_mode.PredictionMode.TheVariants.{NEAR0MV, NEAR1MV, NEAR2MV, GLOBALMV, NEWMV, NEAR_NEAR0MV}
use Rattle.av1_geometry.specs.declared.prediction_mode.PredictionMode.TheVariants.{NEAR_NEAR1MV, NEAR_NEAR2MV, NEAR_NEW0MV, NEAR_NEW1MV}
use Rattle.av1_geometry.specs.declared.prediction_mode.PredictionMode.TheVariants.{NEAR_NEW2MV, NEW_NEAR0MV, NEW_NEAR1MV}
use Rattle.av1_geometry.specs.declared.prediction_mode.PredictionMode.TheVariants.{NEW_NEAR2MV, GLOBAL_GLOBALMV, NEW_NEWMV}
use Rattle.av1_mvref.specs.Candidates.{drl_context, no_vector}
use Rattle.av1_mvref.specs.declared.candidate.CandidateMV.{CandidateMV}
use Rattle.av1_syntax.specs.InterModes.{compound_mode_element, compound_modes, drl_mode_element, inter_mode_element, inter_modes, is_among}
use Rattle.av1_step.specs.declared.step.TileStep.TheVariants.{InterMode, CompoundMode, Drl}
use Rattle.av1_step.specs.Effect.{Effect, Over, Picked}
use Rattle.av1_step.specs.IntraSteps.{is_intra, mode_at}
use Rattle.av1_step.specs.Kept.{candidate_at}
use Rattle.av1_step.specs.Kind.{Kind, of_block}
use Rattle.av1_step.specs.Listed.{is_compound, listed, listed_context}
use Rattle.av1_step.specs.Tile.{Tile, CurrentBlock, place_of_block, size_of_block}

-- the near modes, with NEAR in their names: three each that differ by the candidate alone
abbrev pub near_groups : List (List PredictionMode)
near_groups =
    (NEAR0MV ∷ NEAR1MV ∷ NEAR2MV ∷ [])
    ∷ (NEAR_NEAR0MV ∷ NEAR_NEAR1MV ∷ NEAR_NEAR2MV ∷ [])
    ∷ (NEAR_NEW0MV ∷ NEAR_NEW1MV ∷ NEAR_NEW2MV ∷ [])
    ∷ (NEW_NEAR0MV ∷ NEW_NEAR1MV ∷ NEW_NEAR2MV ∷ [])
    ∷ []

-- the three that a near mode is one of
abbrev pub near_group : PredictionMode → Option (List PredictionMode)
near_group m = find (λ group. is_among group m) near_groups

abbrev pub is_near : PredictionMode → Bool
is_near m = is_some (near_group m)

-- the modes that take the vectors of the whole frame, which are zero
abbrev pub is_global : PredictionMode → Bool
is_global m = is_among (GLOBALMV ∷ GLOBAL_GLOBALMV ∷ []) m

-- the modes all of whose vectors are new
abbrev pub is_new : PredictionMode → Bool
is_new m = is_among (NEWMV ∷ NEW_NEWMV ∷ []) m

-- the modes of two references
abbrev pub is_pair_mode : PredictionMode → Bool
is_pair_mode m = nat_le 20 (prediction_mode_number m)

-- which candidate a mode begins with
abbrev pub first_pick : PredictionMode → ℕ
first_pick m = if is_near m then 1 else 0

-- the vectors of a mode that takes this candidate, one for each list
abbrev pub vectors_of : List CandidateMV → PredictionMode → ℕ → List MotionVector
vectors_of list m pick =
    let c = candidate_at list pick in
    (if not (is_global m) then c.this_mv else no_vector) ∷ (if is_pair_mode m && not (is_global m) then c.comp_mv else no_vector) ∷ []

-- a block gets a mode, and the vectors of the candidate that it takes
abbrev pub takes : Tile → CurrentBlock → PredictionMode → ℕ → List Effect
takes t b m pick = Over (place_of_block b) (size_of_block b) (λ x. record x { mode = m; mv = vectors_of (listed t) m pick }) ∷ Picked pick ∷ []

-- the mode of a block with one reference
abbrev pub inter_mode_kind : Tile → CurrentBlock → Kind PredictionMode
inter_mode_kind t b =
    of_block b (rule 65 (not t.given.fi.intra_only) ∷ rule 66 (not (is_intra t b)) ∷ rule 79 (is_some t.cands && not (is_compound t b)) ∷ [])
    (λ m. rule 79 (is_among inter_modes m) ∷ [])
    (inter_mode_element (listed_context t)) (λ m. takes t b m (first_pick m)) InterMode

-- the mode of a block with two
abbrev pub compound_mode_kind : Tile → CurrentBlock → Kind PredictionMode
compound_mode_kind t b =
    of_block b (rule 65 (not t.given.fi.intra_only) ∷ rule 66 (not (is_intra t b)) ∷ rule 79 (is_some t.cands && is_compound t b) ∷ [])
    (λ m. rule 79 (is_among compound_modes m) ∷ [])
    (compound_mode_element (listed_context t)) (λ m. takes t b m (first_pick m)) CompoundMode

-- a mode that may take a later candidate than number i: new vectors are coded against the first three, and a near mode takes the second, third or fourth
abbrev pub may_pick_after : ℕ → PredictionMode → Bool
may_pick_after i m = (is_new m && nat_le i 1) || (is_near m && nat_le 1 i && nat_le i 2)

-- the variant of a mode that takes candidate number i + 1: i is in the name of a near one
abbrev pub variant : ℕ → PredictionMode → PredictionMode
variant i m = option_map_or (λ group. slice_index_or group i m) (near_group m) m

-- whether a block takes a later candidate than number i
abbrev pub drl_kind : ℕ → Tile → CurrentBlock → Kind Bool
drl_kind i t b =
    of_block b
    (rule 65 (not t.given.fi.intra_only) ∷ rule 66 (not (is_intra t b))
    ∷ rule 80 (nat_lt (i + 1) (length (listed t)) && may_pick_after i (mode_at t b)) ∷ []) (λ later. [])
    (drl_mode_element (drl_context (listed t) i)) (λ later. if later then takes t b (variant i (mode_at t b)) (i + 1) else []) (Drl i)
