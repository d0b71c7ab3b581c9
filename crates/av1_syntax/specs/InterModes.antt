-- Whether a block is predicted from other frames, how its vectors are, and the choice among candidates.
use Rattle.std.specs.Prelude.{ℕ, ◌+◌, ◌-◌, ◌/◌, ◌%◌, List, [], ◌∷◌, min, max, Bool, not, nat_eq, nat_lt, if◌then◌else◌, codes, slice_get, slice_index}
use Rattle.std.specs.List.{list_any}
use Rattle.av1_blocks.specs.Grid.{Grid, intra_inter_context}
use Rattle.av1_cdf.specs.Distribution.{Distribution}
use Rattle.av1_cdf.specs.Layout.{Slot, slot}
use Rattle.av1_geometry.specs.declared.block_offset.BlockOffset.{BlockOffset}
use Rattle.av1_geometry.specs.declared.prediction_mode.PredictionMode.{PredictionMode}
use Rattle.av1_geometry.specs.declared.prediction_mode.PredictionMode.TheVariants.{NEARESTMV, NEAR0MV, GLOBALMV, NEWMV}
use Rattle.av1_geometry.specs.declared.prediction_mode.PredictionMode.TheVariants.{NEAREST_NEARESTMV, NEAR_NEAR0MV, NEAREST_NEWMV}
use Rattle.av1_geometry.specs.declared.prediction_mode.PredictionMode.TheVariants.{NEW_NEARESTMV, NEAR_NEW0MV, NEW_NEAR0MV, GLOBAL_GLOBALMV, NEW_NEWMV}
use Rattle.av1_geometry.specs.PredictionMode.{prediction_mode_number}
use Rattle.av1_model.specs.Element.{Element, known, symbol}
use Rattle.av1_syntax.specs.Calls.{adaptive}
use Rattle.av1_syntax.specs.Decisions.{decide}
use Rattle.av1_syntax.specs.Flags.{flag}

-- whether a block is predicted from other frames, by how its neighbours are
abbrev pub is_inter_element : Grid → BlockOffset → Element Distribution Bool
is_inter_element g bo = flag (adaptive (codes "intra_inter_cdfs") (intra_inter_context g bo ∷ []))

-- whether a later candidate than this one is taken, by how many of this one and the next no near neighbour gave
abbrev pub drl_mode_element : ℕ → Element Distribution Bool
drl_mode_element ctx = flag (adaptive (codes "drl_cdfs") (ctx ∷ []))

-- the context of a mode tells how its neighbours agree, and whether they have new vectors (AV1 specification, 7.10.2.14)
abbrev pub new_context : ℕ → ℕ
new_context ctx = ctx % 8

abbrev pub zero_context : ℕ → ℕ
zero_context ctx = ctx / 8 % 2

abbrev pub ref_context : ℕ → ℕ
ref_context ctx = ctx / 16 % 16

abbrev pub is_mode : PredictionMode → PredictionMode → Bool
is_mode m a = nat_eq (prediction_mode_number a) (prediction_mode_number m)

abbrev pub is_among : List PredictionMode → PredictionMode → Bool
is_among ms a = list_any (λ m. is_mode m a) ms

-- the modes of one vector: a new one, the one of the whole frame, or a candidate
abbrev pub inter_modes : List PredictionMode
inter_modes = NEWMV ∷ GLOBALMV ∷ NEARESTMV ∷ NEAR0MV ∷ []

-- a mode, or a later one where the flag is set
abbrev pub unless : PredictionMode → Slot → Element Distribution PredictionMode → Element Distribution PredictionMode
unless m s next = decide (λ a. not (is_mode m a)) s next (known m)

-- the mode of one vector, by the flags new_mv, zero_mv and ref_mv of the AV1 specification
abbrev pub inter_mode_element : ℕ → Element Distribution PredictionMode
inter_mode_element ctx =
    unless NEWMV (slot (codes "newmv_cdf") (new_context ctx ∷ []))
    (unless GLOBALMV (slot (codes "zeromv_cdf") (zero_context ctx ∷ []))
    (unless NEARESTMV (slot (codes "refmv_cdf") (ref_context ctx ∷ [])) (known NEAR0MV)))

-- the modes of two vectors, by their symbols: compound_mode of the AV1 specification
abbrev pub compound_modes : List PredictionMode
compound_modes = NEAREST_NEARESTMV ∷ NEAR_NEAR0MV ∷ NEAREST_NEWMV ∷ NEW_NEARESTMV ∷ NEAR_NEW0MV ∷ NEW_NEAR0MV ∷ GLOBAL_GLOBALMV ∷ NEW_NEWMV ∷ []

-- the symbols of all modes from NEAREST_NEARESTMV on: those that differ by the candidate alone have one
abbrev pub compound_symbols : List ℕ
compound_symbols = 0 ∷ 1 ∷ 1 ∷ 1 ∷ 2 ∷ 3 ∷ 4 ∷ 4 ∷ 4 ∷ 5 ∷ 5 ∷ 5 ∷ 6 ∷ 7 ∷ []

abbrev pub compound_number : PredictionMode → ℕ
compound_number m = slice_index compound_symbols (prediction_mode_number m - 20)

-- their context: Compound_Mode_Ctx_Map of the AV1 specification
abbrev pub compound_context : ℕ → ℕ
compound_context ctx =
    let new = new_context ctx in
    if nat_lt (ref_context ctx) 2 then min new 1 else if nat_lt (ref_context ctx) 4 then min (new + 1) 4 else min (max new 1 + 3) 7

abbrev pub compound_mode_element : ℕ → Element Distribution PredictionMode
compound_mode_element ctx = symbol (adaptive (codes "compound_mode_cdf") (compound_context ctx ∷ [])) (λ s. slice_get compound_modes s) compound_number
