-- The kinds of step that say more of how intra blocks are predicted: the angles of their modes, and the factors of chroma from luma.
use Rattle.std.specs.Prelude.{ℤ, pos, negsuc, ◌+◌, ◌&&◌, ◌==◌, [], ◌∷◌, Bool, false, Option, Some, if◌then◌else◌, int_le, nat_le}
use Rattle.std.specs.Option.{option_map_or}
use Rattle.av1_geometry.specs.BlockSize.{number_of}
use Rattle.av1_geometry.specs.Cfl.{magnitude}
use Rattle.av1_geometry.specs.PredictionMode.{prediction_mode_number}
use Rattle.av1_geometry.specs.declared.prediction_mode.PredictionMode.{PredictionMode}
use Rattle.av1_geometry.specs.Rules.{rule}
use Rattle.av1_model.specs.Element.{where_some}
use Rattle.av1_syntax.specs.Factors.{factors_element}
use Rattle.av1_syntax.specs.IntraModes.{angle_delta_element}
use Rattle.av1_step.specs.declared.step.TileStep.TheVariants.{AngleDelta, CflAlphas}
use Rattle.av1_step.specs.IntraSteps.{mode_at, is_intra}
use Rattle.av1_step.specs.Kind.{Kind, of_block}
use Rattle.av1_step.specs.Tile.{Tile, CurrentBlock, size_of_block}

-- the mode whose angle is coded: that of chroma, once it is entered, or that of luma
abbrev pub angle_mode : Bool → Tile → CurrentBlock → Option PredictionMode
angle_mode chroma t b = if chroma then t.uv else Some (mode_at t b)

-- one of the eight modes with a direction
abbrev pub is_directional : PredictionMode → Bool
is_directional m = nat_le 1 (prediction_mode_number m) && nat_le (prediction_mode_number m) 8

-- a block that is large enough, in a mode with a direction
abbrev pub has_angle : Bool → Tile → CurrentBlock → Bool
has_angle chroma t b = nat_le 3 (number_of (size_of_block b)) && option_map_or is_directional (angle_mode chroma t b) false

-- at most three steps to either side
abbrev pub is_angle : ℤ → Bool
is_angle a = int_le (negsuc 2) a && int_le a (pos 3)

-- how far the direction of a mode is turned
abbrev pub angle_delta_kind : Bool → Tile → CurrentBlock → Kind ℤ
angle_delta_kind chroma t b =
    of_block b (rule 66 (is_intra t b) ∷ rule 72 (has_angle chroma t b) ∷ []) (λ a. rule 72 (is_angle a) ∷ [])
    (where_some (angle_mode chroma t b) angle_delta_element) (λ a. []) (AngleDelta chroma)

-- chroma is predicted from luma
abbrev pub is_from_luma : Tile → Bool
is_from_luma t = option_map_or (λ m. prediction_mode_number m == 13) t.uv false

-- factors of at most 16 in size, of which one is not zero
abbrev pub are_factors : ℤ × ℤ → Bool
are_factors f = nat_le (magnitude f.0) 16 && nat_le (magnitude f.1) 16 && nat_le 1 (magnitude f.0 + magnitude f.1)

-- the factors by which the planes of chroma are predicted from luma
abbrev pub cfl_alphas_kind : Tile → CurrentBlock → Kind (ℤ × ℤ)
cfl_alphas_kind t b =
    of_block b (rule 66 (is_intra t b) ∷ rule 73 (is_from_luma t) ∷ []) (λ f. rule 73 (are_factors f) ∷ []) factors_element (λ f. []) CflAlphas
