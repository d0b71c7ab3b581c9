-- The step that codes the filter of a unit of loop restoration.
use Rattle.std.specs.Prelude.{ℕ, List, [], ◌∷◌, Bool, true, ◌&&◌, ◌||◌, None, length, nat_eq, nat_lt, ℤ, pos}
use Rattle.std.specs.Ordering.{int_eq}
use Rattle.av1_frame.specs.Tests.{int_within}
use Rattle.av1_geometry.specs.ChromaSampling.{planes_of}
use Rattle.av1_geometry.specs.declared.constants.TheConstants.{SGRPROJ_XQD_MIN, SGRPROJ_XQD_MAX, WIENER_TAPS_MIN, WIENER_TAPS_MAX}
use Rattle.av1_geometry.specs.Rules.{rule}
use Rattle.av1_syntax.specs.Restoration.{plane_at, number_at, row_at, has_radius, unused_weight, has_tap, lrf_element}
use Rattle.av1_syntax.specs.declared.restoration.RestorationFilter.{RestorationFilter}
use Rattle.av1_syntax.specs.declared.restoration.RestorationFilter.TheVariants.{None as Unfiltered, Wiener, Sgrproj}
use Rattle.av1_step.specs.declared.step.TileStep.TheVariants.{Lrf}
use Rattle.av1_step.specs.Effect.{Referred}
use Rattle.av1_step.specs.Kind.{Kind}
use Rattle.av1_step.specs.Tile.{Tile, sampling}

-- a weight in its range; where the set of the self-guided filter has no such pass, the one that is not coded
abbrev pub weight_fits : ℕ → ℕ → ℤ → Bool
weight_fits set pass weight =
    int_within (number_at SGRPROJ_XQD_MIN pass) (number_at SGRPROJ_XQD_MAX pass) weight && (has_radius set pass || int_eq weight (unused_weight pass))

abbrev pub weights_fit : ℕ → List ℤ → Bool
weights_fit set weights = nat_eq (length weights) 2 && weight_fits set 0 (number_at weights 0) && weight_fits set 1 (number_at weights 1)

-- a tap in its range; the first of chroma, which is not coded, is zero
abbrev pub tap_fits : Bool → ℕ → ℤ → Bool
tap_fits luma k tap = int_within (number_at WIENER_TAPS_MIN k) (number_at WIENER_TAPS_MAX k) tap && (has_tap luma k || int_eq tap (pos 0))

abbrev pub pass_fits : Bool → List ℤ → Bool
pass_fits luma taps = nat_eq (length taps) 3 && tap_fits luma 0 (number_at taps 0) && tap_fits luma 1 (number_at taps 1) && tap_fits luma 2 (number_at taps 2)

abbrev pub passes_fit : Bool → List (List ℤ) → Bool
passes_fit luma taps = nat_eq (length taps) 2 && pass_fits luma (row_at taps 0) && pass_fits luma (row_at taps 1)

-- the types of planes that have Wiener filters, and those that have self-guided ones
abbrev pub has_wiener : ℕ → Bool
has_wiener lrf_type = nat_eq lrf_type 1 || nat_eq lrf_type 2

abbrev pub has_sgrproj : ℕ → Bool
has_sgrproj lrf_type = nat_eq lrf_type 1 || nat_eq lrf_type 3

-- a filter that a plane of a type can have: none in any
abbrev pub filter_fits : ℕ → Bool → RestorationFilter → Bool
filter_fits lrf_type luma Unfiltered = true
filter_fits lrf_type luma (Wiener taps) = has_wiener lrf_type && passes_fit luma taps
filter_fits lrf_type luma (Sgrproj set weights) = has_sgrproj lrf_type && nat_lt set 16 && weights_fit set weights

-- the filter of a unit in a plane
abbrev pub lrf_kind : ℕ → Tile → Kind RestorationFilter
lrf_kind plane t =
    let now = plane_at t.rs plane in
    let luma = nat_eq plane 0 in
    record {
      place = None;
      asking = rule 86 (nat_lt plane (planes_of (sampling t))) ∷ [];
      answering = λ filter. rule 86 (filter_fits now.lrf_type luma filter) ∷ [];
      element = lrf_element now luma;
      effects = λ filter. Referred plane filter ∷ [];
      step = Lrf plane;
    }
