-- The filters of loop restoration.
use Rattle.std.specs.Prelude.{◌≡◌, ℕ, zero, suc, ◌+◌, ◌-◌, ◌*◌, ◌<◌, List, [], ◌∷◌, Bool, false, not, ◌||◌, if◌then◌else◌, min}
use Rattle.std.specs.Prelude.{nat_eq, codes, drop, length, slice_get, slice_index, slice_index_or, ℤ, pos, ◌+ℤ◌, ◌≤ℤ◌, ◌⊎◌}
use Rattle.av1_cdf.specs.Context.{contents}
use Rattle.av1_cdf.specs.Distribution.{Distribution, Even}
use Rattle.av1_cdf.specs.Distribution.Distribution.{Adaptive}
use Rattle.av1_cdf.specs.Layout.{Slot, slot}
use Rattle.av1_codes.specs.Codes.{refsubexp_between}
use Rattle.av1_ec.specs.CodeTrees.{code, between_tree}
use Rattle.av1_geometry.specs.declared.constants.TheConstants.{SGRPROJ_XQD_MIN, SGRPROJ_XQD_MAX, SGRPROJ_XQD_MID}
use Rattle.av1_geometry.specs.declared.constants.TheConstants.{WIENER_TAPS_MIN, WIENER_TAPS_MAX, WIENER_TAPS_MID, SGRPROJ_RADII}
use Rattle.av1_model.specs.Cdf.{token_of}
use Rattle.av1_model.specs.Eighths.{eighths}
use Rattle.av1_model.specs.Interval.{Interval, narrow}
use Rattle.av1_model.specs.Element.{Element, known, symbol, choose, after, renamed}
use Rattle.av1_syntax.specs.Literals.{literal}
use Rattle.av1_syntax.specs.declared.restoration.RestorationFilter.{RestorationFilter}
use Rattle.av1_syntax.specs.declared.restoration.RestorationFilter.TheVariants.{None as Unfiltered, Wiener, Sgrproj}
use Rattle.av1_syntax.specs.declared.restoration.RestorationPlane.{RestorationPlane}
use Rattle.av1_syntax.specs.declared.restoration.TileRestorationState.{TileRestorationState}

-- the state of a plane
abbrev pub plane_at : TileRestorationState → ℕ → RestorationPlane
plane_at rs pli = slice_index_or rs.planes pli record { lrf_type = 0; sgrproj_ref = []; wiener_ref = [] }

-- a plane of a type, as a tile begins
abbrev pub starting : ℕ → RestorationPlane
starting lrf_type = record { lrf_type = lrf_type; sgrproj_ref = SGRPROJ_XQD_MID; wiener_ref = WIENER_TAPS_MID ∷ WIENER_TAPS_MID ∷ [] }

abbrev pub number_at : List ℤ → ℕ → ℤ
number_at ns k = slice_index_or ns k (pos 0)

abbrev pub row_at : List (List ℤ) → ℕ → List ℤ
row_at rows k = slice_index_or rows k []

-- one element after another, by their places from one on, so many
abbrev pub each : {Q A : Type 0} → (ℕ → Element Q A) → A → ℕ → ℕ → Element Q (List A)
each e d k zero = known []
each e d k (suc n) = after (e k) (λ a. renamed (each e d (suc k) n) (λ more. a ∷ more) (λ all. drop 1 all)) (λ all. slice_index_or all 0 d)

-- no filter, a Wiener filter, a self-guided one: restoration_type of the AV1 specification
abbrev pub kind_of : RestorationFilter → ℕ
kind_of Unfiltered = 0
kind_of (Wiener taps) = 1
kind_of (Sgrproj set weights) = 2

-- the kinds that a type of planes has, by their symbols: all where they are switched, else none and one
abbrev pub kinds : ℕ → List ℕ
kinds lrf_type = if nat_eq lrf_type 1 then 0 ∷ 1 ∷ 2 ∷ [] else 0 ∷ (lrf_type - 1) ∷ []

abbrev pub kind_symbol : ℕ → ℕ → ℕ
kind_symbol lrf_type kind = if nat_eq lrf_type 1 then kind else min kind 1

abbrev pub kind_slot : ℕ → Slot
kind_slot lrf_type =
    if nat_eq lrf_type 1 then slot (codes "lrf_switchable_cdf") []
    else if nat_eq lrf_type 2 then slot (codes "lrf_wiener_cdf") []
    else slot (codes "lrf_sgrproj_cdf") []

-- the kind of a filter, by the type of the plane, of which 0 has no filter
abbrev pub kind_element : ℕ → Element Distribution ℕ
kind_element lrf_type = choose (nat_eq lrf_type 0) (known 0) (symbol (Adaptive (kind_slot lrf_type)) (slice_get (kinds lrf_type)) (kind_symbol lrf_type))

-- a number from a least one to a greatest one, in even bits by its distance from a reference: decode_signed_subexp_with_ref_bool() of the AV1 specification
abbrev pub near_word : ℤ → ℤ → ℕ → ℤ → ℤ → List Bool
near_word least greatest k ref v = refsubexp_between least (greatest +ℤ pos 1) k ref v

abbrev pub near_element : ℤ → ℤ → ℕ → ℤ → Element Distribution ℤ
near_element least greatest k ref = code (between_tree Even least (greatest +ℤ pos 1) k ref) (near_word least greatest k ref)

-- whether a set of the self-guided filter has a pass
abbrev pub has_radius : ℕ → ℕ → Bool
has_radius set pass = not (nat_eq (slice_index (slice_index_or SGRPROJ_RADII set []) pass) 0)

-- a weight without its pass
abbrev pub unused_weight : ℕ → ℤ
unused_weight pass = if nat_eq pass 0 then pos 0 else pos 95

-- the weight of a pass, by its reference
abbrev pub weight_by : ℕ → ℕ → ℤ → Element Distribution ℤ
weight_by set pass ref =
    let coded = near_element (number_at SGRPROJ_XQD_MIN pass) (number_at SGRPROJ_XQD_MAX pass) 4 ref in
    choose (has_radius set pass) coded (known (unused_weight pass))

abbrev pub weight_element : ℕ → List ℤ → ℕ → Element Distribution ℤ
weight_element set refs pass = weight_by set pass (number_at refs pass)

abbrev pub set_of : RestorationFilter → ℕ
set_of (Sgrproj set weights) = set
set_of _ = 0

abbrev pub weights_of : RestorationFilter → List ℤ
weights_of (Sgrproj set weights) = weights
weights_of _ = []

-- a self-guided filter: its set and both weights
abbrev pub sgrproj_element : List ℤ → Element Distribution RestorationFilter
sgrproj_element refs = after (literal 4) (λ set. renamed (each (weight_element set refs) (pos 0) 0 2) (Sgrproj set) weights_of) set_of

-- whether a tap is coded: chroma has no first one
abbrev pub has_tap : Bool → ℕ → Bool
has_tap luma tap = luma || not (nat_eq tap 0)

-- a tap, by its reference
abbrev pub tap_by : Bool → ℕ → ℤ → Element Distribution ℤ
tap_by luma tap ref = choose (has_tap luma tap) (near_element (number_at WIENER_TAPS_MIN tap) (number_at WIENER_TAPS_MAX tap) (tap + 1) ref) (known (pos 0))

abbrev pub tap_element : Bool → List ℤ → ℕ → Element Distribution ℤ
tap_element luma refs tap = tap_by luma tap (number_at refs tap)

abbrev pub taps_of : RestorationFilter → List (List ℤ)
taps_of (Wiener taps) = taps
taps_of _ = []

-- a Wiener filter: three taps for each pass
abbrev pub wiener_element : Bool → List (List ℤ) → Element Distribution RestorationFilter
wiener_element luma refs = renamed (each (λ pass. each (tap_element luma (row_at refs pass)) (pos 0) 0 3) [] 0 2) Wiener taps_of

-- a filter of a kind
abbrev pub filter_element : RestorationPlane → Bool → ℕ → Element Distribution RestorationFilter
filter_element plane luma kind =
    choose (nat_eq kind 0) (known Unfiltered) (choose (nat_eq kind 1) (wiener_element luma plane.wiener_ref) (sgrproj_element plane.sgrproj_ref))

-- the filter of a unit of luma or of a chroma plane: lr_unit of the AV1 specification
abbrev pub lrf_element : RestorationPlane → Bool → Element Distribution RestorationFilter
lrf_element plane luma = after (kind_element plane.lrf_type) (filter_element plane luma) kind_of

-- the filter is the next reference; a tap that is not coded leaves its own
abbrev pub renewed_taps : Bool → List ℤ → List ℤ → List ℤ
renewed_taps luma taps refs = if luma then taps else number_at refs 0 ∷ drop 1 taps

abbrev pub renewed : Bool → RestorationFilter → RestorationPlane → RestorationPlane
renewed luma Unfiltered plane = plane
renewed luma (Wiener taps) plane =
    let row = λ (pass : ℕ). renewed_taps luma (row_at taps pass) (row_at plane.wiener_ref pass) in
    record plane { wiener_ref = row 0 ∷ row 1 ∷ [] }
renewed luma (Sgrproj set weights) plane = record plane { sgrproj_ref = weights }

-- a number is within these bounds, and numbers are within those of their places
pub record IsBetween (least greatest v : ℤ) : Type 0 where
  pub from : least ≤ℤ v
  pub to : v ≤ℤ greatest

abbrev pub AreWithin : ℕ → List ℤ → List ℤ → List ℤ → Type 0
AreWithin count least greatest ns = (k : ℕ) → k < count → IsBetween (number_at least k) (number_at greatest k) (number_at ns k)

-- the references of a plane are in their ranges
abbrev pub AreReferences : List (List ℤ) → Type 0
AreReferences refs = (pass : ℕ) → pass < 2 → AreWithin 3 WIENER_TAPS_MIN WIENER_TAPS_MAX (row_at refs pass)

pub record HasReferences (plane : RestorationPlane) : Type 0 where
  pub weights : AreWithin 2 SGRPROJ_XQD_MIN SGRPROJ_XQD_MAX plane.sgrproj_ref
  pub taps : AreReferences plane.wiener_ref

-- two weights in their ranges, where one without a pass is what a reader takes
pub record AreWeights (set : ℕ) (weights : List ℤ) : Type 0 where
  pub two : length weights ≡ 2
  pub within : AreWithin 2 SGRPROJ_XQD_MIN SGRPROJ_XQD_MAX weights
  pub unused : (pass : ℕ) → pass < 2 → has_radius set pass ≡ false → number_at weights pass ≡ unused_weight pass

-- three taps in their ranges, where the first of chroma is zero
pub record ArePassTaps (luma : Bool) (taps : List ℤ) : Type 0 where
  pub three : length taps ≡ 3
  pub within : AreWithin 3 WIENER_TAPS_MIN WIENER_TAPS_MAX taps
  pub first : (k : ℕ) → k < 3 → has_tap luma k ≡ false → number_at taps k ≡ pos 0

pub record AreTaps (luma : Bool) (taps : List (List ℤ)) : Type 0 where
  pub two : length taps ≡ 2
  pub each_pass : (pass : ℕ) → pass < 2 → ArePassTaps luma (row_at taps pass)

-- a kind that a plane of a type may have: none in any, Wiener in types 1 and 2, self-guided in types 1 and 3
abbrev pub IsKindOf : ℕ → ℕ → Type 0
IsKindOf lrf_type zero = Unit {0}
IsKindOf lrf_type (suc zero) = (lrf_type ≡ 1) ⊎ (lrf_type ≡ 2)
IsKindOf lrf_type (suc (suc zero)) = (lrf_type ≡ 1) ⊎ (lrf_type ≡ 3)
IsKindOf lrf_type (suc (suc (suc kind))) = ⊥

-- a filter that a plane of a type may have
abbrev pub IsFilterOf : ℕ → Bool → RestorationFilter → Type 0
IsFilterOf lrf_type luma Unfiltered = Unit {0}
IsFilterOf lrf_type luma (Wiener taps) = IsKindOf lrf_type 1 × AreTaps luma taps
IsFilterOf lrf_type luma (Sgrproj set weights) = IsKindOf lrf_type 2 × (set < 16) × AreWeights set weights

-- What a filter costs where the kinds are switched.

-- no Wiener filter
abbrev pub IsCounted : RestorationFilter → Type 0
IsCounted Unfiltered = Unit {0}
IsCounted (Wiener taps) = ⊥
IsCounted (Sgrproj set weights) = (set < 16) × AreWithin 2 SGRPROJ_XQD_MIN SGRPROJ_XQD_MAX weights

-- how many symbols follow that of the kind, which are bits that are as likely as not
abbrev pub flat_bits_by : List ℤ → RestorationFilter → ℕ
flat_bits_by refs f = if nat_eq (kind_of f) 2 then length ((sgrproj_element refs).symbols f) else 0

abbrev pub flat_bits : RestorationPlane → RestorationFilter → ℕ
flat_bits plane f = flat_bits_by plane.sgrproj_ref f

-- in eighths of a bit, a symbol by these numbers and so many bits
abbrev pub IsCost : Interval → List ℕ → ℕ → ℕ → ℕ → Type 0
IsCost i cdf s bits cost = eighths i + cost ≡ eighths (narrow i (token_of cdf s)) + 8 * bits

-- what the filter of a unit takes after these, where the kinds of filters are switched
abbrev pub IsFilterCost : Interval → List ℕ → RestorationPlane → RestorationFilter → ℕ → Type 0
IsFilterCost i numbers plane filter cost =
    IsCost i (contents numbers (slot (codes "lrf_switchable_cdf") [])) (kind_of filter) (flat_bits plane filter) cost
