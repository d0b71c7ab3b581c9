-- The rows of segmentation_params() of the AV1 specification (5.9.14).
use Rattle.std.specs.Prelude.{◌≡◌, ◌<◌, ◌^◌, ℕ, ◌+◌, [], Bool, true, false, ◌&&◌, not, if◌then◌else◌, codes, slice_index_or, ℤ, pos, unsigned_abs}
use Rattle.av1_geometry.specs.declared.segmentation.TheConstants.{seg_feature_bits, seg_feature_is_signed}
use Rattle.av1_frame.specs.declared.state.SegmentationState.{SegmentationState}
use Rattle.av1_header.specs.Rows.{Rows, f, flag, flag_or, number_if, fixed_if, signed_if, on, each, ◌>>=◌}
use Rattle.av1_header.specs.Rows.Rows.{Done}

-- a feature of a segment: whether the segment has it, and its value
pub record Feature : Type 0 where
  pub present : Bool
  pub value : ℤ

abbrev pub feature_of : ℕ → ℕ → SegmentationState → Feature
feature_of i j s = record { present = slice_index_or (slice_index_or s.features i []) j false; value = slice_index_or (slice_index_or s.values i []) j (pos 0) }

-- one feature, whose value has so many bits, and a sign or none
unfoldable pub feature : ℕ → Rows Feature (Unit {0})
feature j = do
  present ← flag (codes "feature_enabled") (λ s. s.present)
  let signed = slice_index_or seg_feature_is_signed j false
  let bits = slice_index_or seg_feature_bits j 0
  difference ← signed_if (present && signed) (codes "feature_value") (bits + 1) (λ s. s.value)
  value ← number_if (present && not signed) (codes "feature_value") (f bits) (λ s. unsigned_abs s.value)
  Done tt

unfoldable pub segment : ℕ → Rows SegmentationState (Unit {0})
segment i = each 8 0 (λ j. on (feature_of i j) (feature j))

-- all features of all segments
unfoldable pub segment_features : Rows SegmentationState (Unit {0})
segment_features = each 8 0 segment

-- the whole, where there is a primary reference or none
unfoldable pub segmentation_params : Bool → Rows SegmentationState (Unit {0})
segmentation_params has_primary = do
  enabled ← flag (codes "segmentation_enabled") (λ s. s.enabled)
  update_map ← flag_or (enabled && has_primary) enabled (codes "segmentation_update_map") (λ s. s.update_map)
  temporal ← fixed_if ((enabled && has_primary) && update_map) (codes "segmentation_temporal_update") 1 0
  update_data ← flag_or (enabled && has_primary) enabled (codes "segmentation_update_data") (λ s. s.update_data)
  if update_data then segment_features else Done tt

-- the values of the features that segments have are within their bits
abbrev pub HaveFittingFeatures : SegmentationState → Type 0
HaveFittingFeatures s =
    (i j : ℕ) → i < 8 → j < 8 → (feature_of i j s).present ≡ true → unsigned_abs (feature_of i j s).value < 2 ^ slice_index_or seg_feature_bits j 0
