-- The rules of quantizers and segments: quantization_params() and segmentation_params() of the AV1 specification, 5.9.12 and 5.9.14.
use Rattle.std.specs.Prelude.{ℕ, ℤ, pos, List, [], ◌∷◌, Bool, false, ◌==◌, ◌&&◌, ◌||◌, not, nat_lt, nat_le, slice_index_or, unsigned_abs, int_le}
use Rattle.std.specs.List.{list_all, list_any, range_with_len}
use Rattle.std.specs.Ordering.{int_eq}
use Rattle.av1_geometry.specs.declared.segmentation.TheConstants.{seg_feature_is_signed}
use Rattle.av1_frame.specs.Tests.{implies, same}
use Rattle.av1_frame.specs.declared.frame.FrameInvariants.{FrameInvariants}
use Rattle.av1_frame.specs.declared.state.SegmentationState.{SegmentationState}

-- a difference of quantizers has a sign and six bits
abbrev pub delta_fits : ℤ → Bool
delta_fits delta = nat_le (unsigned_abs delta) 63

-- no block is lossless by the frame's quantizer, and luma's has no difference for coefficients beyond the first
unfoldable pub quantizer_fits : FrameInvariants → Bool
quantizer_fits fi =
    nat_lt 0 fi.base_q_idx
    && list_all delta_fits fi.dc_delta_q
    && list_all delta_fits fi.ac_delta_q
    && int_eq (slice_index_or fi.ac_delta_q 0 (pos 0)) (pos 0)

-- Segmentation_Feature_Max: how far the value of each feature is from 0
abbrev pub feature_max : List ℕ
feature_max = 255 ∷ 63 ∷ 63 ∷ 63 ∷ 63 ∷ 7 ∷ 0 ∷ 0 ∷ []

abbrev pub value_fits : ℕ → ℤ → Bool
value_fits feature value =
    nat_le (unsigned_abs value) (slice_index_or feature_max feature 0)
    && (slice_index_or seg_feature_is_signed feature false || int_le (pos 0) value)

-- the value of a feature fits where the segment has the feature
abbrev pub feature_fits : List Bool → List ℤ → ℕ → Bool
feature_fits features values j = implies (slice_index_or features j false) (value_fits j (slice_index_or values j (pos 0)))

unfoldable pub segment_fits : List Bool → List ℤ → Bool
segment_fits features values = list_all (feature_fits features values) (range_with_len 0 8)

abbrev pub features_at : SegmentationState → ℕ → List Bool
features_at s i = slice_index_or s.features i []

abbrev pub segment_at_fits : SegmentationState → ℕ → Bool
segment_at_fits s i = segment_fits (features_at s i) (slice_index_or s.values i [])

unfoldable pub segments_fit : SegmentationState → Bool
segments_fit s = list_all (segment_at_fits s) (range_with_len 0 8)

-- whether a segment has a feature
unfoldable pub is_active : SegmentationState → ℕ → Bool
is_active s i = list_any (λ has. has) (features_at s i)

-- a segment is no later than the last one, or has no feature
abbrev pub ends_before : SegmentationState → ℕ → Bool
ends_before s i = nat_le i s.last_active_segid || not (is_active s i)

-- LastActiveSegId: the greatest segment with a feature, or 0
unfoldable pub last_segment_fits : SegmentationState → Bool
last_segment_fits s =
    (s.last_active_segid == 0 || is_active s s.last_active_segid)
    && list_all (ends_before s) (range_with_len 0 8)

-- a frame that takes over no state and has segments says them whole
unfoldable pub segmentation_fits : FrameInvariants → SegmentationState → Bool
segmentation_fits fi s =
    same fi.enable_segmentation s.enabled
    && implies (s.enabled && fi.primary_ref_frame == 7) (s.update_map && s.update_data)
    && segments_fit s
    && last_segment_fits s
