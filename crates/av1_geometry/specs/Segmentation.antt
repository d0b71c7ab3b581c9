-- The rules of the tables of segment features.
use Rattle.std.specs.Prelude.{◌≡◌, ◌-◌, ◌^◌, [], ◌∷◌, ◌++◌, true, false, map, replicate}
use Rattle.av1_geometry.specs.declared.segmentation.TheConstants.{seg_feature_bits, seg_feature_is_signed}

-- the greatest value of each feature is the greatest number of its bits (AV1 specification, "Segmentation params syntax")
abbrev pub FeatureBitsHoldTheMaxima : Type 0
FeatureBitsHoldTheMaxima = map (λ bits. 2 ^ bits - 1) seg_feature_bits ≡ 255 ∷ 63 ∷ 63 ∷ 63 ∷ 63 ∷ 7 ∷ 0 ∷ 0 ∷ []

-- the quantizer and the four loop filter strengths are differences
abbrev pub SignedFeaturesComeFirst : Type 0
SignedFeaturesComeFirst = seg_feature_is_signed ≡ replicate 5 true ++ replicate 3 false
