-- Each number has its value, in each enum.
use Rattle.std.proofs.Common.{◌≡◌, ◌<◌, ◌≤◌, ℕ, Some, None, get_or, refl, sym, subst}
use Rattle.std.proofs.lemmas.Option.{slice_get-get_or, slice_get_past}
use Rattle.av1_geometry.specs.declared.prediction_mode.PredictionMode.{PredictionMode}
use Rattle.std.specs.Prelude.{slice_get, IfSome}
use Rattle.av1_geometry.specs.declared.tx_type.TheConstants.{ALL_TX_TYPES}
use Rattle.av1_geometry.specs.declared.prediction_mode.TheConstants.{ALL_MODES}
use Rattle.av1_geometry.specs.declared.partition_type.TheConstants.{ALL_PARTITIONS}
use Rattle.av1_geometry.specs.declared.ref_type.TheConstants.{ALL_REFERENCES}
use Rattle.av1_geometry.specs.declared.frame_type.TheConstants.{ALL_FRAME_TYPES}
use Rattle.av1_geometry.specs.declared.frame_type.TheConstants.{ALL_REFERENCE_MODES}
use Rattle.av1_geometry.specs.declared.frame_type.TheConstants.{ALL_GLOBAL_MV_MODES}
use Rattle.av1_geometry.specs.declared.chroma_sampling.TheConstants.{ALL_SAMPLINGS}
use Rattle.av1_geometry.specs.declared.chroma_sampling.TheConstants.{ALL_PIXEL_RANGES}
use Rattle.av1_geometry.specs.TxType.{tx_type_number}
use Rattle.av1_geometry.specs.PredictionMode.{prediction_mode_number, prediction_mode_of}
use Rattle.av1_geometry.specs.PartitionType.{partition_number}
use Rattle.av1_geometry.specs.RefType.{reference_number}
use Rattle.av1_geometry.specs.FrameType.{frame_type_number, reference_mode_number, global_mv_mode_number}
use Rattle.av1_geometry.specs.ChromaSampling.{chroma_sampling_number, pixel_range_number}
use Rattle.av1_geometry.proofs.Numbered.{numbered_from_0}

pub tx_type_numbered : (n : ℕ) → IfSome (slice_get ALL_TX_TYPES n) (λ value. tx_type_number value ≡ n)
tx_type_numbered n = numbered_from_0 tx_type_number ALL_TX_TYPES n refl

pub prediction_mode_numbered : (n : ℕ) → IfSome (slice_get ALL_MODES n) (λ value. prediction_mode_number value ≡ n)
prediction_mode_numbered n = numbered_from_0 prediction_mode_number ALL_MODES n refl

pub partition_numbered : (n : ℕ) → IfSome (slice_get ALL_PARTITIONS n) (λ value. partition_number value ≡ n)
partition_numbered n = numbered_from_0 partition_number ALL_PARTITIONS n refl

pub reference_numbered : (n : ℕ) → IfSome (slice_get ALL_REFERENCES n) (λ value. reference_number value ≡ n)
reference_numbered n = numbered_from_0 reference_number ALL_REFERENCES n refl

pub frame_type_numbered : (n : ℕ) → IfSome (slice_get ALL_FRAME_TYPES n) (λ value. frame_type_number value ≡ n)
frame_type_numbered n = numbered_from_0 frame_type_number ALL_FRAME_TYPES n refl

pub reference_mode_numbered : (n : ℕ) → IfSome (slice_get ALL_REFERENCE_MODES n) (λ value. reference_mode_number value ≡ n)
reference_mode_numbered n = numbered_from_0 reference_mode_number ALL_REFERENCE_MODES n refl

pub global_mv_mode_numbered : (n : ℕ) → IfSome (slice_get ALL_GLOBAL_MV_MODES n) (λ value. global_mv_mode_number value ≡ n)
global_mv_mode_numbered n = numbered_from_0 global_mv_mode_number ALL_GLOBAL_MV_MODES n refl

pub chroma_sampling_numbered : (n : ℕ) → IfSome (slice_get ALL_SAMPLINGS n) (λ value. chroma_sampling_number value ≡ n)
chroma_sampling_numbered n = numbered_from_0 chroma_sampling_number ALL_SAMPLINGS n refl

pub pixel_range_numbered : (n : ℕ) → IfSome (slice_get ALL_PIXEL_RANGES n) (λ value. pixel_range_number value ≡ n)
pixel_range_numbered n = numbered_from_0 pixel_range_number ALL_PIXEL_RANGES n refl

pub mode_listed : (n : ℕ) (d : PredictionMode) → n < 34 → Some (get_or ALL_MODES n d) ≡ prediction_mode_of n
mode_listed n d h = sym (slice_get-get_or ALL_MODES n d h)

pub mode_past : (n : ℕ) → 34 ≤ n → None ≡ prediction_mode_of n
mode_past n h = sym (slice_get_past ALL_MODES n h)

pub mode_numbered_at : (n : ℕ) (d : PredictionMode) → n < 34 → prediction_mode_number (get_or ALL_MODES n d) ≡ n
mode_numbered_at n d h = subst (λ o. IfSome o (λ m. prediction_mode_number m ≡ n)) (slice_get-get_or ALL_MODES n d h) (prediction_mode_numbered n)
