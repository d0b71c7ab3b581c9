-- What the state of a frame's filters and segments is by its members.
use Rattle.std.specs.Prelude.{List, [], ◌∷◌, codes}
use Rattle.av1_frame.specs.Defaults.{no_segments, nothing_deblocked, unrestored}
use Rattle.av1_frame.specs.declared.state.DeblockState.{DeblockState}
use Rattle.av1_frame.specs.declared.state.FrameState.{FrameState}
use Rattle.av1_frame.specs.declared.state.RestorationPlaneConfig.{RestorationPlaneConfig}
use Rattle.av1_frame.specs.declared.state.RestorationState.{RestorationState}
use Rattle.av1_frame.specs.declared.state.SegmentationState.{SegmentationState}
use Rattle.av1_input.specs.Kinds.{Kind, exactly, seen_as, signed, truth, whole}
use Rattle.av1_input.specs.Rows.{Row, object_of, optional, or}

abbrev pub segmentation_rows : List (Row SegmentationState)
segmentation_rows =
    optional (codes "enabled") truth (λ s x. record s { enabled = x })
    ∷ optional (codes "update_map") truth (λ s x. record s { update_map = x })
    ∷ optional (codes "update_data") truth (λ s x. record s { update_data = x })
    ∷ optional (codes "features") (exactly 8 (exactly 8 truth)) (λ s x. record s { features = x })
    ∷ optional (codes "values") (exactly 8 (exactly 8 (signed 16))) (λ s x. record s { values = x })
    ∷ optional (codes "last_active_segid") (whole 8) (λ s x. record s { last_active_segid = x })
    ∷ []

abbrev pub segmentation : Kind SegmentationState
segmentation = object_of segmentation_rows no_segments

abbrev pub deblock_rows : List (Row DeblockState)
deblock_rows =
    optional (codes "levels") (exactly 4 (whole 8)) (λ d x. record d { levels = x })
    ∷ optional (codes "sharpness") (whole 8) (λ d x. record d { sharpness = x })
    ∷ optional (codes "deltas_enabled") truth (λ d x. record d { deltas_enabled = x })
    ∷ optional (codes "delta_updates_enabled") truth (λ d x. record d { delta_updates_enabled = x })
    ∷ optional (codes "ref_deltas") (exactly 8 (signed 8)) (λ d x. record d { ref_deltas = x })
    ∷ optional (codes "mode_deltas") (exactly 2 (signed 8)) (λ d x. record d { mode_deltas = x })
    ∷ optional (codes "block_deltas_enabled") truth (λ d x. record d { block_deltas_enabled = x })
    ∷ optional (codes "block_delta_shift") (whole 8) (λ d x. record d { block_delta_shift = x })
    ∷ optional (codes "block_delta_multi") truth (λ d x. record d { block_delta_multi = x })
    ∷ []

abbrev pub deblock : Kind DeblockState
deblock = object_of deblock_rows nothing_deblocked

abbrev pub plane_rows : List (Row RestorationPlaneConfig)
plane_rows =
    optional (codes "lrf_type") (whole 8) (λ p x. record p { lrf_type = x })
    ∷ or (codes "unit_size") (whole 64) 64 (λ p x. record p { unit_size = x })
    ∷ []

abbrev pub plane : Kind RestorationPlaneConfig
plane = object_of plane_rows unrestored

-- a list of the three planes
abbrev pub planes_of : List RestorationPlaneConfig → RestorationState
planes_of ps = record { planes = ps }

abbrev pub restoration : Kind RestorationState
restoration = seen_as planes_of (exactly 3 plane)

abbrev pub state_rows : List (Row FrameState)
state_rows =
    optional (codes "context_update_tile_id") (whole 64) (λ fs x. record fs { context_update_tile_id = x })
    ∷ optional (codes "segmentation") segmentation (λ fs x. record fs { segmentation = x })
    ∷ optional (codes "deblock") deblock (λ fs x. record fs { deblock = x })
    ∷ optional (codes "restoration") restoration (λ fs x. record fs { restoration = x })
    ∷ []
