-- The kinds of step that say how the quantizer and the loop filter differ in the current block: its segment, and its deltas.
use Rattle.std.specs.Prelude.{◌≡◌, ℕ, ℤ, ◌*◌, ◌&&◌, ◌==◌, List, [], ◌∷◌, Bool, if◌then◌else◌, length, nat_le, nat_lt}
use Rattle.av1_blocks.specs.Grid.{Grid, block_at}
use Rattle.av1_cdf.specs.Distribution.{Distribution}
use Rattle.av1_frame.specs.declared.state.SegmentationState.{SegmentationState}
use Rattle.av1_geometry.specs.Cfl.{magnitude}
use Rattle.av1_geometry.specs.ChromaSampling.{planes_of}
use Rattle.av1_geometry.specs.Rules.{rule}
use Rattle.av1_geometry.specs.declared.block_offset.BlockOffset.{BlockOffset}
use Rattle.av1_model.specs.Element.{Element}
use Rattle.av1_syntax.specs.Deltas.{delta_at, delta_count, deltas_element}
use Rattle.av1_syntax.specs.Segments.{predicted_segment, segment_element}
use Rattle.av1_step.specs.declared.step.TileStep.TheVariants.{Segment, DeltaLf}
use Rattle.av1_step.specs.Effect.{Over}
use Rattle.av1_step.specs.Kind.{Kind, of_block}
use Rattle.av1_step.specs.Tile.{Tile, CurrentBlock, place_of_block, size_of_block, sampling}

-- a grid that is a whole frame, from its corner on
pub record IsWhole (g : Grid) : Type 0 where
  pub corner : (g.x ≡ 0) × (g.y ≡ 0)
  pub cols : g.frame.frame_cols ≡ g.cols
  pub all : length g.frame.blocks ≡ g.cols * g.rows

-- the segments of blocks are coded, which are at most eight
abbrev pub are_segments_coded : SegmentationState → Bool
are_segments_coded s = s.enabled && s.update_map && nat_le s.last_active_segid 7

-- the block at the current one's place is skipped
abbrev pub is_skipped : Tile → CurrentBlock → Bool
is_skipped t b = (block_at t.bc.blocks (place_of_block b).x (place_of_block b).y).skip

-- the segment of the block at a place
abbrev pub segment_at : Grid → BlockOffset → ℕ → Element Distribution ℕ
segment_at g bo last = segment_element g bo (block_at g bo.x bo.y).skip last

-- a segment up to the last one that is used; of a skipped block it is the predicted one
abbrev pub is_segment : Tile → CurrentBlock → ℕ → Bool
is_segment t b i =
    let last = t.given.fs.segmentation.last_active_segid in
    if is_skipped t b then i == predicted_segment t.bc.blocks (place_of_block b) last else nat_le i last

-- the segment of a block
abbrev pub segment_kind : Tile → CurrentBlock → Kind ℕ
segment_kind t b =
    let s = t.given.fs.segmentation in
    let bo = place_of_block b in
    of_block b (rule 67 (are_segments_coded s) ∷ []) (λ i. rule 67 (is_segment t b i) ∷ [])
    (segment_element t.bc.blocks bo (is_skipped t b) s.last_active_segid)
    (λ i. Over bo (size_of_block b) (λ x. record x { segmentation_idx = i }) ∷ []) Segment

-- a delta is at most 63 in size, and those past the count are zero
abbrev pub is_delta_at : ℕ → List ℤ → ℕ → Bool
is_delta_at count ds k = nat_le (magnitude (delta_at ds k)) (if nat_lt k count then 63 else 0)

abbrev pub are_deltas : ℕ → List ℤ → Bool
are_deltas count ds = (length ds == 4) && (is_delta_at count ds 0 && (is_delta_at count ds 1 && (is_delta_at count ds 2 && is_delta_at count ds 3)))

-- how many deltas a block has
abbrev pub block_deltas : Tile → ℕ
block_deltas t = delta_count t.given.fs.deblock.block_delta_multi (planes_of (sampling t))

-- what a block adds to the levels of the loop filter
abbrev pub delta_lf_kind : Tile → CurrentBlock → Kind (List ℤ)
delta_lf_kind t b =
    of_block b (rule 69 t.given.fs.deblock.block_deltas_enabled ∷ []) (λ ds. rule 69 (are_deltas (block_deltas t) ds) ∷ [])
    (deltas_element t.given.fs.deblock.block_delta_multi (planes_of (sampling t)))
    (λ ds. Over (place_of_block b) (size_of_block b) (λ x. record x { deblock_deltas = ds }) ∷ []) DeltaLf
