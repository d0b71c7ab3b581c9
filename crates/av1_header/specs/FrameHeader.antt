-- The rows of uncompressed_header() of the AV1 specification (5.9.2), put together.
use Rattle.std.specs.Prelude.{◌≡◌, ℕ, ◌+◌, ◌^◌, ◌<◌, ◌≤◌, List, Bool, true, Option, Some, None}
use Rattle.std.specs.Prelude.{◌==◌, ◌&&◌, ◌||◌, not, nat_lt, if◌then◌else◌, codes, slice_index_or}
use Rattle.std.specs.Int.{div_ceil}
use Rattle.av1_frame.specs.Tiling.{tiling}
use Rattle.av1_frame.specs.declared.frame.FrameInvariants.{FrameInvariants}
use Rattle.av1_frame.specs.declared.reference.RefState.{RefState}
use Rattle.av1_frame.specs.declared.sequence.Sequence.{Sequence}
use Rattle.av1_frame.specs.declared.state.FrameState.{FrameState}
use Rattle.av1_header.specs.Rows.{Rows, flag_or, fixed, on, ◌>>=◌}
use Rattle.av1_header.specs.Rows.Rows.{Done}
use Rattle.av1_header.specs.Color.{color_of}
use Rattle.av1_header.specs.Deltas.{Deblock, DeblockFits, QuantizerFits, deltas_before, quantization_params, loop_filter_params}
use Rattle.av1_header.specs.FilmGrain.{FilmGrainFits, film_grain_params}
use Rattle.av1_header.specs.Filters.{CdefFits, RestorationFits, cdef_params, lr_params, modes, global_motion_params}
use Rattle.av1_header.specs.FrameFlags.{hint_of, show_existing, frame_kind, frame_tools, ref_order_hints, intra_frame, inter_frame}
use Rattle.av1_header.specs.SequenceHeader.{SidesFit}
use Rattle.av1_header.specs.Segments.{HaveFittingFeatures, segmentation_params}
use Rattle.av1_header.specs.Sizes.{FrameRefs, RenderFits, max_size_of}
use Rattle.av1_header.specs.Tiles.{Tiles, TilesFit, tile_info}
use Rattle.av1_header.specs.declared.tiles.TileValues.{TileValues}
use Rattle.av1_header.specs.declared.values.FrameKind.{FrameKind}
use Rattle.av1_header.specs.declared.values.FrameStart.{FrameStart}
use Rattle.av1_header.specs.declared.values.FrameTools.{FrameTools}
use Rattle.av1_header.specs.declared.values.SequenceValues.{SequenceValues}
use Rattle.av1_header.specs.declared.values.SideInformation.{SideInformation}

-- what the values of a frame header come from
pub record Frame : Type 0 where
  pub invariants : FrameInvariants
  pub state : FrameState
  pub refs : List (Option RefState)

-- the references, sides and vectors of a frame of either kind
unfoldable pub frame_sides : SequenceValues → FrameKind → FrameTools → Bool → Rows FrameRefs Bool
frame_sides q kind tool high =
    if kind.intra then intra_frame tool q.tools.size high
    else inter_frame (nat_lt 0 q.tools.forces.order_hint_bits) q.tools.inter.ref_frame_mvs kind.error_resilient tool q.tools.size high

-- whether the order hints of all reference frames are there
abbrev pub says_hints : SequenceValues → FrameKind → FrameTools → Bool
says_hints q kind tool = (kind.error_resilient && nat_lt 0 q.tools.forces.order_hint_bits) && (not kind.intra || not (tool.refresh_frame_flags == 255))

-- the rows up to those of tiles
unfoldable pub frame_start : SequenceValues → Bool → Rows FrameRefs FrameStart
frame_start q high_precision = do
  kind ← on (λ fr. fr.invariants) (frame_kind q.reduced)
  tool ← on (λ fr. fr.invariants) (frame_tools q.reduced q.tools.forces kind)
  hints ← on (λ fr. fr.refs) (ref_order_hints (says_hints q kind tool) q.tools.forces.order_hint_bits)
  high ← frame_sides q kind tool high_precision
  last ← flag_or (not q.reduced && not tool.disable_cdf_update) true (codes "disable_frame_end_update_cdf") (λ fr. fr.invariants.disable_frame_end_update_cdf)
  Done (record { kind = kind; tools = tool; high_precision = high })

-- the superblocks along a side
abbrev pub superblocks : ℕ → ℕ
superblocks side = div_ceil side 64

abbrev pub tiles_of : Frame → Tiles
tiles_of fr = record {
  tiling = tiling (superblocks fr.invariants.width) (superblocks fr.invariants.height) fr.invariants.tile_width_sb fr.invariants.tile_height_sb;
  update_id = fr.state.context_update_tile_id;
  size_bytes = fr.state.max_tile_size_bytes;
}

abbrev pub deblock_of : Frame → Deblock
deblock_of fr = record { filter = fr.state.deblock; before = deltas_before fr.invariants fr.refs }

-- the rows of tiles in a frame of these sides
abbrev pub tiles_in : ℕ → ℕ → Rows Tiles TileValues
tiles_in width height = tile_info (superblocks width) (superblocks height)

-- tiles, quantizer, segments and filters
unfoldable pub frame_filters : SequenceValues → Bool → Rows Frame TileValues
frame_filters q has_primary = do
  tiles ← on tiles_of (tiles_in q.tools.size.width q.tools.size.height)
  quantizer ← on (λ fr. fr.invariants) (quantization_params q.color.monochrome)
  segments ← on (λ fr. fr.state.segmentation) (segmentation_params has_primary)
  deltas ← fixed (codes "delta_q_present") 1 0
  deblock ← on deblock_of (loop_filter_params q.color.monochrome)
  cdef ← on (λ fr. fr.invariants) (cdef_params q.tools.filters.cdef q.color.monochrome)
  restoration ← on (λ fr. fr.state.restoration) (lr_params q.tools.filters.restoration q.color)
  Done tiles

-- how many references have a motion of their own
abbrev pub motions : Bool → ℕ
motions intra = if intra then 0 else 7

-- modes, motion and film grain
unfoldable pub frame_modes : SequenceValues → FrameStart → Bool → Rows FrameInvariants (Unit {0})
frame_modes q start skip_mode_allowed = do
  mode ← modes start.kind skip_mode_allowed q.tools.inter.warped_motion
  motion ← global_motion_params (motions start.kind.intra) start.high_precision
  film_grain_params q.film_grain (start.kind.frame_type == 1) q.color

unfoldable pub frame_rows : SequenceValues → SideInformation → Rows Frame (Option TileValues)
frame_rows q side = do
  start ← on (λ fr. record { invariants = fr.invariants; refs = fr.refs }) (frame_start q side.high_precision)
  tiles ← frame_filters q (not (start.tools.primary_ref_frame == 7))
  rest ← on (λ fr. fr.invariants) (frame_modes q start side.skip_mode_allowed)
  Done (Some tiles)

-- the whole, up to its alignment. What it tells is how tiles are said, and nothing where an existing frame is shown
unfoldable pub frame_header : SequenceValues → SideInformation → Rows Frame (Option TileValues)
frame_header q side = do
  existing ← on (λ fr. fr.invariants) (show_existing q.reduced)
  if existing then Done None else frame_rows q side

abbrev pub order_hint_bits_of : Sequence → ℕ
order_hint_bits_of seq = if seq.enable_order_hint then seq.order_hint_bits_minus_1 + 1 else 0

-- what a sequence header tells of a sequence
abbrev pub sequence_values_of : FrameInvariants → SequenceValues
sequence_values_of fi = record {
  reduced = fi.sequence.reduced_still_picture_hdr;
  tools = record {
    size = max_size_of fi;
    inter = record {
      warped_motion = fi.sequence.enable_warped_motion;
      order_hint = fi.sequence.enable_order_hint;
      ref_frame_mvs = fi.sequence.enable_ref_frame_mvs;
    };
    forces = record {
      screen_content_tools = fi.sequence.force_screen_content_tools;
      integer_mv = fi.sequence.force_integer_mv;
      order_hint_bits = order_hint_bits_of fi.sequence;
    };
    filters = record { cdef = fi.sequence.enable_cdef; restoration = fi.sequence.enable_restoration };
  };
  color = color_of fi.sequence.chroma_sampling;
  film_grain = fi.sequence.film_grain_params_present;
}

abbrev pub side_information_of : FrameInvariants → SideInformation
side_information_of fi = record { high_precision = fi.allow_high_precision_mv; skip_mode_allowed = fi.skip_mode_allowed }

-- whether a header shows an existing frame
abbrev pub shows_existing : FrameInvariants → Bool
shows_existing fi = not fi.sequence.reduced_still_picture_hdr && fi.show_existing_frame

-- the numbers of the first rows of a frame header are within their rows
pub record StartFits (fr : FrameRefs) : Type 0 where
  pub hint_bits : order_hint_bits_of fr.invariants.sequence ≤ 8
  pub hint : nat_lt 0 (order_hint_bits_of fr.invariants.sequence) ≡ true → fr.invariants.order_hint < 2 ^ order_hint_bits_of fr.invariants.sequence
  pub ref_hints : nat_lt 0 (order_hint_bits_of fr.invariants.sequence) ≡ true → (i : ℕ) → i < 8 →
      hint_of (slice_index_or fr.refs i None) < 2 ^ order_hint_bits_of fr.invariants.sequence
  pub primary : fr.invariants.primary_ref_frame < 2 ^ 3
  pub refresh : fr.invariants.refresh_frame_flags < 2 ^ 8
  pub places : (i : ℕ) → i < 7 → slice_index_or fr.invariants.ref_frames i 0 < 2 ^ 3
  pub filter : fr.invariants.default_filter < 2 ^ 2
  pub sides : SidesFit fr.invariants
  pub render : RenderFits fr.invariants

-- all numbers of a frame header are within their rows
pub record FrameFits (fr : Frame) : Type 0 where
  pub start : StartFits (record { invariants = fr.invariants; refs = fr.refs })
  pub tiles : TilesFit (tiles_of fr)
  pub quantizer : QuantizerFits fr.invariants
  pub segments : HaveFittingFeatures fr.state.segmentation
  pub deblock : DeblockFits fr.state.deblock
  pub cdef : fr.invariants.sequence.enable_cdef ≡ true → CdefFits fr.invariants
  pub restoration : fr.invariants.sequence.enable_restoration ≡ true → RestorationFits fr.state.restoration
  pub grain : fr.invariants.sequence.film_grain_params_present ≡ true → FilmGrainFits (color_of fr.invariants.sequence.chroma_sampling) fr.invariants.film_grain

abbrev pub frame_of : FrameInvariants → FrameState → List (Option RefState) → Frame
frame_of fi fs refs = record { invariants = fi; state = fs; refs = refs }

-- the header of a frame in a sequence of which this is known
abbrev pub header_of : FrameInvariants → Rows Frame (Option TileValues)
header_of fi = frame_header (sequence_values_of fi) (side_information_of fi)
