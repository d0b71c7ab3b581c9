-- The first rows of uncompressed_header() of the AV1 specification (5.9.2).
use Rattle.std.specs.Prelude.{ℕ, List, Bool, true, Option, Some, None, ◌==◌, ◌&&◌, ◌||◌, not, nat_lt, codes, slice_index_or}
use Rattle.av1_geometry.specs.FrameType.{frame_type_number}
use Rattle.av1_frame.specs.declared.frame.FrameInvariants.{FrameInvariants}
use Rattle.av1_frame.specs.declared.reference.RefState.{RefState}
use Rattle.av1_header.specs.Rows.{Rows, f, flag, flag_if, flag_or, number, number_if, number_or, fixed_if, on, each, ◌>>=◌}
use Rattle.av1_header.specs.Rows.Rows.{Done}
use Rattle.av1_header.specs.Sizes.{FrameRefs, frame_size, render_size, searched, sizes}
use Rattle.av1_header.specs.declared.values.Forces.{Forces}
use Rattle.av1_header.specs.declared.values.MaxSize.{MaxSize}
use Rattle.av1_header.specs.declared.values.FrameKind.{FrameKind}
use Rattle.av1_header.specs.declared.values.FrameTools.{FrameTools}

-- whether an existing frame is shown, and which
unfoldable pub show_existing : Bool → Rows FrameInvariants Bool
show_existing reduced = do
  existing ← flag_if (not reduced) (codes "show_existing_frame") (λ fi. fi.show_existing_frame)
  index ← number_if existing (codes "frame_to_show_map_idx") (f 3) (λ fi. fi.frame_to_show_map_idx)
  trailing ← fixed_if existing (codes "trailing_one_bit") 1 1
  Done existing

-- which kind of frame it is; frame types are 0 for a key frame, 1 inter, 2 intra-only and 3 for a switch frame
unfoldable pub frame_kind : Bool → Rows FrameInvariants FrameKind
frame_kind reduced = do
  kind ← number_if (not reduced) (codes "frame_type") (f 2) (λ fi. frame_type_number fi.frame_type)
  shown ← flag_or (not reduced) true (codes "show_frame") (λ fi. fi.show_frame)
  showable ← flag_if (not reduced && not shown) (codes "showable_frame") (λ fi. fi.showable_frame)
  resilient ← flag_or ((not reduced && not (kind == 3)) && not (kind == 0 && shown)) true (codes "error_resilient_mode") (λ fi. fi.error_resilient)
  Done (record { frame_type = kind; intra = kind == 0 || kind == 2; error_resilient = resilient })

-- which tools the frame has, and which references it keeps
unfoldable pub frame_tools : Bool → Forces → FrameKind → Rows FrameInvariants FrameTools
frame_tools reduced forces kind = do
  disable ← flag (codes "disable_cdf_update") (λ fi. fi.disable_cdf_update)
  screen ← flag_or (forces.screen_content_tools == 2) (forces.screen_content_tools == 1) (codes "allow_screen_content_tools")
      (λ fi. not (fi.allow_screen_content_tools == 0))
  integer ← flag_or (screen && forces.integer_mv == 2) (screen && forces.integer_mv == 1) (codes "force_integer_mv") (λ fi. not (fi.force_integer_mv == 0))
  own ← flag_or (not (kind.frame_type == 3) && not reduced) (kind.frame_type == 3) (codes "frame_size_override_flag") (λ fi. fi.frame_size_override_flag)
  hint ← number_if (nat_lt 0 forces.order_hint_bits) (codes "order_hint") (f forces.order_hint_bits) (λ fi. fi.order_hint)
  primary ← number_or (not kind.error_resilient && not kind.intra) 7 (codes "primary_ref_frame") (f 3) (λ fi. fi.primary_ref_frame)
  refresh ← number_or (not (kind.frame_type == 0) && not (kind.frame_type == 3)) 255 (codes "refresh_frame_flags") (f 8) (λ fi. fi.refresh_frame_flags)
  Done (record {
    disable_cdf_update = disable;
    screen_content_tools = screen;
    integer_mv = integer;
    size_override = own;
    primary_ref_frame = primary;
    refresh_frame_flags = refresh;
  })

-- the order hint of a reference frame, and 0 where there is none
abbrev pub hint_of : Option RefState → ℕ
hint_of None = 0
hint_of (Some r) = r.order_hint

unfoldable pub ref_order_hint : Bool → ℕ → ℕ → Rows (List (Option RefState)) (Unit {0})
ref_order_hint there n i = do
  hint ← number_if there (codes "ref_order_hint") (f n) (λ refs. hint_of (slice_index_or refs i None))
  Done tt

-- the order hints of all reference frames, in n bits each
unfoldable pub ref_order_hints : Bool → ℕ → Rows (List (Option RefState)) (Unit {0})
ref_order_hints there n = each 8 0 (ref_order_hint there n)

unfoldable pub ref_frame_idx : ℕ → Rows FrameInvariants (Unit {0})
ref_frame_idx i = do
  place ← number (codes "ref_frame_idx") (f 3) (λ fi. slice_index_or fi.ref_frames i 0)
  Done tt

-- the seven references of an inter frame
unfoldable pub ref_frames : Bool → Rows FrameInvariants (Unit {0})
ref_frames hints = do
  short ← fixed_if hints (codes "frame_refs_short_signaling") 1 0
  each 7 0 ref_frame_idx

-- how an inter frame uses vectors. What they tell is whether vectors have eighths of a sample
unfoldable pub vectors : Bool → Bool → Bool → Rows FrameInvariants Bool
vectors integer mvs high_precision = do
  high ← flag_or (not integer) high_precision (codes "allow_high_precision_mv") (λ fi. fi.allow_high_precision_mv)
  switchable ← flag (codes "is_filter_switchable") (λ fi. fi.is_filter_switchable)
  filter ← number_if (not switchable) (codes "interpolation_filter") (f 2) (λ fi. fi.default_filter)
  motion ← flag (codes "is_motion_mode_switchable") (λ fi. fi.is_motion_mode_switchable)
  use_mvs ← flag_if mvs (codes "use_ref_frame_mvs") (λ fi. fi.use_ref_frame_mvs)
  Done high

-- the sides of an intra frame
unfoldable pub intra_frame : FrameTools → MaxSize → Bool → Rows FrameRefs Bool
intra_frame tool size high_precision = do
  height ← on (λ fr. fr.invariants) (frame_size tool.size_override size)
  render ← on (λ fr. fr.invariants) (render_size true)
  intrabc ← flag_if tool.screen_content_tools (codes "allow_intrabc") (λ fr. fr.invariants.allow_intrabc)
  Done high_precision

-- the references, sides and vectors of an inter frame
unfoldable pub inter_frame : Bool → Bool → Bool → FrameTools → MaxSize → Bool → Rows FrameRefs Bool
inter_frame hints mvs resilient tool size high_precision = do
  places ← on (λ fr. fr.invariants) (ref_frames hints)
  height ← sizes (searched (tool.size_override && not resilient)) tool.size_override size
  on (λ fr. fr.invariants) (vectors tool.integer_mv (mvs && not resilient) high_precision)
