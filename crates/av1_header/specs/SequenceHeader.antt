-- The rows of sequence_header_obu() of the AV1 specification (5.5).
use Rattle.std.specs.Prelude.{ℕ, ◌+◌, ◌-◌, ◌^◌, ◌<◌, ◌≤◌, max, Bool, ◌==◌, ◌&&◌, not, nat_lt, if◌then◌else◌, codes}
use Rattle.std.specs.Int.{leading_zeros, w32}
use Rattle.av1_frame.specs.declared.sequence.Sequence.{Sequence}
use Rattle.av1_frame.specs.declared.frame.FrameInvariants.{FrameInvariants}
use Rattle.av1_header.specs.Rows.{Rows, f, flag, flag_if, number, number_if, number_or, fixed_if, on, ◌>>=◌}
use Rattle.av1_header.specs.Rows.Rows.{Done}
use Rattle.av1_header.specs.Color.{color_config}
use Rattle.av1_header.specs.declared.values.MaxSize.{MaxSize}
use Rattle.av1_header.specs.declared.values.Profile.{Profile}
use Rattle.av1_header.specs.declared.values.InterTools.{InterTools}
use Rattle.av1_header.specs.declared.values.Forces.{Forces}
use Rattle.av1_header.specs.declared.values.Filters.{Filters}
use Rattle.av1_header.specs.declared.values.Tools.{Tools}
use Rattle.av1_header.specs.declared.values.SequenceValues.{SequenceValues}

-- how many binary digits a number has, at least 1
unfoldable pub bit_length : ℕ → ℕ
bit_length n = max 1 (32 - leading_zeros w32 n)

-- the greatest sides, and in how many bits each is coded
unfoldable pub max_frame_size : Rows FrameInvariants MaxSize
max_frame_size = do
  w ← number (codes "frame_width_bits_minus_1") (f 4) (λ fi. bit_length (fi.width - 1) - 1)
  h ← number (codes "frame_height_bits_minus_1") (f 4) (λ fi. bit_length (fi.height - 1) - 1)
  width ← number (codes "max_frame_width_minus_1") (f (w + 1)) (λ fi. fi.width - 1)
  height ← number (codes "max_frame_height_minus_1") (f (h + 1)) (λ fi. fi.height - 1)
  Done (record { width_bits = w + 1; height_bits = h + 1; width = width + 1; height = height + 1 })

unfoldable pub profile : Rows Sequence Profile
profile = do
  number_of_profile ← number (codes "seq_profile") (f 3) (λ seq. seq.profile)
  still ← flag (codes "still_picture") (λ seq. seq.still_picture)
  reduced ← flag (codes "reduced_still_picture_header") (λ seq. seq.reduced_still_picture_hdr)
  Done (record { profile = number_of_profile; reduced = reduced })

-- timing_info(), in a header that is reduced or not
unfoldable pub timing : Bool → Rows Sequence ℕ
timing reduced = do
  present ← flag_if (not reduced) (codes "timing_info_present_flag") (λ seq. seq.timing_info_present)
  num ← number_if present (codes "num_units_in_display_tick") (f 32) (λ seq. seq.time_base.num)
  den ← number_if present (codes "time_scale") (f 32) (λ seq. seq.time_base.den)
  equal ← fixed_if present (codes "equal_picture_interval") 1 1
  ticks ← fixed_if present (codes "num_ticks_per_picture_minus_1") 1 1
  fixed_if present (codes "decoder_model_info_present_flag") 1 0

-- one operating point, with its level
unfoldable pub operating_point : Bool → Rows Sequence ℕ
operating_point reduced = do
  delay ← fixed_if (not reduced) (codes "initial_display_delay_present_flag") 1 0
  count ← fixed_if (not reduced) (codes "operating_points_cnt_minus_1") 5 0
  idc ← fixed_if (not reduced) (codes "operating_point_idc") 12 0
  level ← number (codes "seq_level_idx") (f 5) (λ seq. seq.level_idx)
  fixed_if (not reduced && nat_lt 7 level) (codes "seq_tier") 1 0

unfoldable pub intra_tools : Bool → Rows Sequence Bool
intra_tools reduced = do
  ids ← fixed_if (not reduced) (codes "frame_id_numbers_present_flag") 1 0
  large ← flag (codes "use_128x128_superblock") (λ seq. seq.use_128x128_superblock)
  filter ← flag (codes "enable_filter_intra") (λ seq. seq.enable_filter_intra)
  flag (codes "enable_intra_edge_filter") (λ seq. seq.enable_intra_edge_filter)

unfoldable pub inter_tools : Bool → Rows Sequence InterTools
inter_tools reduced = do
  interintra ← flag_if (not reduced) (codes "enable_interintra_compound") (λ seq. seq.enable_interintra_compound)
  masked ← flag_if (not reduced) (codes "enable_masked_compound") (λ seq. seq.enable_masked_compound)
  warped ← flag_if (not reduced) (codes "enable_warped_motion") (λ seq. seq.enable_warped_motion)
  dual ← flag_if (not reduced) (codes "enable_dual_filter") (λ seq. seq.enable_dual_filter)
  hints ← flag_if (not reduced) (codes "enable_order_hint") (λ seq. seq.enable_order_hint)
  jnt ← flag_if hints (codes "enable_jnt_comp") (λ seq. seq.enable_jnt_comp)
  mvs ← flag_if hints (codes "enable_ref_frame_mvs") (λ seq. seq.enable_ref_frame_mvs)
  Done (record { warped_motion = warped; order_hint = hints; ref_frame_mvs = mvs })

abbrev pub forces_of : ℕ → ℕ → Bool → ℕ → Forces
forces_of screen integer hints bits = record { screen_content_tools = screen; integer_mv = integer; order_hint_bits = if hints then bits + 1 else 0 }

-- what is forced on frames, and how many bits an order hint has
unfoldable pub forces : Bool → Bool → Rows Sequence Forces
forces reduced hints = do
  choose_screen ← flag_if (not reduced) (codes "seq_choose_screen_content_tools") (λ seq. seq.force_screen_content_tools == 2)
  screen ← number_or (not reduced && not choose_screen) 2 (codes "seq_force_screen_content_tools") (f 1) (λ seq. seq.force_screen_content_tools)
  choose_integer ← flag_if (not reduced && not (screen == 0)) (codes "seq_choose_integer_mv") (λ seq. seq.force_integer_mv == 2)
  integer ← number_or ((not reduced && not (screen == 0)) && not choose_integer) 2 (codes "seq_force_integer_mv") (f 1) (λ seq. seq.force_integer_mv)
  bits ← number_if hints (codes "order_hint_bits_minus_1") (f 3) (λ seq. seq.order_hint_bits_minus_1)
  Done (forces_of screen integer hints bits)

unfoldable pub filters : Rows Sequence Filters
filters = do
  superres ← flag (codes "enable_superres") (λ seq. seq.enable_superres)
  cdef ← flag (codes "enable_cdef") (λ seq. seq.enable_cdef)
  restoration ← flag (codes "enable_restoration") (λ seq. seq.enable_restoration)
  Done (record { cdef = cdef; restoration = restoration })

-- from the greatest sides to the filters
unfoldable pub tools : Bool → Rows FrameInvariants Tools
tools reduced = do
  size ← max_frame_size
  edge ← on (λ fi. fi.sequence) (intra_tools reduced)
  inter ← on (λ fi. fi.sequence) (inter_tools reduced)
  force ← on (λ fi. fi.sequence) (forces reduced inter.order_hint)
  filter ← on (λ fi. fi.sequence) filters
  Done (record { size = size; inter = inter; forces = force; filters = filter })

-- the whole, up to its trailing bits
unfoldable pub sequence_header : Rows FrameInvariants SequenceValues
sequence_header = do
  head ← on (λ fi. fi.sequence) profile
  time ← on (λ fi. fi.sequence) (timing head.reduced)
  point ← on (λ fi. fi.sequence) (operating_point head.reduced)
  tool ← tools head.reduced
  color ← on (λ fi. fi.sequence) (color_config head.profile)
  grain ← flag (codes "film_grain_params_present") (λ fi. fi.sequence.film_grain_params_present)
  Done (record { reduced = head.reduced; tools = tool; color = color; film_grain = grain })

-- the sides of a frame are within their rows
abbrev pub SidesFit : FrameInvariants → Type 0
SidesFit fi = (1 ≤ fi.width) × (fi.width ≤ 65536) × (1 ≤ fi.height) × (fi.height ≤ 65536)

-- the sides and forces are within their rows
pub record ToolsFit (fi : FrameInvariants) : Type 0 where
  pub sides : SidesFit fi
  pub screen : fi.sequence.force_screen_content_tools ≤ 2
  pub integer : fi.sequence.force_integer_mv ≤ 2
  pub hint_bits : fi.sequence.order_hint_bits_minus_1 < 2 ^ 3

-- all numbers of a sequence header are within their rows
pub record SequenceFits (fi : FrameInvariants) : Type 0 where
  pub tools : ToolsFit fi
  pub profile : fi.sequence.profile < 2 ^ 3
  pub level : fi.sequence.level_idx < 2 ^ 5
  pub num : fi.sequence.time_base.num < 2 ^ 32
  pub den : fi.sequence.time_base.den < 2 ^ 32
  pub position : fi.sequence.chroma_sample_position < 2 ^ 2
