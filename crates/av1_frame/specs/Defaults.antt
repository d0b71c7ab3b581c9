-- What a member of a sequence, a frame or its state is where nothing is said of it.
use Rattle.std.specs.Prelude.{ℕ, pos, true, false, None, replicate}
use Rattle.std.specs.Int.{div_ceil}
use Rattle.av1_geometry.specs.declared.chroma_sampling.ChromaSampling.TheVariants.{Cs420}
use Rattle.av1_geometry.specs.declared.chroma_sampling.PixelRange.TheVariants.{Limited}
use Rattle.av1_geometry.specs.declared.frame_type.FrameType.TheVariants.{KEY}
use Rattle.av1_geometry.specs.declared.frame_type.GlobalMVMode.TheVariants.{IDENTITY}
use Rattle.av1_geometry.specs.declared.frame_type.ReferenceMode.TheVariants.{SINGLE}
use Rattle.av1_frame.specs.declared.frame.FrameInvariants.{FrameInvariants}
use Rattle.av1_frame.specs.declared.sequence.Sequence.{Sequence}
use Rattle.av1_frame.specs.declared.state.DeblockState.{DeblockState}
use Rattle.av1_frame.specs.declared.state.FrameState.{FrameState}
use Rattle.av1_frame.specs.declared.state.RestorationPlaneConfig.{RestorationPlaneConfig}
use Rattle.av1_frame.specs.declared.state.RestorationState.{RestorationState}
use Rattle.av1_frame.specs.declared.state.SegmentationState.{SegmentationState}

-- a still picture of 8 bits in 4:2:0 with a reduced header and no tool
unfoldable pub still_sequence : Sequence
still_sequence = record {
  profile = 0;
  still_picture = true;
  reduced_still_picture_hdr = true;
  level_idx = 0;
  timing_info_present = false;
  time_base = record { num = 0; den = 0 };
  use_128x128_superblock = false;
  enable_filter_intra = false;
  enable_intra_edge_filter = false;
  enable_interintra_compound = false;
  enable_masked_compound = false;
  enable_warped_motion = false;
  enable_dual_filter = false;
  enable_order_hint = false;
  enable_jnt_comp = false;
  enable_ref_frame_mvs = false;
  force_screen_content_tools = 2;
  force_integer_mv = 2;
  order_hint_bits_minus_1 = 0;
  enable_superres = false;
  enable_cdef = false;
  enable_restoration = false;
  frame_id_numbers_present_flag = false;
  decoder_model_info_present_flag = false;
  film_grain_params_present = false;
  bit_depth = 8;
  chroma_sampling = Cs420;
  chroma_sample_position = 0;
  pixel_range = Limited;
  color_description = None;
  content_light = None;
  mastering_display = None;
}

-- a shown key frame in one tile with no tool
unfoldable pub key_frame : Sequence → ℕ → ℕ → FrameInvariants
key_frame seq w h = record {
  sequence = seq;
  width = w;
  height = h;
  tile_width_sb = div_ceil w 64;
  tile_height_sb = div_ceil h 64;
  frame_type = KEY;
  show_frame = true;
  showable_frame = false;
  show_existing_frame = false;
  frame_to_show_map_idx = 0;
  error_resilient = false;
  intra_only = true;
  disable_cdf_update = false;
  allow_screen_content_tools = 0;
  force_integer_mv = 1;
  frame_size_override_flag = false;
  order_hint = 0;
  primary_ref_frame = 7;
  refresh_frame_flags = 255;
  render_and_frame_size_different = false;
  render_width = w;
  render_height = h;
  allow_intrabc = false;
  ref_frames = replicate 7 0;
  allow_high_precision_mv = false;
  is_filter_switchable = false;
  default_filter = 0;
  is_motion_mode_switchable = false;
  use_ref_frame_mvs = false;
  disable_frame_end_update_cdf = true;
  base_q_idx = 100;
  dc_delta_q = replicate 3 (pos 0);
  ac_delta_q = replicate 3 (pos 0);
  delta_q_present = false;
  cdef_damping = 3;
  cdef_bits = 0;
  cdef_y_strengths = replicate 8 0;
  cdef_uv_strengths = replicate 8 0;
  tx_mode_select = false;
  reference_mode = SINGLE;
  skip_mode_allowed = false;
  allow_warped_motion = false;
  use_reduced_tx_set = false;
  globalmv_transformation_type = replicate 7 IDENTITY;
  film_grain = None;
  large_scale_tile = false;
  ref_frame_sign_bias = replicate 7 false;
  enable_segmentation = false;
}

-- a plane that isn't restored
abbrev pub unrestored : RestorationPlaneConfig
unrestored = record { lrf_type = 0; unit_size = 64 }

abbrev pub nothing_restored : RestorationState
nothing_restored = record { planes = replicate 3 unrestored }

abbrev pub no_segments : SegmentationState
no_segments = record {
  enabled = false;
  update_map = false;
  update_data = false;
  features = replicate 8 (replicate 8 false);
  values = replicate 8 (replicate 8 (pos 0));
  last_active_segid = 0;
}

abbrev pub nothing_deblocked : DeblockState
nothing_deblocked = record {
  levels = replicate 4 0;
  sharpness = 0;
  deltas_enabled = false;
  delta_updates_enabled = false;
  ref_deltas = replicate 8 (pos 0);
  mode_deltas = replicate 2 (pos 0);
  block_deltas_enabled = false;
  block_delta_shift = 0;
  block_delta_multi = false;
}

-- no segments and no filters
abbrev pub plain_state : FrameState
plain_state = record {
  context_update_tile_id = 0;
  segmentation = no_segments;
  deblock = nothing_deblocked;
  restoration = nothing_restored;
  max_tile_size_bytes = 1;
}
