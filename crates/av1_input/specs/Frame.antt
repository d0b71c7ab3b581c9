-- What a frame is by its members, but for the state of its filters and segments.
use Rattle.std.specs.Prelude.{List, [], ◌∷◌, ◌++◌, true, codes}
use Rattle.std.specs.Int.{div_ceil}
use Rattle.av1_geometry.specs.FrameType.{frame_type_of, global_mv_mode_of, reference_mode_of}
use Rattle.av1_geometry.specs.declared.frame_type.FrameType.{FrameType}
use Rattle.av1_geometry.specs.declared.frame_type.FrameType.TheVariants.{KEY}
use Rattle.av1_geometry.specs.declared.frame_type.GlobalMVMode.{GlobalMVMode}
use Rattle.av1_geometry.specs.declared.frame_type.GlobalMVMode.TheVariants.{IDENTITY}
use Rattle.av1_geometry.specs.declared.frame_type.ReferenceMode.{ReferenceMode}
use Rattle.av1_geometry.specs.declared.frame_type.ReferenceMode.TheVariants.{SINGLE}
use Rattle.av1_frame.specs.declared.frame.FrameInvariants.{FrameInvariants}
use Rattle.av1_input.specs.FilmGrain.{grain}
use Rattle.av1_input.specs.Kinds.{Kind, choice, exactly, nullable, signed, truth, whole}
use Rattle.av1_input.specs.Rows.{Row, optional, or, or_by, required}

abbrev pub kind_of_frame : Kind FrameType
kind_of_frame = choice frame_type_of KEY

abbrev pub references : Kind ReferenceMode
references = choice reference_mode_of SINGLE

abbrev pub global_motion : Kind GlobalMVMode
global_motion = choice global_mv_mode_of IDENTITY

-- the frame's sides and its tiles'
abbrev pub size_rows : List (Row FrameInvariants)
size_rows =
    required (codes "width") (whole 64) (λ fi x. record fi { width = x })
    ∷ required (codes "height") (whole 64) (λ fi x. record fi { height = x })
    ∷ or_by (codes "tile_width_sb") (whole 64) (λ fi. div_ceil fi.width 64) (λ fi x. record fi { tile_width_sb = x })
    ∷ or_by (codes "tile_height_sb") (whole 64) (λ fi. div_ceil fi.height 64) (λ fi x. record fi { tile_height_sb = x })
    ∷ []

-- how the frame is shown, and what its blocks may be
abbrev pub show_rows : List (Row FrameInvariants)
show_rows =
    optional (codes "frame_type") kind_of_frame (λ fi x. record fi { frame_type = x })
    ∷ or (codes "show_frame") truth true (λ fi x. record fi { show_frame = x })
    ∷ optional (codes "showable_frame") truth (λ fi x. record fi { showable_frame = x })
    ∷ optional (codes "show_existing_frame") truth (λ fi x. record fi { show_existing_frame = x })
    ∷ optional (codes "frame_to_show_map_idx") (whole 32) (λ fi x. record fi { frame_to_show_map_idx = x })
    ∷ optional (codes "error_resilient") truth (λ fi x. record fi { error_resilient = x })
    ∷ or (codes "intra_only") truth true (λ fi x. record fi { intra_only = x })
    ∷ optional (codes "disable_cdf_update") truth (λ fi x. record fi { disable_cdf_update = x })
    ∷ optional (codes "allow_screen_content_tools") (whole 32) (λ fi x. record fi { allow_screen_content_tools = x })
    ∷ or (codes "force_integer_mv") (whole 32) 1 (λ fi x. record fi { force_integer_mv = x })
    ∷ []

-- other frames, and the sides to render at
abbrev pub reference_rows : List (Row FrameInvariants)
reference_rows =
    optional (codes "frame_size_override_flag") truth (λ fi x. record fi { frame_size_override_flag = x })
    ∷ optional (codes "order_hint") (whole 32) (λ fi x. record fi { order_hint = x })
    ∷ or (codes "primary_ref_frame") (whole 32) 7 (λ fi x. record fi { primary_ref_frame = x })
    ∷ or (codes "refresh_frame_flags") (whole 32) 255 (λ fi x. record fi { refresh_frame_flags = x })
    ∷ optional (codes "render_and_frame_size_different") truth (λ fi x. record fi { render_and_frame_size_different = x })
    ∷ or_by (codes "render_width") (whole 64) (λ fi. fi.width) (λ fi x. record fi { render_width = x })
    ∷ or_by (codes "render_height") (whole 64) (λ fi. fi.height) (λ fi x. record fi { render_height = x })
    ∷ optional (codes "allow_intrabc") truth (λ fi x. record fi { allow_intrabc = x })
    ∷ optional (codes "ref_frames") (exactly 7 (whole 8)) (λ fi x. record fi { ref_frames = x })
    ∷ []

-- motion, and the end of the frame
abbrev pub motion_rows : List (Row FrameInvariants)
motion_rows =
    optional (codes "allow_high_precision_mv") truth (λ fi x. record fi { allow_high_precision_mv = x })
    ∷ optional (codes "is_filter_switchable") truth (λ fi x. record fi { is_filter_switchable = x })
    ∷ optional (codes "default_filter") (whole 32) (λ fi x. record fi { default_filter = x })
    ∷ optional (codes "is_motion_mode_switchable") truth (λ fi x. record fi { is_motion_mode_switchable = x })
    ∷ optional (codes "use_ref_frame_mvs") truth (λ fi x. record fi { use_ref_frame_mvs = x })
    ∷ or (codes "disable_frame_end_update_cdf") truth true (λ fi x. record fi { disable_frame_end_update_cdf = x })
    ∷ []

-- quantizers and the directional filter
abbrev pub quantizer_rows : List (Row FrameInvariants)
quantizer_rows =
    or (codes "base_q_idx") (whole 8) 100 (λ fi x. record fi { base_q_idx = x })
    ∷ optional (codes "dc_delta_q") (exactly 3 (signed 8)) (λ fi x. record fi { dc_delta_q = x })
    ∷ optional (codes "ac_delta_q") (exactly 3 (signed 8)) (λ fi x. record fi { ac_delta_q = x })
    ∷ optional (codes "delta_q_present") truth (λ fi x. record fi { delta_q_present = x })
    ∷ or (codes "cdef_damping") (whole 8) 3 (λ fi x. record fi { cdef_damping = x })
    ∷ optional (codes "cdef_bits") (whole 8) (λ fi x. record fi { cdef_bits = x })
    ∷ optional (codes "cdef_y_strengths") (exactly 8 (whole 8)) (λ fi x. record fi { cdef_y_strengths = x })
    ∷ optional (codes "cdef_uv_strengths") (exactly 8 (whole 8)) (λ fi x. record fi { cdef_uv_strengths = x })
    ∷ []

-- modes, global motion and film grain
abbrev pub mode_rows : List (Row FrameInvariants)
mode_rows =
    optional (codes "tx_mode_select") truth (λ fi x. record fi { tx_mode_select = x })
    ∷ optional (codes "reference_mode") references (λ fi x. record fi { reference_mode = x })
    ∷ optional (codes "skip_mode_allowed") truth (λ fi x. record fi { skip_mode_allowed = x })
    ∷ optional (codes "allow_warped_motion") truth (λ fi x. record fi { allow_warped_motion = x })
    ∷ optional (codes "use_reduced_tx_set") truth (λ fi x. record fi { use_reduced_tx_set = x })
    ∷ optional (codes "globalmv_transformation_type") (exactly 7 global_motion) (λ fi x. record fi { globalmv_transformation_type = x })
    ∷ optional (codes "film_grain") (nullable grain) (λ fi x. record fi { film_grain = x })
    ∷ optional (codes "large_scale_tile") truth (λ fi x. record fi { large_scale_tile = x })
    ∷ optional (codes "ref_frame_sign_bias") (exactly 7 truth) (λ fi x. record fi { ref_frame_sign_bias = x })
    ∷ []

abbrev pub invariant_rows : List (Row FrameInvariants)
invariant_rows = size_rows ++ (show_rows ++ (reference_rows ++ (motion_rows ++ (quantizer_rows ++ mode_rows))))
