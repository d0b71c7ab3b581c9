-- What a sequence is by its members.
use Rattle.std.specs.Prelude.{ℕ, List, [], ◌∷◌, ◌++◌, slice_index, true, codes}
use Rattle.av1_geometry.specs.ChromaSampling.{chroma_sampling_of, pixel_range_of}
use Rattle.av1_geometry.specs.declared.chroma_sampling.ChromaSampling.{ChromaSampling}
use Rattle.av1_geometry.specs.declared.chroma_sampling.ChromaSampling.TheVariants.{Cs420}
use Rattle.av1_geometry.specs.declared.chroma_sampling.PixelRange.{PixelRange}
use Rattle.av1_geometry.specs.declared.chroma_sampling.PixelRange.TheVariants.{Limited}
use Rattle.av1_frame.specs.Defaults.{still_sequence}
use Rattle.av1_frame.specs.declared.sequence.ChromaticityPoint.{ChromaticityPoint}
use Rattle.av1_frame.specs.declared.sequence.ColorDescription.{ColorDescription}
use Rattle.av1_frame.specs.declared.sequence.ContentLight.{ContentLight}
use Rattle.av1_frame.specs.declared.sequence.MasteringDisplay.{MasteringDisplay}
use Rattle.av1_frame.specs.declared.sequence.Rational.{Rational}
use Rattle.av1_frame.specs.declared.sequence.Sequence.{Sequence}
use Rattle.av1_input.specs.Kinds.{Kind, choice, exactly, nullable, seen_as, truth, whole}
use Rattle.av1_input.specs.Rows.{Row, object_of, optional, or}

abbrev pub sampling : Kind ChromaSampling
sampling = choice chroma_sampling_of Cs420

abbrev pub range : Kind PixelRange
range = choice pixel_range_of Limited

abbrev pub no_time : Rational
no_time = record { num = 0; den = 0 }

abbrev pub rational_rows : List (Row Rational)
rational_rows =
    optional (codes "num") (whole 64) (λ r x. record r { num = x })
    ∷ optional (codes "den") (whole 64) (λ r x. record r { den = x })
    ∷ []

abbrev pub rational : Kind Rational
rational = object_of rational_rows no_time

-- three numbers: primaries, transfer, matrix
abbrev pub colours_of : List ℕ → ColorDescription
colours_of ns = record { color_primaries = slice_index ns 0; transfer_characteristics = slice_index ns 1; matrix_coefficients = slice_index ns 2 }

abbrev pub colours : Kind ColorDescription
colours = seen_as colours_of (exactly 3 (whole 8))

-- two numbers: the greatest and the greatest average of a frame
abbrev pub light_of : List ℕ → ContentLight
light_of ns = record { max_content_light_level = slice_index ns 0; max_frame_average_light_level = slice_index ns 1 }

abbrev pub light : Kind ContentLight
light = seen_as light_of (exactly 2 (whole 16))

-- two numbers: x and y
abbrev pub point_of : List ℕ → ChromaticityPoint
point_of ns = record { x = slice_index ns 0; y = slice_index ns 1 }

abbrev pub point : Kind ChromaticityPoint
point = seen_as point_of (exactly 2 (whole 16))

abbrev pub no_display : MasteringDisplay
no_display = record { primaries = (exactly 3 point).none; white_point = point.none; max_luminance = 0; min_luminance = 0 }

abbrev pub mastering_rows : List (Row MasteringDisplay)
mastering_rows =
    optional (codes "primaries") (exactly 3 point) (λ m x. record m { primaries = x })
    ∷ optional (codes "white_point") point (λ m x. record m { white_point = x })
    ∷ optional (codes "max_luminance") (whole 32) (λ m x. record m { max_luminance = x })
    ∷ optional (codes "min_luminance") (whole 32) (λ m x. record m { min_luminance = x })
    ∷ []

abbrev pub mastering : Kind MasteringDisplay
mastering = object_of mastering_rows no_display

-- what the whole sequence is
abbrev pub header_rows : List (Row Sequence)
header_rows =
    optional (codes "profile") (whole 8) (λ seq x. record seq { profile = x })
    ∷ or (codes "still_picture") truth true (λ seq x. record seq { still_picture = x })
    ∷ or (codes "reduced_still_picture_hdr") truth true (λ seq x. record seq { reduced_still_picture_hdr = x })
    ∷ optional (codes "level_idx") (whole 8) (λ seq x. record seq { level_idx = x })
    ∷ optional (codes "timing_info_present") truth (λ seq x. record seq { timing_info_present = x })
    ∷ optional (codes "time_base") rational (λ seq x. record seq { time_base = x })
    ∷ []

-- tools that blocks may use
abbrev pub tool_rows : List (Row Sequence)
tool_rows =
    optional (codes "use_128x128_superblock") truth (λ seq x. record seq { use_128x128_superblock = x })
    ∷ optional (codes "enable_filter_intra") truth (λ seq x. record seq { enable_filter_intra = x })
    ∷ optional (codes "enable_intra_edge_filter") truth (λ seq x. record seq { enable_intra_edge_filter = x })
    ∷ optional (codes "enable_interintra_compound") truth (λ seq x. record seq { enable_interintra_compound = x })
    ∷ optional (codes "enable_masked_compound") truth (λ seq x. record seq { enable_masked_compound = x })
    ∷ optional (codes "enable_warped_motion") truth (λ seq x. record seq { enable_warped_motion = x })
    ∷ optional (codes "enable_dual_filter") truth (λ seq x. record seq { enable_dual_filter = x })
    ∷ optional (codes "enable_order_hint") truth (λ seq x. record seq { enable_order_hint = x })
    ∷ optional (codes "enable_jnt_comp") truth (λ seq x. record seq { enable_jnt_comp = x })
    ∷ optional (codes "enable_ref_frame_mvs") truth (λ seq x. record seq { enable_ref_frame_mvs = x })
    ∷ []

-- what frames are left to say, and the filters
abbrev pub force_rows : List (Row Sequence)
force_rows =
    or (codes "force_screen_content_tools") (whole 32) 2 (λ seq x. record seq { force_screen_content_tools = x })
    ∷ or (codes "force_integer_mv") (whole 32) 2 (λ seq x. record seq { force_integer_mv = x })
    ∷ optional (codes "order_hint_bits_minus_1") (whole 32) (λ seq x. record seq { order_hint_bits_minus_1 = x })
    ∷ optional (codes "enable_superres") truth (λ seq x. record seq { enable_superres = x })
    ∷ optional (codes "enable_cdef") truth (λ seq x. record seq { enable_cdef = x })
    ∷ optional (codes "enable_restoration") truth (λ seq x. record seq { enable_restoration = x })
    ∷ optional (codes "frame_id_numbers_present_flag") truth (λ seq x. record seq { frame_id_numbers_present_flag = x })
    ∷ optional (codes "decoder_model_info_present_flag") truth (λ seq x. record seq { decoder_model_info_present_flag = x })
    ∷ optional (codes "film_grain_params_present") truth (λ seq x. record seq { film_grain_params_present = x })
    ∷ []

-- samples and what they stand for
abbrev pub colour_rows : List (Row Sequence)
colour_rows =
    or (codes "bit_depth") (whole 8) 8 (λ seq x. record seq { bit_depth = x })
    ∷ optional (codes "chroma_sampling") sampling (λ seq x. record seq { chroma_sampling = x })
    ∷ optional (codes "chroma_sample_position") (whole 8) (λ seq x. record seq { chroma_sample_position = x })
    ∷ optional (codes "pixel_range") range (λ seq x. record seq { pixel_range = x })
    ∷ optional (codes "color_description") (nullable colours) (λ seq x. record seq { color_description = x })
    ∷ optional (codes "content_light") (nullable light) (λ seq x. record seq { content_light = x })
    ∷ optional (codes "mastering_display") (nullable mastering) (λ seq x. record seq { mastering_display = x })
    ∷ []

abbrev pub sequence_rows : List (Row Sequence)
sequence_rows = header_rows ++ (tool_rows ++ (force_rows ++ colour_rows))

abbrev pub sequence : Kind Sequence
sequence = object_of sequence_rows still_sequence
