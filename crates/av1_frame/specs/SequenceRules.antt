-- The rules of a sequence, in the words of the AV1 specification, 5.5, 6.4 and 6.5.
use Rattle.std.specs.Prelude.{◌^◌, List, [], ◌∷◌, Bool, true, false, Option, Some, None, ◌==◌, ◌&&◌, ◌||◌, not, nat_lt, nat_le}
use Rattle.av1_geometry.specs.Rules.{Check, rule}
use Rattle.av1_geometry.specs.declared.chroma_sampling.ChromaSampling.{ChromaSampling}
use Rattle.av1_geometry.specs.declared.chroma_sampling.ChromaSampling.TheVariants.{Cs420, Cs422, Cs444, Cs400}
use Rattle.av1_geometry.specs.declared.chroma_sampling.PixelRange.{PixelRange}
use Rattle.av1_geometry.specs.declared.chroma_sampling.PixelRange.TheVariants.{Limited, Full}
use Rattle.av1_frame.specs.Tests.{implies}
use Rattle.av1_frame.specs.declared.sequence.ColorDescription.{ColorDescription}
use Rattle.av1_frame.specs.declared.sequence.Sequence.{Sequence}

-- the profiles and levels that are defined
unfoldable pub known_profile : Sequence → Bool
known_profile seq = nat_le seq.profile 2 && nat_le seq.level_idx 31

-- a reduced header is that of a still picture
unfoldable pub reduced_is_still : Sequence → Bool
reduced_is_still seq = implies seq.reduced_still_picture_hdr seq.still_picture

-- whether a sequence has one of the tools of inter frames
abbrev pub has_inter_tools : Sequence → Bool
has_inter_tools seq =
    seq.enable_interintra_compound
    || seq.enable_masked_compound
    || seq.enable_warped_motion
    || seq.enable_dual_filter
    || seq.enable_order_hint
    || seq.enable_jnt_comp
    || seq.enable_ref_frame_mvs

-- what a reduced header doesn't say has its default
unfoldable pub reduced_has_defaults : Sequence → Bool
reduced_has_defaults seq =
    implies seq.reduced_still_picture_hdr (
    not seq.timing_info_present && not (has_inter_tools seq) && seq.force_screen_content_tools == 2 && seq.force_integer_mv == 2
    )

-- what isn't carried is off
unfoldable pub is_carried : Sequence → Bool
is_carried seq = not seq.use_128x128_superblock && not seq.enable_superres && not seq.frame_id_numbers_present_flag && not seq.decoder_model_info_present_flag

-- the parts of the time base have 32 bits
unfoldable pub time_base_fits : Sequence → Bool
time_base_fits seq = nat_lt seq.time_base.num (2 ^ 32) && nat_lt seq.time_base.den (2 ^ 32)

-- the two forces: vectors are forced to be whole or not only where screen content tools may be on
abbrev pub forces_fit : Sequence → Bool
forces_fit seq =
    nat_le seq.force_screen_content_tools 2
    && nat_le seq.force_integer_mv 2
    && implies (seq.force_screen_content_tools == 0) (seq.force_integer_mv == 2)

-- tools that go by order hints need them
abbrev pub hint_tools_fit : Sequence → Bool
hint_tools_fit seq = seq.enable_order_hint || (not seq.enable_jnt_comp && not seq.enable_ref_frame_mvs)

unfoldable pub tools_fit : Sequence → Bool
tools_fit seq = forces_fit seq && nat_le seq.order_hint_bits_minus_1 7 && hint_tools_fit seq

-- the samplings of the main profile
abbrev pub in_main : ChromaSampling → Bool
in_main Cs420 = true
in_main Cs422 = false
in_main Cs444 = false
in_main Cs400 = true

-- the sampling of the high profile
abbrev pub in_high : ChromaSampling → Bool
in_high Cs420 = false
in_high Cs422 = false
in_high Cs444 = true
in_high Cs400 = false

-- the samplings of the professional profile below 12 bits
abbrev pub in_professional : ChromaSampling → Bool
in_professional Cs420 = false
in_professional Cs422 = true
in_professional Cs444 = false
in_professional Cs400 = true

-- the depth and the sampling are those of the profile
unfoldable pub samples_fit : Sequence → Bool
samples_fit seq =
    let low = seq.bit_depth == 8 || seq.bit_depth == 10 in
    implies (seq.profile == 0) (low && in_main seq.chroma_sampling)
    && implies (seq.profile == 1) (low && in_high seq.chroma_sampling)
    && implies (seq.profile == 2) (seq.bit_depth == 12 || (low && in_professional seq.chroma_sampling))

-- whether the colours are said to be those of sRGB
abbrev pub is_srgb : Option ColorDescription → Bool
is_srgb None = false
is_srgb (Some d) = d.color_primaries == 1 && d.transfer_characteristics == 13 && d.matrix_coefficients == 0

abbrev pub is_420 : ChromaSampling → Bool
is_420 Cs420 = true
is_420 Cs422 = false
is_420 Cs444 = false
is_420 Cs400 = false

abbrev pub is_monochrome : ChromaSampling → Bool
is_monochrome Cs420 = false
is_monochrome Cs422 = false
is_monochrome Cs444 = false
is_monochrome Cs400 = true

abbrev pub is_full : PixelRange → Bool
is_full Limited = false
is_full Full = true

-- the colours of sRGB have the full range and 4:4:4
unfoldable pub srgb_fits : Sequence → Bool
srgb_fits seq = implies (is_srgb seq.color_description && not (is_monochrome seq.chroma_sampling)) (is_full seq.pixel_range && in_high seq.chroma_sampling)

-- the positions of chroma samples that are defined
unfoldable pub position_fits : Sequence → Bool
position_fits seq = nat_le seq.chroma_sample_position 2

-- the rules of a sequence, by rising numbers
unfoldable pub sequence_rules : Sequence → List Check
sequence_rules seq =
    rule 10 (known_profile seq)
    ∷ rule 11 (reduced_is_still seq)
    ∷ rule 12 (reduced_has_defaults seq)
    ∷ rule 13 (is_carried seq)
    ∷ rule 14 (time_base_fits seq)
    ∷ rule 15 (tools_fit seq)
    ∷ rule 16 (samples_fit seq)
    ∷ rule 17 (srgb_fits seq)
    ∷ rule 18 (position_fits seq)
    ∷ []
