-- The rules of filters: loop_filter_params(), cdef_params() and lr_params() of the AV1 specification, 5.9.11, 5.9.19 and 5.9.20.
use Rattle.std.specs.Prelude.{ℕ, ◌/◌, ℤ, pos, negsuc, Bool, ◌==◌, ◌&&◌, ◌||◌, not, nat_lt, nat_le, slice_index_or}
use Rattle.std.specs.List.{list_all}
use Rattle.av1_geometry.specs.declared.chroma_sampling.ChromaSampling.{ChromaSampling}
use Rattle.av1_frame.specs.SequenceRules.{is_420}
use Rattle.av1_frame.specs.Tests.{implies, within, int_within}
use Rattle.av1_frame.specs.declared.frame.FrameInvariants.{FrameInvariants}
use Rattle.av1_frame.specs.declared.state.DeblockState.{DeblockState}
use Rattle.av1_frame.specs.declared.state.RestorationPlaneConfig.{RestorationPlaneConfig}
use Rattle.av1_frame.specs.declared.state.RestorationState.{RestorationState}

-- a number of six bits
abbrev pub six_bits : ℕ → Bool
six_bits n = nat_lt n 64

-- a difference of filter levels has seven bits with its sign
abbrev pub level_delta_fits : ℤ → Bool
level_delta_fits delta = int_within (negsuc 63) (pos 63) delta

unfoldable pub deblock_fits : DeblockState → Bool
deblock_fits d =
    list_all six_bits d.levels
    && nat_le d.sharpness 7
    && list_all level_delta_fits d.ref_deltas
    && list_all level_delta_fits d.mode_deltas
    && nat_le d.block_delta_shift 3

unfoldable pub cdef_fits : FrameInvariants → Bool
cdef_fits fi =
    implies fi.sequence.enable_cdef (
    within 3 6 fi.cdef_damping && nat_le fi.cdef_bits 3 && list_all six_bits fi.cdef_y_strengths && list_all six_bits fi.cdef_uv_strengths
    )

abbrev pub plane_at : RestorationState → ℕ → RestorationPlaneConfig
plane_at rs plane = slice_index_or rs.planes plane (record { lrf_type = 0; unit_size = 64 })

abbrev pub is_restored : RestorationPlaneConfig → Bool
is_restored p = not (p.lrf_type == 0)

abbrev pub chroma_is_restored : RestorationState → Bool
chroma_is_restored rs = is_restored (plane_at rs 1) || is_restored (plane_at rs 2)

-- units of luma have one of three sides; those of chroma have the same, or half of it where 4:2:0 lets a header say so
abbrev pub units_fit : ChromaSampling → RestorationState → Bool
units_fit sampling rs =
    let luma = (plane_at rs 0).unit_size in
    let chroma = (plane_at rs 1).unit_size in
    (luma == 64 || luma == 128 || luma == 256)
    && chroma == (plane_at rs 2).unit_size
    && (chroma == luma || (is_420 sampling && chroma_is_restored rs && chroma == luma / 2))

abbrev pub type_fits : RestorationPlaneConfig → Bool
type_fits p = nat_le p.lrf_type 3

-- planes are restored only where the sequence says so, and then in units that fit
unfoldable pub restoration_fits : FrameInvariants → RestorationState → Bool
restoration_fits fi rs =
    list_all type_fits rs.planes
    && implies (is_restored (plane_at rs 0) || chroma_is_restored rs) (fi.sequence.enable_restoration && units_fit fi.sequence.chroma_sampling rs)
