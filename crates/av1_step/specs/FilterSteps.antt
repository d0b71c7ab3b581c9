-- The kinds of step of the current block for filters, segments and palettes.
use Rattle.std.specs.Prelude.{ℕ, ◌^◌, ◌&&◌, [], ◌∷◌, ◌==◌, ◌||◌, Bool, true, false, not, is_some, nat_le, nat_lt}
use Rattle.std.specs.Option.{option_map_or}
use Rattle.av1_geometry.specs.BlockSize.{number_of, width_log2, height_log2}
use Rattle.av1_geometry.specs.declared.block_size.BlockSize.{BlockSize}
use Rattle.av1_geometry.specs.Rules.{rule}
use Rattle.av1_syntax.specs.Flags.{filter_intra_element}
use Rattle.av1_syntax.specs.Literals.{literal}
use Rattle.av1_syntax.specs.Palette.{is_dc, palette_element}
use Rattle.av1_step.specs.declared.step.TileStep.TheVariants.{Cdef, FilterIntra, Palette}
use Rattle.av1_step.specs.Effect.{Over, CdefCoded}
use Rattle.av1_step.specs.IntraSteps.{mode_at, is_intra, has_chroma}
use Rattle.av1_step.specs.Kind.{Kind, of_block}
use Rattle.av1_step.specs.Tile.{Tile, CurrentBlock, place_of_block, size_of_block}

-- the index of the enhancement filter's strengths
abbrev pub cdef_kind : Tile → CurrentBlock → Kind ℕ
cdef_kind t b =
    let bits = t.given.fi.cdef_bits in
    of_block b (rule 68 t.given.fi.sequence.enable_cdef ∷ []) (λ i. rule 68 (nat_lt i (2 ^ bits)) ∷ []) (literal bits)
    (λ i. Over (place_of_block b) (size_of_block b) (λ x. record x { cdef_index = i }) ∷ CdefCoded true ∷ []) Cdef

-- no side is longer than 32
abbrev pub has_short_sides : BlockSize → Bool
has_short_sides size = nat_le (width_log2 size) 5 && nat_le (height_log2 size) 5

-- that the current block has no filter intra
abbrev pub filter_intra_kind : Tile → CurrentBlock → Kind Bool
filter_intra_kind t b =
    let size = size_of_block b in
    let m = mode_at t b in
    of_block b (rule 66 (is_intra t b) ∷ rule 74 (t.given.fi.sequence.enable_filter_intra && is_dc m && has_short_sides size) ∷ [])
    (λ on. rule 74 (not on) ∷ []) (filter_intra_element size) (λ on. []) FilterIntra

-- whether palettes may be asked for a block: its chroma mode is entered, where it has chroma
abbrev pub may_have_palette : Tile → CurrentBlock → Bool
may_have_palette t b =
    not (t.given.fi.allow_screen_content_tools == 0) && nat_le 3 (number_of (size_of_block b)) && (is_some t.uv || not (has_chroma t b))

-- that the current block has no palette
abbrev pub palette_kind : Tile → CurrentBlock → Kind Bool
palette_kind t b =
    let size = size_of_block b in
    let m = mode_at t b in
    of_block b
    (rule 66 (is_intra t b) ∷ rule 75 (may_have_palette t b) ∷ []) (λ on. rule 75 (not on) ∷ [])
    (palette_element (is_dc m) (has_chroma t b && option_map_or is_dc t.uv false) size) (λ on. []) Palette
