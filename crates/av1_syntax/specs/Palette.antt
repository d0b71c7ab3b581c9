-- Palettes, of which a block has none.
use Rattle.std.specs.Prelude.{ℕ, zero, suc, ◌+◌, ◌-◌, [], ◌∷◌, nat_eq, Bool, false, ◌&&◌, Option, Some, None, codes}
use Rattle.av1_geometry.specs.Chroma.{has_chroma_at}
use Rattle.av1_geometry.specs.declared.block_offset.BlockOffset.{BlockOffset}
use Rattle.av1_geometry.specs.declared.block_size.BlockSize.{BlockSize}
use Rattle.av1_geometry.specs.declared.chroma_sampling.ChromaSampling.{ChromaSampling}
use Rattle.av1_geometry.specs.BlockSize.{width_log2, height_log2}
use Rattle.av1_geometry.specs.PredictionMode.{prediction_mode_number}
use Rattle.av1_geometry.specs.declared.prediction_mode.PredictionMode.{PredictionMode}
use Rattle.av1_cdf.specs.Distribution.{Distribution}
use Rattle.av1_model.specs.Element.{Element, known, symbol, choose, after}
use Rattle.av1_syntax.specs.Calls.{adaptive}
use Rattle.av1_syntax.specs.Flags.{flag_number}

-- a palette may be asked where the mode is DC_PRED
abbrev pub is_dc : PredictionMode → Bool
is_dc m = nat_eq (prediction_mode_number m) 0

-- no is the only value
abbrev pub off_of : ℕ → Option Bool
off_of zero = Some false
off_of (suc s) = None

-- no, where it is asked
abbrev pub off_where : Bool → Distribution → Element Distribution Bool
off_where asked q = choose asked (symbol q off_of flag_number) (known false)

-- the context of a size: how often its area doubles that of 8x8
abbrev pub palette_size : BlockSize → ℕ
palette_size size = width_log2 size + height_log2 size - 6

-- that a block has no palette, of luma and of chroma, where either is asked
abbrev pub palette_element : Bool → Bool → BlockSize → Element Distribution Bool
palette_element luma chroma size =
    after (off_where luma (adaptive (codes "palette_y_mode_cdfs") (palette_size size ∷ 0 ∷ [])))
    (λ y. off_where chroma (adaptive (codes "palette_uv_mode_cdfs") (0 ∷ []))) (λ on. on)

-- the same of a block at a place, of chroma only where it has chroma
abbrev pub palette_at : BlockOffset → BlockSize → PredictionMode → PredictionMode → ℕ → ℕ → ChromaSampling → Element Distribution Bool
palette_at bo size luma chroma xdec ydec sampling =
    palette_element (is_dc luma) (has_chroma_at bo.x bo.y size xdec ydec sampling && is_dc chroma) size
