-- Where a block has chroma, and the transform type that its chroma mode implies.
use Rattle.std.specs.Prelude.{ℕ, ◌%◌, Bool, nat_eq, ◌&&◌, ◌||◌}
use Rattle.av1_geometry.specs.declared.block_size.BlockSize.{BlockSize}
use Rattle.av1_geometry.specs.declared.chroma_sampling.ChromaSampling.{ChromaSampling}
use Rattle.av1_geometry.specs.declared.prediction_mode.PredictionMode.{PredictionMode}
use Rattle.av1_geometry.specs.declared.prediction_mode.PredictionMode.TheVariants.{V_PRED, H_PRED, D135_PRED, D113_PRED, D157_PRED, D203_PRED}
use Rattle.av1_geometry.specs.declared.prediction_mode.PredictionMode.TheVariants.{D67_PRED, SMOOTH_PRED, SMOOTH_V_PRED, SMOOTH_H_PRED, PAETH_PRED}
use Rattle.av1_geometry.specs.declared.tx_type.TxType.{TxType}
use Rattle.av1_geometry.specs.declared.tx_type.TxType.TheVariants.{DCT_DCT, ADST_DCT, DCT_ADST, ADST_ADST}
use Rattle.av1_geometry.specs.BlockSize.{width_mi, height_mi}
use Rattle.av1_geometry.specs.ChromaSampling.{planes_of}

-- a side of one unit in halved chroma has it at odd places alone
abbrev pub has_chroma_along : ℕ → ℕ → ℕ → Bool
has_chroma_along place side halvings = nat_eq (place % 2) 1 || nat_eq (side % 2) 0 || nat_eq halvings 0

-- the block at column x and row y, in blocks of 4x4 samples
abbrev pub has_chroma_at : ℕ → ℕ → BlockSize → ℕ → ℕ → ChromaSampling → Bool
has_chroma_at x y size xdec ydec sampling =
    nat_eq (planes_of sampling) 3 && (has_chroma_along x (width_mi size) xdec && has_chroma_along y (height_mi size) ydec)

-- sine transforms across the direction of prediction, in both directions for the smooth and the diagonal down right
abbrev pub chroma_tx_type : PredictionMode → TxType
chroma_tx_type V_PRED = ADST_DCT
chroma_tx_type H_PRED = DCT_ADST
chroma_tx_type D135_PRED = ADST_ADST
chroma_tx_type D113_PRED = ADST_DCT
chroma_tx_type D157_PRED = DCT_ADST
chroma_tx_type D203_PRED = DCT_ADST
chroma_tx_type D67_PRED = ADST_DCT
chroma_tx_type SMOOTH_PRED = ADST_ADST
chroma_tx_type SMOOTH_V_PRED = ADST_DCT
chroma_tx_type SMOOTH_H_PRED = DCT_ADST
chroma_tx_type PAETH_PRED = ADST_ADST
chroma_tx_type _ = DCT_DCT
