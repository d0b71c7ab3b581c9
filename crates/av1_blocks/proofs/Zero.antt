-- The block that stands for none where a list of blocks is read beyond its end.
use Rattle.std.proofs.Common.{◌≡◌, ℕ, zero, suc, ◌<◌, List, [], ◌∷◌, false, length, get_or, refl, arith}
use Rattle.av1_geometry.specs.declared.block_size.BlockSize.TheVariants.{BLOCK_4X4}
use Rattle.av1_geometry.specs.declared.partition_type.PartitionType.TheVariants.{PARTITION_NONE}
use Rattle.av1_geometry.specs.declared.prediction_mode.PredictionMode.TheVariants.{DC_PRED}
use Rattle.av1_geometry.specs.declared.tx_size.TxSize.TheVariants.{TX_4X4}
use Rattle.av1_blocks.specs.declared.block.Block.{Block}

abbrev pub zero_block : Block
zero_block = record {
  mode = DC_PRED;
  partition = PARTITION_NONE;
  skip = false;
  ref_frames = [];
  mv = [];
  neighbors_ref_counts = [];
  cdef_index = 0;
  bsize = BLOCK_4X4;
  n4_w = 0;
  n4_h = 0;
  txsize = TX_4X4;
  deblock_deltas = [];
  segmentation_idx = 0;
}

-- within a list it does not matter which
pub any_default : {A : Type 0} (xs : List A) (i : ℕ) (d e : A) → i < length xs → get_or xs i d ≡ get_or xs i e
any_default [] i d e h = absurd (omega arith)
any_default (x ∷ xs) zero d e h = refl
any_default (x ∷ xs) (suc i) d e h = any_default xs i d e (omega arith)
