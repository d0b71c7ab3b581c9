-- What the blocks above and to the left leave for the contexts of the next ones, by columns of the tile and by rows of the superblock.
use Rattle.std.specs.Prelude.{◌≡◌, ℕ, ◌+◌, ◌-◌, ◌*◌, ◌/◌, ◌%◌, ◌^◌, ◌<◌, List, [], Bool, false, max}
use Rattle.std.specs.Prelude.{nat_eq, if◌then◌else◌, length, replicate, slice_index_or, slice_range}
use Rattle.av1_geometry.specs.declared.block_offset.BlockOffset.{BlockOffset}
use Rattle.av1_geometry.specs.declared.block_size.BlockSize.{BlockSize}
use Rattle.av1_geometry.specs.declared.chroma_sampling.ChromaSampling.{ChromaSampling}
use Rattle.av1_geometry.specs.declared.tx_size.TxSize.{TxSize}
use Rattle.av1_geometry.specs.BlockSize.{width_mi, height_mi, width_log2, height_log2}
use Rattle.av1_geometry.specs.Chroma.{has_chroma_at}
use Rattle.av1_geometry.specs.ChromaSampling.{xdec_of, planes_of}
use Rattle.av1_geometry.specs.TxSize.{tx_width_log2, tx_height_log2}
use Rattle.av1_blocks.specs.declared.block_context.BlockContext.{BlockContext}
use Rattle.av1_blocks.specs.declared.checkpoint.BlockContextCheckpoint.{BlockContextCheckpoint}
use Rattle.av1_blocks.specs.Grid.{Grid}
use Rattle.av1_blocks.specs.Places.{changed_at, filled, first, put, sb_column}
use Rattle.av1_blocks.specs.Saved.{Saved, with_saved}

-- the lengths that the arrays have
pub record HasEdges (bc : BlockContext) : Type 0 where
  pub above_partition : length bc.above_partition_context ≡ 512
  pub above_tx : length bc.above_tx_context ≡ 1024
  pub above_planes : length bc.above_coeff_context ≡ 3
  pub above_coeff : (p : ℕ) → p < 3 → length (slice_index_or bc.above_coeff_context p []) ≡ 1024

-- before the first block of a tile
abbrev pub fresh : Grid → BlockContext
fresh g = record {
  cdef_coded = false;
  code_deltas = false;
  update_seg = false;
  preskip_segid = false;
  above_partition_context = replicate 512 0;
  left_partition_context = replicate 8 0;
  above_tx_context = replicate 1024 0;
  left_tx_context = replicate 16 0;
  above_coeff_context = replicate 3 (replicate 1024 0);
  left_coeff_context = replicate 3 (replicate 16 0);
  blocks = g;
}

-- before a row of superblocks
abbrev pub with_left_reset : ℕ → BlockContext → BlockContext
with_left_reset planes bc = record bc {
  left_partition_context = replicate 8 0;
  left_tx_context = replicate 16 0;
  left_coeff_context = first planes (λ _ _. replicate 16 0) bc.left_coeff_context;
}

-- bit n of a number
abbrev pub bit_of : ℕ → ℕ → ℕ
bit_of n v = v / 2 ^ n % 2

-- whether the blocks above and to the left are smaller than the size (AV1 specification, "CDF selection process": partition)
-- bit n of an entry is set where the side of its block is at most 2 ^ n blocks of 4x4 samples
abbrev pub partition_context : BlockContext → BlockOffset → BlockSize → ℕ
partition_context bc bo size =
    let n = width_log2 size - 3 in
    2 * bit_of n (slice_index_or bc.left_partition_context (bo.y % 16 / 2) 0) + bit_of n (slice_index_or bc.above_partition_context (bo.x / 2) 0) + 4 * n

-- after a block of a size is parted into blocks of another
abbrev pub with_partition : BlockOffset → BlockSize → BlockSize → BlockContext → BlockContext
with_partition bo subsize size bc = record bc {
  above_partition_context = filled (bo.x / 2) ((bo.x + width_mi size) / 2) (32 - width_mi subsize) bc.above_partition_context;
  left_partition_context = filled (bo.y % 16 / 2) ((bo.y % 16 + height_mi size) / 2) (32 - height_mi subsize) bc.left_partition_context;
}

-- the sides in samples that a block's transforms leave: its own where it is skipped
abbrev pub tx_width : BlockSize → TxSize → Bool → ℕ
tx_width size tx skip = if skip then 2 ^ width_log2 size else 2 ^ tx_width_log2 tx

abbrev pub tx_height : BlockSize → TxSize → Bool → ℕ
tx_height size tx skip = if skip then 2 ^ height_log2 size else 2 ^ tx_height_log2 tx

-- after a block of a size whose transforms have these sides in samples
abbrev pub with_tx_sides : BlockOffset → BlockSize → ℕ → ℕ → BlockContext → BlockContext
with_tx_sides bo size width height bc = record bc {
  above_tx_context = filled bo.x (bo.x + width_mi size) width bc.above_tx_context;
  left_tx_context = filled (bo.y % 16) (bo.y % 16 + height_mi size) height bc.left_tx_context;
}

-- how often a plane halves the sides of luma
abbrev pub halvings : ℕ → ℕ → ℕ
halvings dec plane = if nat_eq plane 0 then 0 else dec

-- the column or row of a plane where one of luma is, and how many a side of luma has there
abbrev pub place_in : ℕ → ℕ → ℕ → ℕ
place_in dec plane x = x / 2 ^ halvings dec plane

abbrev pub side_in : ℕ → ℕ → ℕ → ℕ
side_in dec plane n = max (n / 2 ^ halvings dec plane) 1

-- with a number over so many columns and rows in the coefficient edges of one plane
abbrev pub with_plane : ℕ → ℕ → ℕ → ℕ → ℕ → ℕ → BlockContext → BlockContext
with_plane plane x width y height v bc = record bc {
  above_coeff_context = changed_at plane (λ edge. filled x (x + width) v edge) bc.above_coeff_context;
  left_coeff_context = changed_at plane (λ edge. filled y (y + height) v edge) bc.left_coeff_context;
}

-- a number over a block in the coefficient edge of one plane
abbrev pub filled_in : ℕ → ℕ → ℕ → ℕ → ℕ → List ℕ → List ℕ
filled_in dec plane x n v edge = filled (place_in dec plane x) (place_in dec plane x + side_in dec plane n) v edge

-- with 0 over so many columns and rows of luma in the coefficient edges of the first planes
abbrev pub with_reset : ℕ → ℕ → ℕ → ℕ → ℕ → ℕ → ℕ → BlockContext → BlockContext
with_reset planes xdec x width ydec y height bc = record bc {
  above_coeff_context = first planes (λ p edge. filled_in xdec p x width 0 edge) bc.above_coeff_context;
  left_coeff_context = first planes (λ p edge. filled_in ydec p y height 0 edge) bc.left_coeff_context;
}

-- after a block without coefficients in so many planes
abbrev pub with_skip_reset : ℕ → ℕ → ℕ → BlockOffset → BlockSize → BlockContext → BlockContext
with_skip_reset planes xdec ydec bo size bc = with_reset planes xdec bo.x (width_mi size) ydec (bo.y % 16) (height_mi size) bc

-- the planes that a block codes: luma, and chroma where the chroma of its place is its own
abbrev pub planes_coded : BlockOffset → BlockSize → ℕ → ℕ → ChromaSampling → ℕ
planes_coded bo size xdec ydec cs = if has_chroma_at bo.x bo.y size xdec ydec cs then 3 else 1

-- after a transform block with this number in a plane whose sides are halved so often
abbrev pub with_coefficients : ℕ → BlockOffset → TxSize → ℕ → ℕ → ℕ → BlockContext → BlockContext
with_coefficients plane bo tx xdec ydec v bc =
    with_plane plane (bo.x / 2 ^ xdec) (2 ^ (tx_width_log2 tx - 2)) (bo.y % 16 / 2 ^ ydec) (2 ^ (tx_height_log2 tx - 2)) v bc

-- 16 entries of the first planes from where a column of luma is
abbrev pub taken_planes : ℕ → ℕ → ℕ → List (List ℕ) → List (List ℕ)
taken_planes planes dec x edges =
    first planes (λ p _. slice_range (slice_index_or edges p []) (place_in dec p x) (place_in dec p x + 16)) (replicate 3 (replicate 16 0))

abbrev pub put_planes : ℕ → ℕ → ℕ → List (List ℕ) → List (List ℕ) → List (List ℕ)
put_planes planes dec x saved edges = first planes (λ p edge. put (place_in dec p x) 16 (slice_index_or saved p []) edge) edges

-- what a checkpoint takes of the superblock of a place: 8 entries of partitions, 16 of transforms and, in each plane, 16 of coefficients
abbrev pub taken : BlockOffset → ChromaSampling → BlockContext → BlockContextCheckpoint
taken bo cs bc =
    let x = sb_column bo.x in
    record {
      x = x;
      chroma_sampling = cs;
      cdef_coded = bc.cdef_coded;
      above_partition_context = slice_range bc.above_partition_context (x / 2) (x / 2 + 8);
      left_partition_context = bc.left_partition_context;
      above_tx_context = slice_range bc.above_tx_context x (x + 16);
      left_tx_context = bc.left_tx_context;
      above_coeff_context = taken_planes (planes_of cs) (xdec_of cs) x bc.above_coeff_context;
      left_coeff_context = bc.left_coeff_context;
    }

-- the edges of a checkpoint
abbrev pub with_edges : BlockContextCheckpoint → BlockContext → BlockContext
with_edges c bc =
    let x = sb_column c.x in
    record bc {
      cdef_coded = c.cdef_coded;
      above_partition_context = put (x / 2) 8 c.above_partition_context bc.above_partition_context;
      left_partition_context = c.left_partition_context;
      above_tx_context = put x 16 c.above_tx_context bc.above_tx_context;
      left_tx_context = c.left_tx_context;
      above_coeff_context = put_planes (planes_of c.chroma_sampling) (xdec_of c.chroma_sampling) x c.above_coeff_context bc.above_coeff_context;
      left_coeff_context = c.left_coeff_context;
    }

-- with the saved blocks back
abbrev pub with_restored : Saved → BlockContext → BlockContext
with_restored s bc = record bc { blocks = with_saved s bc.blocks }
