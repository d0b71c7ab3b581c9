-- What an entry makes of a block.
use Rattle.av1_blocks.specs.declared.block.Block.{Block}
use Rattle.av1_blocks.specs.declared.entry.Entry.{Entry}
use Rattle.av1_blocks.specs.declared.entry.Entry.TheVariants.{Whole, Mode, Skip, References, Vectors, Segment, Cdef, Deltas, Transform, Counts}

abbrev pub entered : Entry → Block → Block
entered (Whole whole) b = whole
entered (Mode mode) b = record b { mode = mode }
entered (Skip skip) b = record b { skip = skip }
entered (References refs) b = record b { ref_frames = refs }
entered (Vectors mvs) b = record b { mv = mvs }
entered (Segment idx) b = record b { segmentation_idx = idx }
entered (Cdef idx) b = record b { cdef_index = idx }
entered (Deltas deltas) b = record b { deblock_deltas = deltas }
entered (Transform txsize) b = record b { txsize = txsize }
entered (Counts counts) b = record b { neighbors_ref_counts = counts }
