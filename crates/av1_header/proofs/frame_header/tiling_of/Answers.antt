use Rattle.std.proofs.Common.{arith}
use Rattle.av1_frame.specs.Tiling.{tiling}
use Rattle.av1_header.proofs.frame_header.tiling_of.Goals as goal

pub of-requires-clause-width : goal.of-requires-clause-width
unfolding tiling
of-requires-clause-width c = let t = c.requires.tiling in (omega (arith, t.width.0, c.div_ceil-width.ensures), omega (arith, t.width.1, c.div_ceil-width.ensures))

pub of-requires-clause-height : goal.of-requires-clause-height
unfolding tiling
of-requires-clause-height c = let t = c.requires.tiling in (omega (arith, t.height.0, c.div_ceil-height.ensures), omega (arith, t.height.1, c.div_ceil-height.ensures))

pub of-requires-clause-tile_width : goal.of-requires-clause-tile_width
unfolding tiling
of-requires-clause-tile_width c = let t = c.requires.tiling in (t.tile_width.0, omega (arith, t.tile_width.2))

pub of-requires-clause-tile_height : goal.of-requires-clause-tile_height
unfolding tiling
of-requires-clause-tile_height c = let t = c.requires.tiling in (t.tile_height.0, omega (arith, t.tile_height.1, t.height.1))
