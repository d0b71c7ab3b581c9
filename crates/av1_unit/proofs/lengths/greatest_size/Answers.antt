use Rattle.std.proofs.Common.{◌≡◌, map, max, take, arith}
use Rattle.av1_unit.specs.Framing.{greatest, size_of}
use Rattle.av1_unit.specs.Lengths.{bytes_told}
use Rattle.av1_unit.proofs.TileSizes.{greatest_more}
use Rattle.av1_unit.proofs.lengths.greatest_size.Goals as goal

pub loop-tile-preserved : goal.loop-tile-preserved
loop-tile-preserved c =
    let tiles = c.args.tiles.now in
    let i = c.loop-tile.tile-index in
    let more = greatest_more tiles i (record { bytes = 0; bits = 0 }) c.loop-tile-test.true in
    let is : c.max-size.result ≡ max c.loop-tile.size c.saturating_sub.result = grind (arith, c.max-size.ensures) in
    let so_far : c.loop-tile.size ≡ greatest (map size_of (map bytes_told (take i tiles))) = c.loop-tile.invariant in
    omega (arith, more, is, so_far, c.saturating_sub.ensures)
