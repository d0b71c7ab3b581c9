use Rattle.std.proofs.Common.{◌≡◌, map, take}
use Rattle.av1_unit.specs.Framing.{greatest, size_of}
use Rattle.av1_unit.specs.Lengths.{bytes_told}
use Rattle.av1_unit.proofs.lengths.greatest_size.Given as goal

abbrev pub invariant-loop-tile : goal.invariant-loop-tile
invariant-loop-tile l = l.size ≡ greatest (map size_of (map bytes_told (take l.tile-index l.tiles)))
