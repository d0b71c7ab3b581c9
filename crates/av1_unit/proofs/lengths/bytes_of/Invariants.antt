use Rattle.std.proofs.Common.{◌≡◌, ◌*◌, ◌^◌, ◌≤◌, map, take}
use Rattle.std.specs.Prelude.{sum}
use Rattle.av1_unit.specs.Lengths.{bytes_told}
use Rattle.av1_unit.proofs.lengths.bytes_of.Given as goal

abbrev pub invariant-loop-tile : goal.invariant-loop-tile
invariant-loop-tile l = record { so_far : l.len ≡ sum (map bytes_told (take l.tile-index l.tiles)); few : l.len ≤ l.tile-index * 2 ^ 32 }
