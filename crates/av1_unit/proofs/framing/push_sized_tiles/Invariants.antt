use Rattle.std.proofs.Common.{◌≡◌, ◌++◌, take}
use Rattle.std.specs.List.{flat_map}
use Rattle.av1_unit.specs.Framing.{sized}
use Rattle.av1_unit.proofs.framing.push_sized_tiles.Given as goal

abbrev pub invariant-loop-number : goal.invariant-loop-number
invariant-loop-number l = l.bytes.items ≡ l.initial.bytes.items ++ flat_map (sized l.width) (take l.number l.tiles)
