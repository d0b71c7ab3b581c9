use Rattle.std.proofs.Common.{◌≡◌, ◌++◌, take, string_bytes}
use Rattle.av1_program.specs.Text.{tile_lines}
use Rattle.av1_program.proofs.text.add_tiles.Given as goal

abbrev pub invariant-loop-number : goal.invariant-loop-number
invariant-loop-number l = string_bytes l.text ≡ string_bytes l.initial.text ++ tile_lines (take l.number l.tiles)
