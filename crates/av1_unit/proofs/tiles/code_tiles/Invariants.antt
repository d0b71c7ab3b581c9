use Rattle.std.proofs.Common.{◌≡◌, None}
use Rattle.av1_step.specs.Given.{given_of}
use Rattle.av1_unit.specs.Findings.{scripts_wrong}
use Rattle.av1_unit.specs.Tiles.{coded_of}
use Rattle.av1_unit.proofs.Scripts.{first}
use Rattle.av1_unit.proofs.tiles.code_tiles.Given as goal

abbrev pub invariant-loop-tile : goal.invariant-loop-tile
invariant-loop-tile l = record {
  coded : l.coded ≡ coded_of (given_of l.unit) (first l.tile l.unit.scripts.items);
  right : scripts_wrong (given_of l.unit) (first l.tile l.unit.scripts.items) ≡ None;
}
