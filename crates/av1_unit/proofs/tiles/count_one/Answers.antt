use Rattle.std.proofs.Common.{arith}
use Rattle.av1_step.specs.Given.{given_of}
use Rattle.av1_tile.specs.TileBytes.{script_of}
use Rattle.av1_unit.proofs.TileLaws.{told_report}
use Rattle.av1_unit.proofs.tiles.count_one.Goals as goal

pub returns-clause-counted : goal.returns-clause-counted
returns-clause-counted c =
    told_report (given_of c.args.unit.now) c.args.tile (script_of c.args.unit.now c.args.tile) _ _ c.tell-bits.result c.div_ceil-bytes.result c.in_ok-counter.ensures.coded c.tell-bits.ensures (omega (arith, c.div_ceil-bytes.ensures))
