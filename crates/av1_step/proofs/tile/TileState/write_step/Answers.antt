use Rattle.std.proofs.Common.{arith}
use Rattle.av1_step.specs.State.{tile_of}
use Rattle.av1_step.proofs.StepLaws.{faultless}
use Rattle.av1_step.proofs.tile.TileState.write_step.Goals as goal

pub write_allowed-requires-clause-rules : goal.write_allowed-requires-clause-rules
write_allowed-requires-clause-rules g c = (faultless (tile_of c.args.self.now) _ c.args.step.now c.requires).1

pub write_allowed-requires-clause-early : goal.write_allowed-requires-clause-early
write_allowed-requires-clause-early g c = omega (arith, (faultless (tile_of c.args.self.now) _ c.args.step.now c.requires).0)
