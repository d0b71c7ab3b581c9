use Rattle.std.proofs.Common.{arith}
use Rattle.av1_step.specs.State.{tile_of}
use Rattle.av1_step.proofs.Ready.{is_paired}
use Rattle.av1_step.proofs.tile.TileState.is_allowed.Goals as goal

pub overflow_add-has_cols : goal.overflow_add-has_cols
overflow_add-has_cols c = omega (arith, (is_paired (tile_of c.args.self.now) c.args.self.now.kept).few, c.requires.inside.0, c.width_mi-half.ensures.most)

pub overflow_add-has_rows : goal.overflow_add-has_rows
overflow_add-has_rows c = omega (arith, (is_paired (tile_of c.args.self.now) c.args.self.now.kept).low, c.requires.inside.1, c.width_mi-half.ensures.most)
