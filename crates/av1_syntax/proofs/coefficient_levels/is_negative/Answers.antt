use Rattle.std.proofs.Common.{w32}
use Rattle.std.proofs.lemmas.Int.{to_z-of_z}
use Rattle.av1_syntax.proofs.LevelWrites.{negative_code}
use Rattle.av1_syntax.proofs.coefficient_levels.is_negative.Goals as goal

pub returns : goal.returns
returns c = rw (to_z-of_z w32 c.args.level c.ranges.level) (negative_code c.args.level)
