use Rattle.av1_geometry.proofs.BlockTables.{by_sides_table}
use Rattle.av1_geometry.proofs.block_tables.sized.Goals as goal

pub returns : goal.returns
returns c = by_sides_table c.args.width_log2 c.args.height_log2 _ _ c.requires.width c.requires.height
