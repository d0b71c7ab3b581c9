use Rattle.av1_step.proofs.tile.TileState.tx_in.Goals as goal

pub index-requires : goal.index-requires
index-requires c = let b = c.args.self.now.kept.current c.args.b c.requires in record { column = b.column; row = b.row }
