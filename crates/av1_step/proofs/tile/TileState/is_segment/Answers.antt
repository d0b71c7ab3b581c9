use Rattle.av1_step.proofs.tile.TileState.is_segment.Goals as goal

pub index-requires : goal.index-requires
index-requires c = let b = c.args.self.now.kept.current c.args.b c.requires in record { column = b.column; row = b.row }

pub get_segment_pred-predicted-requires : goal.get_segment_pred-predicted-requires
get_segment_pred-predicted-requires c = let b = c.args.self.now.kept.current c.args.b c.requires in record { column = b.column; row = b.row }
