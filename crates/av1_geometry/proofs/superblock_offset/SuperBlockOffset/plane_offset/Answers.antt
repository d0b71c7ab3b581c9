use Rattle.av1_geometry.proofs.Offsets.{superblock_place}
use Rattle.av1_geometry.proofs.superblock_offset.SuperBlockOffset.plane_offset.Goals as goal

pub returns-clause-x : goal.returns-clause-x
returns-clause-x c = superblock_place c.args.self.x c.args.plane.now.xdec c.requires.x_fits c.requires.xdec

pub returns-clause-y : goal.returns-clause-y
returns-clause-y c = superblock_place c.args.self.y c.args.plane.now.ydec c.requires.y_fits c.requires.ydec
