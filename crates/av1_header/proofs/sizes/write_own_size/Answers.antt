use Rattle.av1_header.proofs.RowLaws.{writing}
use Rattle.av1_header.specs.Sizes.{frame_size}
use Rattle.av1_header.proofs.sizes.write_own_size.Goals as goal

pub returns : goal.returns
unfolding frame_size
returns c = search writing depth 8
