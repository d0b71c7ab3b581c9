use Rattle.av1_header.proofs.RowLaws.{writing}
use Rattle.av1_header.specs.Sizes.{sizes}
use Rattle.av1_header.proofs.sizes.write_sizes.Goals as goal

pub returns : goal.returns
unfolding sizes
returns c = search writing depth 8
