use Rattle.av1_header.proofs.RowLaws.{writing}
use Rattle.av1_header.specs.Color.{subsampling}
use Rattle.av1_header.proofs.color.write_subsampling.Goals as goal

pub returns : goal.returns
unfolding subsampling
returns c = search writing depth 8
