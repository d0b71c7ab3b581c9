use Rattle.av1_header.proofs.RowLaws.{writing}
use Rattle.av1_header.specs.Color.{bit_depth}
use Rattle.av1_header.proofs.color.write_bit_depth.Goals as goal

pub returns : goal.returns
unfolding bit_depth
returns c = search writing depth 8
