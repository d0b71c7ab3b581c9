use Rattle.av1_header.proofs.RowLaws.{writing}
use Rattle.av1_header.specs.Color.{description}
use Rattle.av1_header.proofs.color.write_description.Goals as goal

pub returns : goal.returns
unfolding description
returns c = search writing depth 8
