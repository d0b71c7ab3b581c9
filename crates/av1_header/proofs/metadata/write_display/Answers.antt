use Rattle.av1_header.proofs.RowLaws.{writing}
use Rattle.av1_header.specs.Metadata.{mastering_display}
use Rattle.av1_header.proofs.metadata.write_display.Goals as goal

pub returns : goal.returns
unfolding mastering_display
returns c = search writing depth 8
