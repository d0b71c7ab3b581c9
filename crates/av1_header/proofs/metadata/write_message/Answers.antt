use Rattle.av1_header.proofs.RowLaws.{writing}
use Rattle.av1_header.specs.Metadata.{sequence_metadata}
use Rattle.av1_header.proofs.metadata.write_message.Goals as goal

pub returns : goal.returns
unfolding sequence_metadata
returns c = search writing depth 8
