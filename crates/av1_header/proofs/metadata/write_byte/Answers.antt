use Rattle.av1_header.proofs.RowLaws.{writing}
use Rattle.av1_header.specs.Metadata.{payload_byte}
use Rattle.av1_header.proofs.metadata.write_byte.Goals as goal

pub returns : goal.returns
unfolding payload_byte
returns c = search writing depth 8
