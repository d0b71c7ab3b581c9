use Rattle.av1_header.proofs.RowLaws.{writing}
use Rattle.av1_header.specs.Metadata.{content_light}
use Rattle.av1_header.proofs.metadata.write_light.Goals as goal

pub returns : goal.returns
unfolding content_light
returns c = search writing depth 8
