use Rattle.av1_header.proofs.RowLaws.{writing}
use Rattle.av1_header.specs.Sizes.{render_size}
use Rattle.av1_header.proofs.sizes.write_shown_size.Goals as goal

pub returns : goal.returns
unfolding render_size
returns c = search writing depth 8
