use Rattle.av1_header.proofs.RowLaws.{writing}
use Rattle.av1_header.specs.Color.{color_config}
use Rattle.av1_header.proofs.color.write_color.Goals as goal

pub returns-then-mono : goal.returns-then-mono
unfolding color_config
returns-then-mono c = search writing depth 8

pub returns-else-mono : goal.returns-else-mono
unfolding color_config
returns-else-mono c = search writing depth 8
