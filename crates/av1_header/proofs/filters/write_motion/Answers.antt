use Rattle.av1_header.proofs.RowLaws.{writing}
use Rattle.av1_header.specs.Filters.{global_param}
use Rattle.av1_header.proofs.filters.write_motion.Goals as goal

pub returns : goal.returns
unfolding global_param
returns c = search (writing, c.translations-n.ensures.value, c.number_of_motion-number.ensures) depth 8
