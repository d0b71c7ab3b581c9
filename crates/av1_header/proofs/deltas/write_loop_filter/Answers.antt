use Rattle.av1_header.proofs.RowLaws.{writing}
use Rattle.av1_header.specs.Deltas.{loop_filter_params}
use Rattle.av1_header.proofs.deltas.write_loop_filter.Goals as goal

pub returns : goal.returns
unfolding loop_filter_params
returns c = search writing depth 8
