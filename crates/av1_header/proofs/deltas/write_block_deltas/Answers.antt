use Rattle.av1_header.proofs.RowLaws.{writing}
use Rattle.av1_header.specs.Deltas.{delta_lf_params}
use Rattle.av1_header.proofs.deltas.write_block_deltas.Goals as goal

pub returns : goal.returns
unfolding delta_lf_params
returns c = search writing depth 8
