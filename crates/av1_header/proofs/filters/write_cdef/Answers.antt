use Rattle.av1_header.proofs.RowLaws.{writing}
use Rattle.av1_header.specs.Filters.{cdef_params}
use Rattle.av1_header.proofs.filters.write_cdef.Goals as goal

pub returns : goal.returns
unfolding cdef_params
returns c = search writing depth 8
