use Rattle.av1_header.proofs.RowLaws.{writing}
use Rattle.av1_header.specs.Filters.{cdef_strengths}
use Rattle.av1_header.proofs.filters.write_strength.Goals as goal

pub returns : goal.returns
unfolding cdef_strengths
returns c = search writing depth 8
