use Rattle.std.proofs.Common.{subst}
use Rattle.av1_header.specs.Filters.{cdef_strengths}
use Rattle.av1_header.specs.Rows.{Wrote, each}
use Rattle.av1_header.proofs.filters.write_all_strengths.Goals as goal

pub returns : goal.returns
returns c = subst (λ k. Wrote (each k 0 (cdef_strengths c.args.monochrome)) c.args.fi.now tt c.args.refused.now c.write_strengths.new.refused c.args.bits.now c.write_strengths.new.bits) c.strengths.ensures.value c.write_strengths.ensures
