use Rattle.std.proofs.Common.{◌-◌, Bool, List}
use Rattle.av1_header.specs.Rows.{Wrote, each}
use Rattle.av1_header.specs.Filters.{cdef_strengths}
use Rattle.av1_header.proofs.filters.write_strengths.Given as goal

-- what is left and what was written make the whole
abbrev pub invariant-loop-i : goal.invariant-loop-i
invariant-loop-i l = (r : Bool) (new : List Bool) →
    Wrote (each (l.n - l.i) l.i (cdef_strengths l.monochrome)) (l.fi) tt l.refused r l.bits new →
    Wrote (each l.n 0 (cdef_strengths l.monochrome)) (l.fi) tt l.fn.refused r l.fn.bits new
