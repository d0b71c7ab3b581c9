use Rattle.std.proofs.Common.{◌-◌, Bool, List}
use Rattle.av1_header.specs.Rows.{Wrote}
use Rattle.av1_header.specs.Sizes.{found_ref, with_refs}
use Rattle.av1_header.proofs.sizes.write_found.Given as goal

-- what is left and what was written make the whole
abbrev pub invariant-loop-i : goal.invariant-loop-i
invariant-loop-i l = (a r : Bool) (new : List Bool) →
    Wrote (found_ref (l.n - l.i) l.i) (with_refs l.fi l.refs) a l.refused r l.bits new →
    Wrote (found_ref l.n 0) (with_refs l.fi l.refs) a l.fn.refused r l.fn.bits new
