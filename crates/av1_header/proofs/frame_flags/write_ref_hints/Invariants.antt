use Rattle.std.proofs.Common.{◌-◌, Bool, List}
use Rattle.av1_header.specs.Rows.{Wrote, each}
use Rattle.av1_header.specs.FrameFlags.{ref_order_hint}
use Rattle.av1_header.proofs.frame_flags.write_ref_hints.Given as goal

-- what is left and what was written make the whole
abbrev pub invariant-loop-i : goal.invariant-loop-i
invariant-loop-i l = (r : Bool) (new : List Bool) →
    Wrote (each (8 - l.i) l.i (ref_order_hint l.there l.n)) (l.refs) tt l.refused r l.bits new →
    Wrote (each 8 0 (ref_order_hint l.there l.n)) (l.refs) tt l.fn.refused r l.fn.bits new
