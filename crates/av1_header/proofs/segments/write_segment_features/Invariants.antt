use Rattle.std.proofs.Common.{◌-◌, Bool, List}
use Rattle.av1_header.specs.Rows.{Wrote, each}
use Rattle.av1_header.specs.Segments.{segment}
use Rattle.av1_header.proofs.segments.write_segment_features.Given as goal

-- what is left and what was written make the whole
abbrev pub invariant-loop-i : goal.invariant-loop-i
invariant-loop-i l = (r : Bool) (new : List Bool) →
    Wrote (each (8 - l.i) l.i segment) l.segmentation tt l.refused r l.bits new →
    Wrote (each 8 0 segment) l.segmentation tt l.fn.refused r l.fn.bits new
