use Rattle.std.proofs.Common.{◌-◌, Bool, List}
use Rattle.av1_header.specs.Rows.{Wrote, each, on}
use Rattle.av1_header.specs.Segments.{feature, feature_of}
use Rattle.av1_header.proofs.segments.write_segment.Given as goal

-- what is left and what was written make the whole
abbrev pub invariant-loop-j : goal.invariant-loop-j
invariant-loop-j l = (r : Bool) (new : List Bool) →
    Wrote (each (8 - l.j) l.j (λ j. on (feature_of l.i j) (feature j))) l.segmentation tt l.refused r l.bits new →
    Wrote (each 8 0 (λ j. on (feature_of l.i j) (feature j))) l.segmentation tt l.fn.refused r l.fn.bits new
