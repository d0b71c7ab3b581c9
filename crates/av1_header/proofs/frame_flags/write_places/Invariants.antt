use Rattle.std.proofs.Common.{◌-◌, Bool, List}
use Rattle.av1_header.specs.Rows.{Wrote, each}
use Rattle.av1_header.specs.FrameFlags.{ref_frame_idx}
use Rattle.av1_header.proofs.frame_flags.write_places.Given as goal

-- what is left and what was written make the whole
abbrev pub invariant-loop-i : goal.invariant-loop-i
invariant-loop-i l = (r : Bool) (new : List Bool) →
    Wrote (each (7 - l.i) l.i (ref_frame_idx)) (l.fi) tt l.refused r l.bits new →
    Wrote (each 7 0 (ref_frame_idx)) (l.fi) tt l.fn.refused r l.fn.bits new
