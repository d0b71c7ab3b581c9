use Rattle.std.proofs.Common.{◌-◌, Bool, List}
use Rattle.av1_header.specs.Rows.{Wrote, each}
use Rattle.av1_header.specs.Metadata.{payload_byte}
use Rattle.av1_header.proofs.metadata.write_payload.Given as goal

-- what is left and what was written make the whole
abbrev pub invariant-loop-i : goal.invariant-loop-i
invariant-loop-i l = (r : Bool) (new : List Bool) →
    Wrote (each (l.count - l.i) l.i (payload_byte)) (l.payload) tt l.refused r l.bits new →
    Wrote (each l.count 0 (payload_byte)) (l.payload) tt l.fn.refused r l.fn.bits new
