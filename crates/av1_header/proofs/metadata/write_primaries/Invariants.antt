use Rattle.std.proofs.Common.{◌-◌, Bool, List}
use Rattle.av1_header.specs.Rows.{Wrote, each, on}
use Rattle.std.specs.Prelude.{slice_index_or}
use Rattle.av1_header.specs.Metadata.{primary, point}
use Rattle.av1_header.proofs.metadata.write_primaries.Given as goal

-- what is left and what was written make the whole
abbrev pub invariant-loop-i : goal.invariant-loop-i
invariant-loop-i l = (r : Bool) (new : List Bool) →
    Wrote (each (3 - l.i) l.i (λ i. on (λ display. slice_index_or display.primaries i (point 0 0)) (primary l.there))) (l.display) tt l.refused r l.bits new →
    Wrote (each 3 0 (λ i. on (λ display. slice_index_or display.primaries i (point 0 0)) (primary l.there))) (l.display) tt l.fn.refused r l.fn.bits new
