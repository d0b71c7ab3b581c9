use Rattle.std.proofs.Common.{◌-◌, Bool, List}
use Rattle.av1_header.specs.Rows.{Wrote, each, on}
use Rattle.av1_header.specs.Deltas.{Deblock, change, changed_delta}
use Rattle.av1_header.proofs.deltas.write_mode_deltas.Given as goal

-- what is left and what was written make the whole
abbrev pub invariant-loop-i : goal.invariant-loop-i
invariant-loop-i l = (r : Bool) (new : List Bool) →
    Wrote (each (2 - l.i) l.i (λ i. on (λ (d : Deblock). change d.before.mode_deltas d.filter.mode_deltas i) (changed_delta l.there))) (record { filter = l.deblock; before = l.before }) tt l.refused r l.bits new →
    Wrote (each 2 0 (λ i. on (λ (d : Deblock). change d.before.mode_deltas d.filter.mode_deltas i) (changed_delta l.there))) (record { filter = l.deblock; before = l.before }) tt l.fn.refused r l.fn.bits new
