use Rattle.std.proofs.Common.{inl, inr, arith, ◌+◌}
use Rattle.av1_cdf.proofs.Cells.{slot_within, slots_apart}
use Rattle.av1_cdf.proofs.Parts.{written_length, part_written, part_stays}
use Rattle.av1_cdf.proofs.laws.law_of_writing.Goals as goal

pub returns-clause-size : goal.returns-clause-size
returns-clause-size c numbers ws s = written_length numbers s.place (s.place + s.len) ws

pub returns-clause-own : goal.returns-clause-own
returns-clause-own c numbers ws s h l e =
    let w = slot_within s.place s.len h in
    part_written numbers s.place (s.place + s.len) ws (omega arith) (omega (arith, w.0)) (omega arith)

pub returns-clause-others : goal.returns-clause-others
returns-clause-others c numbers ws s t h k l =
    let v = slot_within t.place t.len k in
    elim (slots_apart s t h k) [
      | inl e ↦ inl e
      | inr (inl o) ↦ inr (part_stays numbers s.place (s.place + s.len) ws t.place (t.place + t.len) (omega (arith, v.0)) (inr o))
      | inr (inr o) ↦ inr (part_stays numbers s.place (s.place + s.len) ws t.place (t.place + t.len) (omega (arith, v.0)) (inl o))
    ]
