use Rattle.av1_cdf.proofs.Cells.{layout_rises, slot_within, slot_short, cell_of_slot, slots_apart}
use Rattle.av1_cdf.proofs.laws.law_of_layout.Goals as goal

pub returns-clause-without_gaps : goal.returns-clause-without_gaps
returns-clause-without_gaps c = layout_rises

pub returns-clause-within : goal.returns-clause-within
returns-clause-within c s h = let w = slot_within s.place s.len h in (w.1, slot_short s.place s.len h, w.0)

pub returns-clause-own_places : goal.returns-clause-own_places
returns-clause-own_places c s k h u v = cell_of_slot s.place s.len k h u v

pub returns-clause-apart : goal.returns-clause-apart
returns-clause-apart c s t h k = slots_apart s t h k
