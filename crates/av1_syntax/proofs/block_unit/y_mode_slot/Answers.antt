use Rattle.std.proofs.Common.{[], ◌∷◌, ◌∙◌, ap, codes, arith}
use Rattle.av1_cdf.specs.Layout.{Slot, slot}
use Rattle.av1_syntax.proofs.Slots.{y_mode_has}
use Rattle.av1_syntax.proofs.block_unit.y_mode_slot.Goals as goal

pub returns-clause-is : goal.returns-clause-is
returns-clause-is c = c.y_mode_cdf.ensures ∙ ap (λ k. slot (codes "y_mode_cdf") (k ∷ [])) c.size_group.ensures.value

pub returns-clause-len : goal.returns-clause-len
returns-clause-len c = ap (λ (s : Slot). s.len) c.y_mode_cdf.ensures ∙ (y_mode_has c.size_group.result (omega (arith, c.size_group.ensures))).1
