use Rattle.std.proofs.Common.{◌∙◌, ap}
use Rattle.av1_cdf.specs.Layout.{Slot}
use Rattle.av1_syntax.proofs.InterSlots.{class0_hp_has, hp_has}
use Rattle.av1_syntax.proofs.motion_vectors.eighth_slot.Goals as goal

pub returns-then-mv_class-eq0-clause-len : goal.returns-then-mv_class-eq0-clause-len
returns-then-mv_class-eq0-clause-len c = ap (λ (s : Slot). s.len) c.class0_hp_cdf.ensures ∙ (class0_hp_has c.args.axis c.requires).1

pub returns-else-mv_class-eq0-clause-len : goal.returns-else-mv_class-eq0-clause-len
returns-else-mv_class-eq0-clause-len c = ap (λ (s : Slot). s.len) c.hp_cdf.ensures ∙ (hp_has c.args.axis c.requires).1
