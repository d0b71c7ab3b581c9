use Rattle.std.proofs.Common.{◌∙◌, ap}
use Rattle.av1_cdf.specs.Layout.{Slot}
use Rattle.av1_syntax.proofs.Slots.{delta_has, delta_multi_has}
use Rattle.av1_syntax.proofs.deblock_deltas.delta_slot.Goals as goal

pub returns-then-multi-clause-len : goal.returns-then-multi-clause-len
returns-then-multi-clause-len c = ap (λ (s : Slot). s.len) c.deblock_delta_multi_cdf.ensures ∙ (delta_multi_has c.args.k c.requires).1

pub returns-else-multi-clause-len : goal.returns-else-multi-clause-len
returns-else-multi-clause-len c = ap (λ (s : Slot). s.len) c.deblock_delta_cdf.ensures ∙ delta_has.1
