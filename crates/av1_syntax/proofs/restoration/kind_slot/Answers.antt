use Rattle.std.proofs.Common.{◌∙◌, ap, sym}
use Rattle.av1_cdf.specs.Layout.{Slot}
use Rattle.av1_syntax.proofs.FilterWrites.{all_long, two_long}
use Rattle.av1_syntax.proofs.Restoring.{switchable_has, wiener_has, sgrproj_has}
use Rattle.av1_syntax.proofs.restoration.kind_slot.Goals as goal

pub returns-then-lrf_type-eq-RESTORE_SWITCHABLE-clause-len : goal.returns-then-lrf_type-eq-RESTORE_SWITCHABLE-clause-len
returns-then-lrf_type-eq-RESTORE_SWITCHABLE-clause-len c = ap (λ (s : Slot). s.len) c.lrf_switchable_cdf.ensures ∙ switchable_has.1 ∙ sym (all_long c.args.lrf_type c.if-lrf_type-eq-RESTORE_SWITCHABLE.true)

pub returns-then-lrf_type-eq-RESTORE_WIENER-clause-len : goal.returns-then-lrf_type-eq-RESTORE_WIENER-clause-len
returns-then-lrf_type-eq-RESTORE_WIENER-clause-len c = ap (λ (s : Slot). s.len) c.lrf_wiener_cdf.ensures ∙ wiener_has.1 ∙ sym (two_long c.args.lrf_type c.if-lrf_type-eq-RESTORE_SWITCHABLE.false)

pub returns-else-lrf_type-eq-RESTORE_WIENER-clause-len : goal.returns-else-lrf_type-eq-RESTORE_WIENER-clause-len
returns-else-lrf_type-eq-RESTORE_WIENER-clause-len c = ap (λ (s : Slot). s.len) c.lrf_sgrproj_cdf.ensures ∙ sgrproj_has.1 ∙ sym (two_long c.args.lrf_type c.if-lrf_type-eq-RESTORE_SWITCHABLE.false)
