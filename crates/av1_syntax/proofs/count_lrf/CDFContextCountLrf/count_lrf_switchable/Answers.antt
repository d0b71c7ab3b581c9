use Rattle.std.proofs.Common.{◌∙◌, ap, arith}
use Rattle.av1_cdf.specs.Layout.{Slot}
use Rattle.av1_syntax.proofs.Restoring.{switchable_has}
use Rattle.av1_syntax.proofs.count_lrf.CDFContextCountLrf.count_lrf_switchable.Goals as goal

pub symbol_cost-requires-clause-s : goal.symbol_cost-requires-clause-s
symbol_cost-requires-clause-s g c =
    let three = c.values_of-cdf.ensures.len ∙ ap (λ (s : Slot). s.len) c.lrf_switchable_cdf.ensures ∙ switchable_has.1 in
    omega (arith, three, c.kind.ensures.few)
