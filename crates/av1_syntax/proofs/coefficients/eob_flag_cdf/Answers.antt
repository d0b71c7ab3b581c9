use Rattle.std.proofs.Common.{◌≡◌, ◌+◌, ◌∙◌, ap, sym, arith}
use Rattle.av1_cdf.specs.Layout.{Slot}
use Rattle.av1_syntax.proofs.CoeffSlots.{eob_flag_has}
use Rattle.av1_syntax.proofs.coefficients.eob_flag_cdf.Goals as goal

pub returns-in-0-clause-len : goal.returns-in-0-clause-len
returns-in-0-clause-len c = ap (λ (s : Slot). s.len) c.eob_flag_cdf16.ensures ∙ (eob_flag_has 0 c.args.plane_type c.args.context (omega arith) c.requires.plane c.requires.context).1 ∙ ap (λ k. 5 + k) (sym c.in-0.is)

pub returns-in-1-clause-len : goal.returns-in-1-clause-len
returns-in-1-clause-len c = ap (λ (s : Slot). s.len) c.eob_flag_cdf32.ensures ∙ (eob_flag_has 1 c.args.plane_type c.args.context (omega arith) c.requires.plane c.requires.context).1 ∙ ap (λ k. 5 + k) (sym c.in-1.is)

pub returns-in-2-clause-len : goal.returns-in-2-clause-len
returns-in-2-clause-len c = ap (λ (s : Slot). s.len) c.eob_flag_cdf64.ensures ∙ (eob_flag_has 2 c.args.plane_type c.args.context (omega arith) c.requires.plane c.requires.context).1 ∙ ap (λ k. 5 + k) (sym c.in-2.is)

pub returns-in-3-clause-len : goal.returns-in-3-clause-len
returns-in-3-clause-len c = ap (λ (s : Slot). s.len) c.eob_flag_cdf128.ensures ∙ (eob_flag_has 3 c.args.plane_type c.args.context (omega arith) c.requires.plane c.requires.context).1 ∙ ap (λ k. 5 + k) (sym c.in-3.is)

pub returns-in-4-clause-len : goal.returns-in-4-clause-len
returns-in-4-clause-len c = ap (λ (s : Slot). s.len) c.eob_flag_cdf256.ensures ∙ (eob_flag_has 4 c.args.plane_type c.args.context (omega arith) c.requires.plane c.requires.context).1 ∙ ap (λ k. 5 + k) (sym c.in-4.is)

pub returns-in-5-clause-len : goal.returns-in-5-clause-len
returns-in-5-clause-len c = ap (λ (s : Slot). s.len) c.eob_flag_cdf512.ensures ∙ (eob_flag_has 5 c.args.plane_type c.args.context (omega arith) c.requires.plane c.requires.context).1 ∙ ap (λ k. 5 + k) (sym c.in-5.is)

pub returns-in_default-clause-len : goal.returns-in_default-clause-len
returns-in_default-clause-len c =
    let six : 6 ≡ c.args.doublings = omega (arith, c.requires.doublings, c.in_default) in
    ap (λ (s : Slot). s.len) c.eob_flag_cdf1024.ensures ∙ (eob_flag_has 6 c.args.plane_type c.args.context (omega arith) c.requires.plane c.requires.context).1 ∙ ap (λ k. 5 + k) six
