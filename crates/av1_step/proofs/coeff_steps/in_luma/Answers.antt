use Rattle.std.proofs.Common.{◌≡◌, ◌*◌, ◌^◌, sym, subst, arith}
use Rattle.av1_step.proofs.coeff_steps.in_luma.Goals as goal

pub returns-then-halvings-eq0-clause-value : goal.returns-then-halvings-eq0-clause-value
returns-then-halvings-eq0-clause-value c =
    let e : c.args.halvings ≡ 0 = omega (arith, c.if-halvings-eq0.true) in
    subst (λ h. c.args.side ≡ c.args.side * 2 ^ h) (sym e) (omega arith)

pub returns-else-halvings-eq0-clause-value : goal.returns-else-halvings-eq0-clause-value
returns-else-halvings-eq0-clause-value c =
    let e : c.args.halvings ≡ 1 = omega (arith, c.if-halvings-eq0.false, c.requires.halvings) in
    subst (λ h. 2 * c.args.side ≡ c.args.side * 2 ^ h) (sym e) (omega arith)
