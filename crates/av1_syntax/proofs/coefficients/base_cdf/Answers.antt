use Rattle.std.proofs.Common.{◌<◌, ◌∙◌, ap, sym, subst, arith, Bool, if◌then◌else◌}
use Rattle.av1_cdf.specs.Layout.{Slot}
use Rattle.av1_syntax.proofs.CoeffReads.{size_few}
use Rattle.av1_syntax.proofs.CoeffSlots.{base_eob_has, base_has}
use Rattle.av1_syntax.proofs.coefficients.base_cdf.Goals as goal

pub returns-then-is_last-clause-len : goal.returns-then-is_last-clause-len
returns-then-is_last-clause-len c =
    let few = subst (λ (b : Bool). c.args.context < (if b then 4 else 42)) c.if-is_last.true c.requires.context in
    ap (λ (s : Slot). s.len) c.coeff_base_eob_cdf.ensures ∙ (base_eob_has c.args.block.txs_ctx c.args.block.plane_type c.args.context (omega (arith, c.requires.size, size_few c.args.block.tx_size)) c.requires.plane few).1
    ∙ ap (λ (b : Bool). if b then 3 else 4) (sym c.if-is_last.true)

pub returns-else-is_last-clause-len : goal.returns-else-is_last-clause-len
returns-else-is_last-clause-len c =
    let few = subst (λ (b : Bool). c.args.context < (if b then 4 else 42)) c.if-is_last.false c.requires.context in
    ap (λ (s : Slot). s.len) c.coeff_base_cdf.ensures ∙ (base_has c.args.block.txs_ctx c.args.block.plane_type c.args.context (omega (arith, c.requires.size, size_few c.args.block.tx_size)) c.requires.plane few).1
    ∙ ap (λ (b : Bool). if b then 3 else 4) (sym c.if-is_last.false)
