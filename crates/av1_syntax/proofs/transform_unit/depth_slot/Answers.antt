use Rattle.std.proofs.Common.{◌∙◌, ◌-◌, ap, arith}
use Rattle.av1_cdf.specs.Layout.{Slot}
use Rattle.av1_syntax.proofs.TransformSizes.{eight_has, larger_has, side_few}
use Rattle.av1_syntax.proofs.transform_unit.depth_slot.Goals as goal

pub returns-then-side-eq3-clause-len : goal.returns-then-side-eq3-clause-len
returns-then-side-eq3-clause-len c =
    let two = ap (λ (s : Slot). s.len) c.tx_size_8x8_cdf.ensures ∙ (eight_has c.args.ctx c.requires.context).1 in
    omega (arith, two, c.longer-side.ensures.value, c.if-side-eq3.true)

pub returns-else-side-eq3-clause-len : goal.returns-else-side-eq3-clause-len
returns-else-side-eq3-clause-len c =
    let e = c.longer-side.ensures.value in
    let l = side_few c.args.largest in
    let three = ap (λ (s : Slot). s.len) c.tx_size_cdf.ensures ∙ (larger_has (c.longer-side.result - 4) c.args.ctx (omega (arith, l, e)) c.requires.context).1 in
    omega (arith, three, e, c.if-side-eq3.false, c.requires.larger)
