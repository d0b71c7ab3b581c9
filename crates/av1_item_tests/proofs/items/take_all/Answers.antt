use Rattle.std.proofs.Common.{◌<◌, length, IsTrue, rules, sym, arith}
use Rattle.av1_item_tests.proofs.Taking.{and_next}
use Rattle.av1_item_tests.proofs.items.take_all.Goals as goal

pub loop-item-preserved : goal.loop-item-preserved
loop-item-preserved g c =
    let items = c.args.items.now in
    let i = c.loop-item.item-index in
    let there : i < length items = omega arith in
    let came : IsTrue c.in_ok-take.field-0 = search rules in
    (c.take.ensures.marks, and_next g.W.Known _ _ _ items i c.item-item.result there (sym c.item-item.is) c.loop-item.invariant.1 (c.in_ok-take.ensures.took came))
