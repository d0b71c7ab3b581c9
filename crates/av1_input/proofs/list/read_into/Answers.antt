use Rattle.std.proofs.Common.{[], ◌+◌, ◌∙◌, ap, arith, length-set, refl, set, sym, take}
use Rattle.std.proofs.lemmas.List.{take_all, take_more_set}
use Rattle.av1_input.specs.Fitted.{Fits}
use Rattle.av1_input.proofs.Lists.{at_place, first_item, last_item, next_item, unfit_item}
use Rattle.av1_input.proofs.list.read_into.Goals as goal

pub loop-i-init : goal.loop-i-init
loop-i-init g c = (c.requires, first_item g.T.FromJson.kind.fit c.args.items.items [] refl)

pub index_mut-requires : goal.index_mut-requires
index_mut-requires g c = omega (arith, c.loop-i.invariant.1.len)

pub returns-in-Err-clause-err : goal.returns-in-Err-clause-err
returns-in-Err-clause-err g c =
    unfit_item g.T.FromJson.kind.fit c.args.items.items c.loop-i.items.items _ c.loop-i.i c.take.result c.in-Err.error c.in_item.result c.loop-i.invariant.1 (omega arith)
    (at_place c.loop-i.items.items c.loop-i.i c.index_mut.result.now c.take.result c.take.ensures.taken c.index_mut.ensures.value) c.in-Err.ensures c.in_item.ensures

pub loop-i-preserved : goal.loop-i-preserved
loop-i-preserved g c = (
  length-set c.loop-i.items.items c.loop-i.i c.take.new.self ∙ c.loop-i.invariant.0 ∙ sym (length-set c.loop-i.places c.loop-i.i c.in-Ok.x),
  next_item g.T.FromJson.kind.fit c.args.items.items c.loop-i.items.items (take c.loop-i.i c.loop-i.places) (take (c.loop-i.i + 1) (set c.loop-i.places c.loop-i.i c.in-Ok.x)) c.loop-i.i c.take.result c.take.new.self c.in-Ok.x c.loop-i.invariant.1 (omega arith)
      (at_place c.loop-i.items.items c.loop-i.i c.index_mut.result.now c.take.result c.take.ensures.taken c.index_mut.ensures.value) c.in-Ok.ensures (take_more_set c.loop-i.places c.loop-i.i c.in-Ok.x (omega arith)),
)

pub returns-clause-ok : goal.returns-clause-ok
returns-clause-ok g c =
    last_item g.T.FromJson.kind.fit c.args.items.items c.loop-i.items.items (take c.loop-i.i c.loop-i.places) c.loop-i.i c.loop-i.invariant.1 (omega (arith, c.loop-i-test.false))
    ∙ ap Fits (take_all c.loop-i.i c.loop-i.places (omega (arith, c.loop-i-test.false)))
