use Rattle.std.proofs.Common.{arith}
use Rattle.std.proofs.lemmas.Result.{err_from_is_err_and}
use Rattle.av1_input.proofs.Lists.{at_place, first_item, last_item, next_item, unfit_item}
use Rattle.av1_input.proofs.list.read_each.Goals as goal

pub returns-in_err-list-clause-ok : goal.returns-in_err-list-clause-ok
returns-in_err-list-clause-ok g c = let p = err_from_is_err_and c.from_residual.result c.from_residual.ensures.1 in rw p.1 tt

pub returns-in_err-list-clause-err : goal.returns-in_err-list-clause-err
returns-in_err-list-clause-err g c = let p = err_from_is_err_and c.from_residual.result c.from_residual.ensures.1 in rw (p.1, p.2) tt

pub loop-i-init : goal.loop-i-init
loop-i-init g c = first_item g.T.FromJson.kind.fit c.args.items.items c.in_ok-list.list.items c.in_ok-list.ensures.items

pub index_mut-requires : goal.index_mut-requires
index_mut-requires g c = omega (arith, c.loop-i.invariant.len)

pub returns-in_err-push-in-Ok-clause-ok : goal.returns-in_err-push-in-Ok-clause-ok
returns-in_err-push-in-Ok-clause-ok g c = let p = err_from_is_err_and c.from_residual-in_err-push-in-Ok.result c.from_residual-in_err-push-in-Ok.ensures.1 in rw p.1 tt

pub returns-in_err-push-in-Ok-clause-err : goal.returns-in_err-push-in-Ok-clause-err
returns-in_err-push-in-Ok-clause-err g c = let p = err_from_is_err_and c.from_residual-in_err-push-in-Ok.result c.from_residual-in_err-push-in-Ok.ensures.1 in rw (p.1, p.2) tt

pub returns-in-Err-clause-err : goal.returns-in-Err-clause-err
returns-in-Err-clause-err g c =
    unfit_item g.T.FromJson.kind.fit c.args.items.items c.loop-i.items.items c.loop-i.list.items c.loop-i.i c.take.result c.in-Err.error c.in_item.result c.loop-i.invariant (omega arith)
    (at_place c.loop-i.items.items c.loop-i.i c.index_mut.result.now c.take.result c.take.ensures.taken c.index_mut.ensures.value) c.in-Err.ensures c.in_item.ensures

pub loop-i-preserved : goal.loop-i-preserved
loop-i-preserved g c =
    next_item g.T.FromJson.kind.fit c.args.items.items c.loop-i.items.items c.loop-i.list.items c.push.new.self.items c.loop-i.i c.take.result c.take.new.self c.in-Ok.x c.loop-i.invariant (omega arith)
    (at_place c.loop-i.items.items c.loop-i.i c.index_mut.result.now c.take.result c.take.ensures.taken c.index_mut.ensures.value) c.in-Ok.ensures c.in_ok-push-in-Ok.ensures.items

pub returns-clause-ok : goal.returns-clause-ok
returns-clause-ok g c = last_item g.T.FromJson.kind.fit c.args.items.items c.loop-i.items.items c.loop-i.list.items c.loop-i.i c.loop-i.invariant (omega (arith, c.loop-i-test.false))
