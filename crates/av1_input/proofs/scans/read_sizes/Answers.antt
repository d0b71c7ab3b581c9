use Rattle.std.proofs.Common.{ap, arith}
use Rattle.std.proofs.lemmas.Result.{err_from_is_err_and}
use Rattle.av1_input.specs.Scans.{class_scans}
use Rattle.av1_input.proofs.Lists.{at_place, first_item, last_item, next_item, lists_more, lists_of, unfit_item}
use Rattle.av1_input.proofs.scans.read_sizes.Goals as goal

pub loop-i-init : goal.loop-i-init
loop-i-init c = first_item class_scans.fit c.args.items.items (lists_of c.new-sizes.result.items) (ap lists_of c.new-sizes.ensures.items)

pub index_mut-requires : goal.index_mut-requires
index_mut-requires c = omega (arith, c.loop-i.invariant.len)

pub returns-in_err-push-in-Ok-clause-ok : goal.returns-in_err-push-in-Ok-clause-ok
returns-in_err-push-in-Ok-clause-ok c = let p = err_from_is_err_and c.from_residual.result c.from_residual.ensures.1 in rw p.1 tt

pub returns-in_err-push-in-Ok-clause-err : goal.returns-in_err-push-in-Ok-clause-err
returns-in_err-push-in-Ok-clause-err c = let p = err_from_is_err_and c.from_residual.result c.from_residual.ensures.1 in rw (p.1, p.2) tt

pub returns-in-Err-clause-err : goal.returns-in-Err-clause-err
returns-in-Err-clause-err c =
    unfit_item class_scans.fit c.args.items.items c.loop-i.items.items (lists_of c.loop-i.sizes.items) c.loop-i.i c.take.result c.in-Err.error c.in_item.result c.loop-i.invariant (omega arith)
    (at_place c.loop-i.items.items c.loop-i.i c.index_mut.result.now c.take.result c.take.ensures.taken c.index_mut.ensures.value) c.in-Err.ensures.err c.in_item.ensures

pub loop-i-preserved : goal.loop-i-preserved
loop-i-preserved c =
    next_item class_scans.fit c.args.items.items c.loop-i.items.items (lists_of c.loop-i.sizes.items) (lists_of c.push.new.self.items) c.loop-i.i c.take.result c.take.new.self c.in-Ok.size.items c.loop-i.invariant (omega arith)
    (at_place c.loop-i.items.items c.loop-i.i c.index_mut.result.now c.take.result c.take.ensures.taken c.index_mut.ensures.value) c.in-Ok.ensures.ok
    (lists_more c.loop-i.sizes.items c.push.new.self.items c.in-Ok.size c.in_ok-push-in-Ok.ensures.items)

pub returns-clause-ok : goal.returns-clause-ok
returns-clause-ok c = last_item class_scans.fit c.args.items.items c.loop-i.items.items (lists_of c.loop-i.sizes.items) c.loop-i.i c.loop-i.invariant (omega (arith, c.loop-i-test.false))
