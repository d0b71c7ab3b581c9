use Rattle.std.proofs.Common.{arith, ◌-◌, ◌+◌}
use Rattle.av1_header.proofs.FoundLoop.{found_none, found_one, found_later}
use Rattle.av1_header.proofs.sizes.write_found.Goals as goal

pub returns-then-found : goal.returns-then-found
returns-then-found c = c.loop-i.invariant _ _ _ (found_one _ (c.args.n - (c.loop-i.i + 1)) _ _ _ _ _ _ _ _ (omega arith) c.flag_or-found.ensures c.reference_has_sides.ensures c.if-found.true)

pub loop-i-preserved : goal.loop-i-preserved
loop-i-preserved c a r new x = c.loop-i.invariant a r new (found_later _ (c.args.n - (c.loop-i.i + 1)) _ _ _ _ _ _ _ _ _ _ _ (omega arith) c.flag_or-found.ensures c.reference_has_sides.ensures c.if-found.false x)

pub returns : goal.returns
returns c = c.loop-i.invariant _ _ _ (found_none _ _ _ _ _ (omega arith))
