use Rattle.std.proofs.Common.{arith, refl, ◌-◌, ◌+◌}
use Rattle.av1_header.proofs.TileLoops.{increments_done, increments_stop, increments_on, said_more, said_enough}
use Rattle.av1_header.proofs.tiles.write_increments.Goals as goal

pub returns-then-not-more-clause-wrote : goal.returns-then-not-more-clause-wrote
returns-then-not-more-clause-wrote c = c.loop-k.invariant.rest _ _ _ (increments_stop _ (c.args.most - c.loop-k.k - 1) _ _ _ _ _ _ _ _ (omega arith) c.flag_or-more.ensures refl c.if-not-more.true)

pub returns-then-not-more-clause-reached : goal.returns-then-not-more-clause-reached
returns-then-not-more-clause-reached c = omega (arith, c.loop-k.invariant.from, c.loop-k.invariant.to, said_enough _ c.args.goal _ _ _ _ _ _ c.flag_or-more.ensures refl c.if-not-more.true)

pub loop-k-preserved : goal.loop-k-preserved
loop-k-preserved c = record {
  from = omega (arith, c.loop-k.invariant.from);
  to = omega (arith, said_more _ c.args.goal _ _ _ _ _ _ c.flag_or-more.ensures refl c.if-not-more.false);
  rest = λ a r new x. c.loop-k.invariant.rest a r new (increments_on _ (c.args.most - (c.loop-k.k + 1)) _ _ _ _ _ _ _ _ _ _ _ (omega arith) c.flag_or-more.ensures refl c.if-not-more.false x);
}

pub returns-clause-wrote : goal.returns-clause-wrote
returns-clause-wrote c = c.loop-k.invariant.rest _ _ _ (increments_done _ _ _ _ _ (omega arith))

pub returns-clause-reached : goal.returns-clause-reached
returns-clause-reached c = omega (arith, c.loop-k.invariant.from, c.loop-k.invariant.to, c.requires)
