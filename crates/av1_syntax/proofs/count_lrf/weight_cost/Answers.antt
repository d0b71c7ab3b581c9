use Rattle.std.proofs.Common.{◌∙◌, sym}
use Rattle.av1_syntax.proofs.Counting.{weight_long}
use Rattle.av1_syntax.proofs.count_lrf.weight_cost.Goals as goal

pub returns-clause-value : goal.returns-clause-value
returns-clause-value g c = weight_long c.args.set c.args.pass c.near_cost.result c.args.reference c.args.weight c.requires.pass c.ranges.reference c.ranges.weight (sym c.has_pass.ensures ∙ c.if-not-has_pass.false) c.near_cost.ensures.value
