use Rattle.std.proofs.Common.{sym, ◌∙◌}
use Rattle.std.proofs.lemmas.Simd.{length-zip2}
use Rattle.av1_ec.proofs.lanes.less.Goals as goal

pub returns-clause-len : goal.returns-clause-len
returns-clause-len c = length-zip2 _ c.args.a c.args.b (c.requires.a ∙ sym c.requires.b) ∙ c.requires.a
