use Rattle.std.proofs.Common.{◌-◌, ◌/◌, min, ◌<◌, ◌∙◌, arith}
use Rattle.av1_geometry.proofs.Lookup.{large_end_at}
use Rattle.av1_coef.proofs.EndClasses.{large_end}
use Rattle.av1_coef.proofs.ends.large_class.Goals as goal

pub returns : goal.returns
returns c =
    let few : min ((c.args.eob - 1) / 32) 16 < 17 = omega arith in
    rw (c.min.ensures, c.from.ensures) (large_end_at (min ((c.args.eob - 1) / 32) 16) _ few ∙ large_end c.args.eob c.requires.some c.requires.most)
