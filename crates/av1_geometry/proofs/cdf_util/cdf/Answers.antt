use Rattle.std.proofs.Common.{◌≡◌, ◌<◌, ◌-◌, length, replicate, refl, arith}
use Rattle.std.proofs.lemmas.Grind.{common_steps}
use Rattle.av1_geometry.proofs.Filling.{filled, filled_whole}
use Rattle.av1_geometry.proofs.cdf_util.cdf.Goals as goal

pub loop-i-preserved : goal.loop-i-preserved
loop-i-preserved g c =
    let within : c.loop-i.i < length c.args.vars = grind (arith, common_steps) in
    let room : c.loop-i.i < length (replicate g.row.CDF_LEN 0) = grind (arith, common_steps) in
    filled (λ v. 32768 - v) c.args.vars (replicate g.row.CDF_LEN 0) c.loop-i.out c.loop-i.i 0 _ within room c.loop-i.invariant refl

pub returns : goal.returns
returns g c =
    let ended : c.loop-i.i ≡ length c.args.vars = grind (arith, common_steps) in
    filled_whole (λ v. 32768 - v) c.args.vars 0 c.loop-i.out g.row.CDF_LEN c.loop-i.i ended c.loop-i.invariant
