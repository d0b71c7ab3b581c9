use Rattle.std.proofs.Common.{◌<◌, length, map, replicate, arith, []}
use Rattle.std.proofs.lemmas.Grind.{common_steps}
use Rattle.av1_geometry.specs.Tables.{complemented}
use Rattle.av1_geometry.proofs.Filling.{filled}
use Rattle.av1_geometry.proofs.cdf_util.cdf_4d.Goals as goal

pub loop-i-preserved : goal.loop-i-preserved
loop-i-preserved g c =
    let within : c.loop-i.i < length c.args.vars = grind (arith, common_steps) in
    let room : c.loop-i.i < length (replicate g.row.N_4D (replicate g.row.N_3D (replicate g.row.N_2D (replicate g.row.CDF_LEN 0)))) = grind (arith, common_steps) in
    filled (map (map (complemented g.row.CDF_LEN))) c.args.vars (replicate g.row.N_4D (replicate g.row.N_3D (replicate g.row.N_2D (replicate g.row.CDF_LEN 0)))) c.loop-i.out c.loop-i.i [] c.cdf_3d.result within room c.loop-i.invariant c.cdf_3d.ensures
