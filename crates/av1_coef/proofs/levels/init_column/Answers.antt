use Rattle.std.proofs.Common.{◌+◌, ◌<◌, length, min, ap, ◌∙◌, arith}
use Rattle.av1_coef.specs.Padded.{sizes_of}
use Rattle.av1_coef.proofs.LevelSteps.{column_more, size_at}
use Rattle.av1_coef.proofs.levels.init_column.Goals as goal

pub loop-r-preserved : goal.loop-r-preserved
loop-r-preserved g c =
    let value = g.T.Coefficient.value in
    let k = c.args.from + c.loop-r.r in
    let within : k < length c.args.coeffs.now = omega (arith, c.requires.coeffs, c.loop-r-test.true) in
    let room : c.args.at + c.loop-r.r < length c.loop-r.levels = omega (arith, c.requires.levels, c.loop-r-test.true, c.loop-r.auto.levels) in
    column_more (sizes_of value c.args.coeffs.now) c.args.levels.now c.loop-r.levels c.args.from c.args.at c.loop-r.r c.level_of.result room
    (c.level_of.ensures ∙ ap (λ n. min n 127) (size_at value c.args.coeffs.now k c.index-coeffs-from.result within c.index-coeffs-from.is)) c.loop-r.invariant
