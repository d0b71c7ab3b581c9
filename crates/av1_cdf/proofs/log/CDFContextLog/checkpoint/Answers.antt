use Rattle.std.proofs.Common.{drop, ap, ◌∙◌, arith}
use Rattle.av1_cdf.specs.Log.{small_saves, large_saves}
use Rattle.av1_cdf.specs.Part.{undone_part}
use Rattle.av1_cdf.proofs.Undoing.{undone_all}
use Rattle.av1_cdf.proofs.log.CDFContextLog.checkpoint.Goals as goal

pub returns-clause-undone : goal.returns-clause-undone
returns-clause-undone c context =
    let small = small_saves c.args.self.now in
    let large = large_saves c.args.self.now in
    ap (undone_part 16 (drop c.len-2.result large)) (undone_all 4 small context c.len.result (omega (arith, c.len.ensures)))
    ∙ undone_all 16 large context c.len-2.result (omega (arith, c.len-2.ensures))
