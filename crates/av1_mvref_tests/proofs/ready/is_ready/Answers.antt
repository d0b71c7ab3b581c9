use Rattle.std.proofs.Common.{ℕ, ◌<◌, IsTrue, arith}
use Rattle.std.proofs.lemmas.Grind.{common_steps}
use borrow.Author.Count.{below_more}
use Rattle.av1_blocks.specs.Grid.{block_at}
use Rattle.av1_blocks.specs.Sound.{IsSound}
use Rattle.av1_mvref_tests.proofs.ready.is_ready.Goals as goal

pub loop-y-preserved : goal.loop-y-preserved
loop-y-preserved c =
    let sound : IsTrue c.is_sound_row.result = grind (arith, common_steps) in
    below_more (λ k. (x : ℕ) → x < c.args.blocks.now.cols → IsSound (block_at c.args.blocks.now x k)) c.loop-y.y c.loop-y.invariant (c.is_sound_row.ensures sound)
