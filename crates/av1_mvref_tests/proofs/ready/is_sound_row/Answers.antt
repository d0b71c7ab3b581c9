use Rattle.std.proofs.Common.{IsTrue, subst, arith}
use Rattle.std.proofs.lemmas.Grind.{common_steps}
use borrow.Author.Count.{below_more}
use Rattle.av1_blocks.specs.Grid.{block_at}
use Rattle.av1_blocks.specs.Sound.{IsSound}
use Rattle.av1_mvref_tests.proofs.ready.is_sound_row.Goals as goal

pub loop-x-preserved : goal.loop-x-preserved
loop-x-preserved c =
    let sound : IsTrue c.is_sound.result = grind (arith, common_steps) in
    below_more (λ k. IsSound (block_at c.args.blocks.now k c.args.y)) c.loop-x.x c.loop-x.invariant (subst IsSound c.at.ensures (c.is_sound.ensures sound))
