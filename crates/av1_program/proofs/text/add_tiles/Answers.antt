use Rattle.av1_program.proofs.Lines.{one_more_line}
use Rattle.av1_program.proofs.text.add_tiles.Goals as goal

pub loop-number-preserved : goal.loop-number-preserved
loop-number-preserved c = one_more_line _ _ _ _ _ _ c.loop-number-test.true c.loop-number.invariant c.in_ok-add_tile.ensures
