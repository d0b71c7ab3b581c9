use Rattle.std.proofs.Common.{subst}
use Rattle.av1_step.specs.declared.step.TileStep.{TileStep}
use Rattle.av1_make.specs.Blocks.{predicted}
use Rattle.av1_make.specs.Draws.{Makes, step}
use Rattle.av1_make.proofs.Making.{then_makes}
use Rattle.av1_make.proofs.blocks.add_mode.Goals as goal

pub returns : goal.returns
unfolding predicted
returns c =
    let Made : TileStep → Type 0 = λ s. Makes (step s) c.args.maker.now c.add_step.new.self in
    then_makes _ _ _ _ _ _ (subst Made c.mode_step.ensures c.in_ok-add_step.ensures) c.add_turn.ensures
