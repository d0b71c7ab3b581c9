use Rattle.std.proofs.Common.{◌≡◌, true, false, subst, sym, ◌∙◌}
use Rattle.av1_step.specs.AngleSteps.{is_directional}
use Rattle.av1_step.specs.declared.step.TileStep.{TileStep}
use Rattle.av1_make.specs.Blocks.{turned}
use Rattle.av1_make.specs.Draws.{Makes, step}
use Rattle.av1_make.proofs.Making.{makes_drawn, makes_nothing}
use Rattle.av1_make.proofs.blocks.add_turn.Goals as goal

pub returns-in_ok-add_step : goal.returns-in_ok-add_step
unfolding turned
returns-in_ok-add_step c =
    let is : is_directional c.args.mode ≡ true = sym c.is_directional.ensures ∙ c.if-is_directional.true in
    let Made : TileStep → Type 0 = λ s. Makes (step s) c.draw-number.new.self c.add_step.new.self in
    rw is (makes_drawn _ _ _ _ _ c.draw-number.ensures (subst Made c.turn_step.ensures c.in_ok-add_step.ensures))

pub returns-else-is_directional : goal.returns-else-is_directional
unfolding turned
returns-else-is_directional c =
    let not : is_directional c.args.mode ≡ false = sym c.is_directional.ensures ∙ c.if-is_directional.false in
    rw not (makes_nothing c.args.maker.now)
