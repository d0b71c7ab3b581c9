use Rattle.std.proofs.Common.{ℤ, List, subst}
use Rattle.std.specs.Prelude.{OnOk}
use Rattle.av1_step.specs.declared.step.TileStep.TheVariants.{Coeffs}
use Rattle.av1_make.specs.Blocks.{transform}
use Rattle.av1_make.specs.Draws.{Makes, step}
use Rattle.av1_make.proofs.Making.{then_all_drawn, then_drawn}
use Rattle.av1_make.proofs.blocks.add_transform.Goals as goal

pub returns : goal.returns
unfolding transform
returns c =
    let Made : List ℤ → Type 0 = λ levels. OnOk c.add_step.result (Makes (step (Coeffs c.args.plane c.args.x c.args.y c.args.tx_type levels)) c.draw_levels.new.maker c.add_step.new.self) in
    then_drawn _ _ _ _ _ _ c.draw.ensures
    (then_all_drawn _ _ _ _ _ _ c.draw_levels.ensures.items c.in_ok-levels.ensures.state (subst Made c.in_ok-levels.ensures.levels c.add_step.ensures))
