use Rattle.std.proofs.Common.{true, false, subst}
use Rattle.std.specs.Prelude.{OnOk, ◌%◌, ◌==◌}
use Rattle.av1_geometry.specs.declared.prediction_mode.PredictionMode.{PredictionMode}
use Rattle.av1_make.specs.Blocks.{block, predicted, transforms}
use Rattle.av1_make.specs.Draws.{Makes}
use Rattle.av1_make.proofs.Making.{then_drawn, then_makes}
use Rattle.av1_make.proofs.blocks.add_block.Goals as goal

pub returns : goal.returns
unfolding block
returns c =
    let skip = c.draw.result % 4 == 0 in
    let Luma : PredictionMode → Type 0 = λ m. Makes (predicted false m) c.draw-2.new.self c.add_mode.new.maker in
    let Chroma : PredictionMode → Type 0 = λ m. Makes (predicted true m) c.draw-3.new.self c.add_mode-2.new.maker in
    let Rest : PredictionMode → Type 0 = λ m. OnOk c.add_transforms.result (Makes (transforms c.args.x c.args.y c.args.size skip m) c.add_mode-2.new.maker c.add_transforms.new.maker) in
    then_makes _ _ _ _ _ _ c.in_ok-add_step.ensures
    (then_drawn _ _ _ _ _ _ c.draw.ensures
    (then_makes _ _ _ _ _ _ c.in_ok-add_step-2.ensures
    (then_drawn _ _ _ _ _ _ c.draw-2.ensures
    (then_makes _ _ _ _ _ _ (subst Luma c.mode_of-luma.ensures.value c.in_ok-add_mode.ensures)
    (then_drawn _ _ _ _ _ _ c.draw-3.ensures
    (then_makes _ _ _ _ _ _ (subst Chroma c.mode_of-chroma.ensures.value c.in_ok-add_mode-2.ensures)
    (subst Rest c.mode_of-chroma.ensures.value c.add_transforms.ensures)))))))
