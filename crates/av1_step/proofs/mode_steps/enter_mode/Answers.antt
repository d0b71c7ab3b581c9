use Rattle.std.proofs.Common.{ap, ◌∙◌}
use Rattle.av1_blocks.specs.declared.block.Block.{Block}
use Rattle.av1_blocks.specs.Grid.{Grid, over}
use Rattle.av1_step.proofs.ModeArms.{over_both}
use Rattle.av1_step.proofs.mode_steps.enter_mode.Goals as goal

pub returns : goal.returns
returns c =
    let bo = c.args.bo.0 in
    let size = c.args.size in
    let f = λ (x : Block). record x { mode = c.args.mode } in
    let h = λ (x : Block). record x { mv = c.args.mvs } in
    c.set_motion_vectors.ensures ∙ ap (λ (g : Grid). over bo size h g) c.set_mode.ensures ∙ over_both bo size f h c.args.blocks.now
