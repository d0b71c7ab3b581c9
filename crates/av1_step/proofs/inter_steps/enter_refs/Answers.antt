use Rattle.std.proofs.Common.{[], ◌∷◌, sym, ap, subst, ◌∙◌}
use Rattle.av1_blocks.specs.declared.block.Block.{Block}
use Rattle.av1_blocks.specs.Grid.{Grid, IsInside, over}
use Rattle.av1_step.proofs.InterArms.{over_twice}
use Rattle.av1_step.proofs.inter_steps.enter_refs.Goals as goal

pub set_mode-requires : goal.set_mode-requires
set_mode-requires c = subst (λ (g : Grid). IsInside g c.args.bo.0) (sym c.set_ref_frames.ensures) (record { column = c.requires.column; row = c.requires.row })

pub returns : goal.returns
returns c =
    let bo = c.args.bo.0 in
    let enter = λ (x : Block). record x { mode = c.args.mode } in
    c.set_mode.ensures
    ∙ ap (λ (g : Grid). over bo c.args.size enter g) c.set_ref_frames.ensures
    ∙ over_twice bo c.args.size (λ (x : Block). record x { ref_frames = c.args.refs.0 ∷ c.args.refs.1 ∷ [] }) enter c.args.blocks.now
