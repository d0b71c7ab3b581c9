use Rattle.std.proofs.Common.{List, ℕ, ap, ◌∙◌}
use Rattle.av1_blocks.specs.declared.block.Block.{Block}
use Rattle.av1_blocks.specs.Grid.{Grid, over}
use Rattle.av1_geometry.specs.declared.block_size.BlockSize.TheVariants.{BLOCK_4X4}
use Rattle.av1_mvref.specs.References.{counts}
use Rattle.av1_step.proofs.inter_steps.note_counts.Goals as goal

pub returns : goal.returns
returns c =
    let bo = c.args.bo.0 in
    let counted = c.ref_counts-counts.ensures ∙ ap (λ (g : Grid). counts g bo) c.as_const.ensures in
    c.set_neighbors_ref_counts.ensures ∙ ap (λ (l : List ℕ). over bo BLOCK_4X4 (λ (x : Block). record x { neighbors_ref_counts = l }) c.args.blocks.now) counted
