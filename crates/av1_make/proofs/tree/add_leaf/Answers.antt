use Rattle.std.proofs.Common.{subst}
use Rattle.std.specs.Prelude.{OnOk}
use Rattle.av1_geometry.specs.declared.block_size.BlockSize.{BlockSize}
use Rattle.av1_geometry.specs.declared.partition_type.PartitionType.TheVariants.{PARTITION_NONE}
use Rattle.av1_step.specs.declared.step.TileStep.TheVariants.{Partition}
use Rattle.av1_make.specs.Blocks.{block}
use Rattle.av1_make.specs.Draws.{Makes, step}
use Rattle.av1_make.specs.Tree.{leaf}
use Rattle.av1_make.proofs.Making.{then_makes}
use Rattle.av1_make.proofs.tree.add_leaf.Goals as goal

pub returns : goal.returns
unfolding leaf
returns c =
    let First : BlockSize → Type 0 = λ s. Makes (step (Partition c.args.x c.args.y s PARTITION_NONE)) c.args.maker.now c.add_step.new.self in
    let Rest : BlockSize → Type 0 = λ s. OnOk c.add_block.result (Makes (block c.args.x c.args.y s) c.add_step.new.self c.add_block.new.maker) in
    then_makes _ _ _ _ _ _ (subst First c.square-size.ensures c.in_ok-add_step.ensures) (subst Rest c.square-size.ensures c.add_block.ensures)
