use Rattle.std.proofs.Common.{◌≡◌, sym, subst}
use Rattle.av1_geometry.specs.declared.tx_size.TxSize.{TxSize}
use Rattle.av1_syntax.specs.TransformSizes.{entered_split, IsPlaced}
use Rattle.av1_step.proofs.Splitting.{some_undone}
use Rattle.av1_step.proofs.TransformArms.{block_placed, block_column}
use Rattle.av1_step.proofs.transform_steps.write_split.Goals as goal

pub write_tx_size_inter-requires-clause-inside : goal.write_tx_size_inter-requires-clause-inside
write_tx_size_inter-requires-clause-inside g c = λ e. record { column = c.requires.block.column; row = c.requires.block.row }

pub write_tx_size_inter-requires-clause-placed : goal.write_tx_size_inter-requires-clause-placed
write_tx_size_inter-requires-clause-placed g c = λ i. subst (λ (tx : TxSize). IsPlaced c.args.bo.0 tx) (sym c.tx_size-largest.ensures.value) (block_placed _ _ c.args.bo.0 c.args.size c.requires.block)

pub write_tx_size_inter-requires-clause-width : goal.write_tx_size_inter-requires-clause-width
write_tx_size_inter-requires-clause-width g c = c.requires.block.width

pub write_tx_size_inter-requires-clause-height : goal.write_tx_size_inter-requires-clause-height
write_tx_size_inter-requires-clause-height g c = c.requires.block.height

pub returns-in-Ok-clause-entered : goal.returns-in-Ok-clause-entered
returns-in-Ok-clause-entered g c =
    subst (λ (tx : TxSize). c.write_tx_size_inter.new.self.bc ≡ entered_split c.args.bo.0 c.args.size tx c.args.split c.args.cw.now.bc) c.tx_size-largest.ensures.value c.in-Ok.ensures.entered

pub returns-in-Err-clause-refused : goal.returns-in-Err-clause-refused
returns-in-Err-clause-refused g c =
    some_undone c.checkpoint-edges.result c.args.bo.0 c.args.size c.tx_size-largest.result c.args.split c.args.sampling c.args.cw.now.bc c.write_tx_size_inter.new.self.bc c.rollback.new.self c.requires.edges
    (block_column _ _ c.args.bo.0 c.args.size c.requires.few c.requires.block) c.checkpoint-edges.ensures c.tx_size-largest.ensures.value c.in-Err.ensures.refused c.rollback.ensures
