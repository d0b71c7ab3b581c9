use Rattle.std.proofs.Common.{◌∙◌, ap}
use Rattle.av1_geometry.specs.TxTables.{index_in}
use Rattle.av1_geometry.specs.declared.tx_type.TxSet.{TxSet}
use Rattle.av1_syntax.proofs.TransformTypes.{type_wrote}
use Rattle.av1_syntax.proofs.context_writer.ContextWriter.tx_type.Goals as goal

pub returns-in-Some-clause-wrote : goal.returns-in-Some-clause-wrote
returns-in-Some-clause-wrote g c =
    type_wrote c.symbol.result c.args.tx_size c.args.y_mode c.args.is_inter c.args.use_reduced_tx_set c.args.tx_type c.index_of-s.result _ _ _ c.requires.used c.in-Some.ensures.is
    (c.index_of-s.ensures ∙ ap (λ (set : TxSet). index_in set c.args.tx_type) c.get_tx_set.ensures) c.symbol.ensures.ok c.symbol.ensures.err
