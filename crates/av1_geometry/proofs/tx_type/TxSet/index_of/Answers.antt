use Rattle.std.proofs.Common.{ap, ◌∙◌, get_or, []}
use Rattle.av1_geometry.specs.declared.tx_tables.TheConstants.{av1_tx_ind}
use Rattle.av1_geometry.specs.TxType.{tx_set_number}
use Rattle.av1_geometry.proofs.TxTables.{index_in_set}
use Rattle.av1_geometry.proofs.tx_type.TxSet.index_of.Goals as goal

pub returns : goal.returns
returns c =
    ap (λ i. get_or (get_or av1_tx_ind i []) c.number-2.result 0) c.number.ensures.value
    ∙ ap (λ j. get_or (get_or av1_tx_ind (tx_set_number c.args.self) []) j 0) c.number-2.ensures.value
    ∙ index_in_set c.args.self c.args.tx_type [] 0
