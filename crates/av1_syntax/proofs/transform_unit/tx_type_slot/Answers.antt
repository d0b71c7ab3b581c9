use Rattle.std.proofs.Common.{◌∙◌, length, ap}
use Rattle.av1_cdf.specs.Layout.{Slot}
use Rattle.av1_geometry.specs.TxTables.{coded_types}
use Rattle.av1_geometry.specs.declared.tx_type.TxSet.{TxSet}
use Rattle.av1_geometry.specs.declared.tx_type.TxSet.TheVariants.{TX_SET_INTER_3, TX_SET_INTRA_2, TX_SET_INTRA_1, TX_SET_INTER_2, TX_SET_INTER_1}
use Rattle.av1_syntax.proofs.TransformTypes.{slot_long}
use Rattle.av1_syntax.proofs.transform_unit.tx_type_slot.Goals as goal

pub returns-in-TX_SET_INTRA_1-clause-len : goal.returns-in-TX_SET_INTRA_1-clause-len
returns-in-TX_SET_INTRA_1-clause-len c =
    ap (λ (s : Slot). s.len) c.intra_tx_1_cdf.ensures ∙ slot_long TX_SET_INTRA_1 c.number-sqr.result c.number-mode.result ∙ ap (λ (set : TxSet). length (coded_types set)) c.in-TX_SET_INTRA_1.ensures

pub returns-in-TX_SET_INTRA_2-clause-len : goal.returns-in-TX_SET_INTRA_2-clause-len
returns-in-TX_SET_INTRA_2-clause-len c =
    ap (λ (s : Slot). s.len) c.intra_tx_2_cdf.ensures ∙ slot_long TX_SET_INTRA_2 c.number-sqr.result c.number-mode.result ∙ ap (λ (set : TxSet). length (coded_types set)) c.in-TX_SET_INTRA_2.ensures

pub returns-in-TX_SET_INTER_1-clause-len : goal.returns-in-TX_SET_INTER_1-clause-len
returns-in-TX_SET_INTER_1-clause-len c =
    ap (λ (s : Slot). s.len) c.inter_tx_1_cdf.ensures ∙ slot_long TX_SET_INTER_1 c.number-sqr.result c.number-mode.result ∙ ap (λ (set : TxSet). length (coded_types set)) c.in-TX_SET_INTER_1.ensures

pub returns-in-TX_SET_INTER_2-clause-len : goal.returns-in-TX_SET_INTER_2-clause-len
returns-in-TX_SET_INTER_2-clause-len c =
    ap (λ (s : Slot). s.len) c.inter_tx_2_cdf.ensures ∙ slot_long TX_SET_INTER_2 c.number-sqr.result c.number-mode.result ∙ ap (λ (set : TxSet). length (coded_types set)) c.in-TX_SET_INTER_2.ensures

pub returns-in-TX_SET_INTER_3-clause-len : goal.returns-in-TX_SET_INTER_3-clause-len
returns-in-TX_SET_INTER_3-clause-len c =
    ap (λ (s : Slot). s.len) c.inter_tx_3_cdf.ensures ∙ slot_long TX_SET_INTER_3 c.number-sqr.result c.number-mode.result ∙ ap (λ (set : TxSet). length (coded_types set)) c.in-TX_SET_INTER_3.ensures
