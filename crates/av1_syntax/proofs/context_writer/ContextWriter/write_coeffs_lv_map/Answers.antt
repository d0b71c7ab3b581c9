use Rattle.std.proofs.Common.{List, ℤ, map, subst}
use Rattle.av1_blocks.specs.declared.coefficients.TXB_CTX.{TXB_CTX}
use Rattle.av1_geometry.specs.declared.tx_type.TxType.{TxType}
use Rattle.av1_cdf.specs.Distribution.{Distribution}
use Rattle.av1_model.specs.Element.{Element}
use Rattle.av1_model.specs.Comes.{Writes, Wrote}
use Rattle.av1_model.proofs.ComesLaws.{wrote_err}
use Rattle.av1_syntax.specs.Calls.{stands, coded_in, learnt_in}
use Rattle.av1_syntax.specs.Coefficients.{levels_at, coeffs_element}
use Rattle.av1_syntax.proofs.context_writer.ContextWriter.write_coeffs_lv_map.Goals as goal

pub returns-in_err-entry-clause-wrote : goal.returns-in_err-entry-clause-wrote
returns-in_err-entry-clause-wrote g c scans is =
    let a = c.args in
    let value : TxType × List ℤ = (a.tx_type, levels_at (map g.T.Coefficient.value a.coeffs_in.now) a.scan.now a.eob) in
    let element : TXB_CTX → Element Distribution (TxType × List ℤ) = λ x. coeffs_element a.self.now.eob_by_coded a.plane a.tx_size a.pred_mode a.use_reduced_tx_set a.tx_type x scans in
    let old = stands g.W.Known a.w.now a.self.now in
    let new = stands g.W.Known c.code_coeffs.new.w c.code_coeffs.new.self in
    subst (λ (x : TXB_CTX). Wrote coded_in learnt_in c.from_residual.result (element x).tree value old new) c.get_txb_ctx-txb_ctx.ensures.value
    (wrote_err coded_in learnt_in c.from_residual.result (element c.get_txb_ctx-txb_ctx.result).tree value old new c.from_residual.ensures.0 (c.in_err-entry.ensures.wrote scans is))

pub returns-clause-wrote : goal.returns-clause-wrote
returns-clause-wrote g c scans is =
    let a = c.args in
    let value : TxType × List ℤ = (a.tx_type, levels_at (map g.T.Coefficient.value a.coeffs_in.now) a.scan.now a.eob) in
    let element : TXB_CTX → Element Distribution (TxType × List ℤ) = λ x. coeffs_element a.self.now.eob_by_coded a.plane a.tx_size a.pred_mode a.use_reduced_tx_set a.tx_type x scans in
    let old = stands g.W.Known a.w.now a.self.now in
    let new = stands g.W.Known c.code_coeffs.new.w c.code_coeffs.new.self in
    subst (λ (x : TXB_CTX). Writes coded_in learnt_in (element x).tree value old new) c.get_txb_ctx-txb_ctx.ensures.value (c.in_ok-entry.ensures.wrote scans is)
