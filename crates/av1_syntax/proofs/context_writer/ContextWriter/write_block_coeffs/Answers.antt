use Rattle.std.proofs.Common.{◌*◌, map, subst, arith}
use Rattle.av1_model.specs.Comes.{Wrote}
use Rattle.av1_model.proofs.ComesLaws.{wrote_err}
use Rattle.av1_syntax.specs.Calls.{stands, coded_in, learnt_in}
use Rattle.av1_syntax.specs.Coefficients.{levels_at, sizes_from, signs_element, block_element}
use Rattle.av1_syntax.proofs.CoeffBlocks.{ends_refused, block_sizes_refused, block_wrote}
use Rattle.av1_syntax.proofs.Moving.{moves_then}
use Rattle.av1_syntax.proofs.context_writer.ContextWriter.write_block_coeffs.Goals as goal

pub returns-in_err-write_eob-clause-wrote : goal.returns-in_err-write_eob-clause-wrote
returns-in_err-write_eob-clause-wrote g c =
    let values = map g.T.Coefficient.value c.args.coeffs.now in
    let b = c.args.block in
    let old = stands g.W.Known c.args.w.now c.args.self.now in
    let new = stands g.W.Known c.write_eob.new.w c.write_eob.new.self in
    wrote_err coded_in learnt_in c.from_residual.result (block_element c.args.self.now.eob_by_coded b.tx_size b.plane_type c.args.dc_sign_ctx b.tx_class c.args.scan.now).tree (levels_at values c.args.scan.now c.args.eob) old new c.from_residual.ensures.0
    (ends_refused c.args.self.now.eob_by_coded b.tx_size b.tx_class c.args.scan.now c.args.eob values c.requires.coded b.plane_type c.args.dc_sign_ctx c.requires.plane c.requires.context old new c.in_err-write_eob.ensures.wrote)

pub returns-in_err-write_block_sizes-clause-wrote : goal.returns-in_err-write_block_sizes-clause-wrote
returns-in_err-write_block_sizes-clause-wrote g c =
    let values = map g.T.Coefficient.value c.args.coeffs.now in
    let b = c.args.block in
    let old = stands g.W.Known c.args.w.now c.args.self.now in
    let mid = stands g.W.Known c.write_eob.new.w c.write_eob.new.self in
    let new = stands g.W.Known c.write_block_sizes.new.w c.write_block_sizes.new.self in
    wrote_err coded_in learnt_in c.from_residual-in_err-write_block_sizes.result (block_element c.args.self.now.eob_by_coded b.tx_size b.plane_type c.args.dc_sign_ctx b.tx_class c.args.scan.now).tree (levels_at values c.args.scan.now c.args.eob) old new
    c.from_residual-in_err-write_block_sizes.ensures.0
    (block_sizes_refused c.args.self.now.eob_by_coded b.tx_size b.tx_class c.args.scan.now c.args.eob values c.requires.coded b.plane_type c.args.dc_sign_ctx c.requires.plane c.requires.context old mid new c.in_ok-write_eob.ensures.wrote c.in_err-write_block_sizes.ensures.wrote)

pub returns-clause-wrote : goal.returns-clause-wrote
returns-clause-wrote g c =
    let values = map g.T.Coefficient.value c.args.coeffs.now in
    let b = c.args.block in
    let old = stands g.W.Known c.args.w.now c.args.self.now in
    let mid = stands g.W.Known c.write_eob.new.w c.write_eob.new.self in
    let late = stands g.W.Known c.write_block_sizes.new.w c.write_block_sizes.new.self in
    let new = stands g.W.Known c.write_coeff_signs.new.w c.write_coeff_signs.new.self in
    block_wrote c.args.self.now.eob_by_coded b.tx_size b.tx_class c.args.scan.now c.args.eob values c.requires.coded b.plane_type c.args.dc_sign_ctx c.requires.plane c.requires.context c.write_coeff_signs.result old mid late new c.in_ok-write_eob.ensures.wrote
    c.in_ok-write_block_sizes.ensures.wrote
    (subst (λ n. Wrote coded_in learnt_in c.write_coeff_signs.result (signs_element b.plane_type c.args.dc_sign_ctx (sizes_from values c.args.scan.now n 0)).tree (levels_at values c.args.scan.now n) late new) {y = c.args.eob} c.from.ensures c.write_coeff_signs.ensures.wrote)

pub returns-in_err-write_block_sizes-clause-moves : goal.returns-in_err-write_block_sizes-clause-moves
returns-in_err-write_block_sizes-clause-moves g c = moves_then g.W.Known 130 (65 * 1024) 918658 _ _ _ _ _ _ _ _ _ (omega arith) c.in_ok-write_eob.ensures.moves c.in_err-write_block_sizes.ensures.moves

pub returns-clause-moves : goal.returns-clause-moves
returns-clause-moves g c =
    moves_then g.W.Known 66690 (832 * 1024) 918658 _ _ _ _ _ _ _ _ _ (omega arith) (moves_then g.W.Known 130 (65 * 1024) 66690 _ _ _ _ _ _ _ _ _ (omega arith) c.in_ok-write_eob.ensures.moves c.in_ok-write_block_sizes.ensures.moves)
    c.write_coeff_signs.ensures.moves
