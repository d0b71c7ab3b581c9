use Rattle.std.proofs.Common.{◌-◌, ◌*◌, ◌∙◌, map, refl, arith}
use Rattle.av1_coef.proofs.CodedSizes.{area_few}
use Rattle.av1_model.proofs.ComesLaws.{wrote_err}
use Rattle.av1_syntax.specs.Calls.{stands, coded_in, learnt_in}
use Rattle.av1_syntax.specs.Coefficients.{sizes_element, sizes_from}
use Rattle.av1_syntax.proofs.CoeffLoops.{sizes_start, sizes_more, sizes_refused, sizes_done}
use Rattle.av1_syntax.proofs.Moving.{moves_then, moves_none, moves_as}
use Rattle.av1_syntax.proofs.context_writer.ContextWriter.write_coeff_sizes.Goals as goal

pub loop-left-init : goal.loop-left-init
loop-left-init g c =
    let values = map g.T.Coefficient.value c.args.coeffs.now in
    let b = c.args.block in
    record {
      most = omega arith;
      came = sizes_start b.tx_size b.tx_class c.args.scan.now c.args.eob values c.requires.coded b.plane_type c.requires.plane (stands g.W.Known c.args.w.now c.args.self.now);
      moves = moves_none g.W.Known (65 * (c.args.eob - c.args.eob)) _ _ _ c.requires.cdfs;
      rest = refl;
    }

pub loop-left-preserved : goal.loop-left-preserved
loop-left-preserved g c =
    let values = map g.T.Coefficient.value c.args.coeffs.now in
    let b = c.args.block in
    let i = c.loop-left.invariant in
    let left = c.loop-left.left in
    let old = stands g.W.Known c.args.w.now c.args.self.now in
    let mid = stands g.W.Known c.loop-left.w c.loop-left.self in
    let new = stands g.W.Known c.write_coeff_at.new.w c.write_coeff_at.new.self in
    record {
      most = omega (arith, i.most);
      came = sizes_more b.tx_size b.tx_class c.args.scan.now c.args.eob values c.requires.coded b.plane_type c.requires.plane left c.loop-left-test.true i.most old mid new i.came c.in_ok-write_coeff_at.ensures.wrote;
      moves = moves_then g.W.Known (65 * (c.args.eob - left)) 65 (65 * (c.args.eob - (left - 1))) _ _ _ _ _ _ _ _ _ (omega (arith, i.most, c.loop-left-test.true)) i.moves c.in_ok-write_coeff_at.ensures.moves;
      rest = c.write_coeff_at.ensures.rest ∙ i.rest;
    }

pub returns-in_err-write_coeff_at-clause-wrote : goal.returns-in_err-write_coeff_at-clause-wrote
returns-in_err-write_coeff_at-clause-wrote g c =
    let values = map g.T.Coefficient.value c.args.coeffs.now in
    let b = c.args.block in
    let i = c.loop-left.invariant in
    let old = stands g.W.Known c.args.w.now c.args.self.now in
    let mid = stands g.W.Known c.loop-left.w c.loop-left.self in
    let new = stands g.W.Known c.write_coeff_at.new.w c.write_coeff_at.new.self in
    wrote_err coded_in learnt_in c.from_residual.result (sizes_element b.tx_size b.plane_type b.tx_class c.args.scan.now c.args.eob).tree (sizes_from values c.args.scan.now c.args.eob 0) old new c.from_residual.ensures.0
    (sizes_refused b.tx_size b.tx_class c.args.scan.now c.args.eob values c.requires.coded b.plane_type c.requires.plane c.loop-left.left c.loop-left-test.true i.most old mid new i.came c.in_err-write_coeff_at.ensures.wrote)

pub returns-in_err-write_coeff_at-clause-moves : goal.returns-in_err-write_coeff_at-clause-moves
returns-in_err-write_coeff_at-clause-moves g c =
    let i = c.loop-left.invariant in
    moves_then g.W.Known (65 * (c.args.eob - c.loop-left.left)) 65 (65 * 1024) _ _ _ _ _ _ _ _ _ (omega (arith, i.most, c.loop-left-test.true, c.requires.coded.few, area_few c.args.block.tx_size)) i.moves c.in_err-write_coeff_at.ensures.moves

pub returns-clause-wrote : goal.returns-clause-wrote
returns-clause-wrote g c =
    let values = map g.T.Coefficient.value c.args.coeffs.now in
    let b = c.args.block in
    let old = stands g.W.Known c.args.w.now c.args.self.now in
    let new = stands g.W.Known c.loop-left.w c.loop-left.self in
    sizes_done b.tx_size b.tx_class c.args.scan.now c.args.eob values c.requires.coded b.plane_type c.requires.plane c.loop-left.left old new (omega (arith, c.loop-left-test.false)) c.loop-left.invariant.came

pub returns-clause-moves : goal.returns-clause-moves
returns-clause-moves g c =
    moves_as g.W.Known (65 * (c.args.eob - c.loop-left.left)) (65 * 1024) _ _ _ _ _ _ (omega (arith, c.requires.coded.few, area_few c.args.block.tx_size)) c.loop-left.invariant.moves
