use Rattle.std.proofs.Common.{◌≡◌, ◌+◌, ◌*◌, ◌∙◌, nat_eq, ℤ, map, slice_index, unsigned_abs, refl, ap, subst, arith}
use Rattle.std.proofs.lemmas.List.{length-map}
use Rattle.av1_cdf.specs.Layout.{Slot}
use Rattle.av1_cdf.specs.Slots.{slot_of}
use Rattle.av1_coef.proofs.CodedSizes.{area_few}
use Rattle.av1_model.specs.Comes.{Writes, Begins}
use Rattle.av1_model.proofs.ComesLaws.{wrote_err}
use Rattle.av1_syntax.specs.Calls.{stands, coded_in, learnt_in}
use Rattle.av1_syntax.specs.Coefficients.{value_at, levels_at, sizes_from, signs_element}
use Rattle.av1_syntax.specs.Levels.{level_element, sign_by, cut_level}
use Rattle.av1_syntax.proofs.CoeffKnown.{long}
use Rattle.av1_syntax.proofs.CoeffLoops.{signs_start, signs_more, signs_refused, signs_done, total_more, total_all}
use Rattle.av1_syntax.proofs.CoeffSlots.{dc_sign_has}
use Rattle.av1_syntax.proofs.CoeffSteps.{inside, level_back}
use Rattle.av1_syntax.proofs.Moving.{moves_then, moves_none, moves_as}
use Rattle.av1_syntax.proofs.context_writer.ContextWriter.write_coeff_signs.Goals as goal

pub bounds-scan-c : goal.bounds-scan-c
bounds-scan-c g c =
    let values = map g.T.Coefficient.value c.args.coeffs.now in
    omega (arith, c.loop-c-test.true, long c.args.block.tx_size c.args.block.tx_class c.args.scan.now c.args.eob values c.requires.coded)

pub level_at-level-requires : goal.level_at-level-requires
level_at-level-requires g c =
    let values = map g.T.Coefficient.value c.args.coeffs.now in
    let in_area = inside c.args.block.tx_size c.args.block.tx_class c.args.scan.now c.args.eob values c.requires.coded c.args.block.plane_type c.loop-c.c c.loop-c-test.true in
    omega (arith, c.from.ensures, in_area, c.requires.coded.area, length-map c.args.coeffs.now g.T.Coefficient.value)

pub write_coeff_level-requires-clause-two : goal.write_coeff_level-requires-clause-two
write_coeff_level-requires-clause-two g c = ap (λ (s : Slot). s.len) c.dc_sign_cdf-cdf.ensures ∙ (dc_sign_has c.args.block.plane_type c.args.dc_sign_ctx c.requires.plane c.requires.context).1

pub loop-c-init : goal.loop-c-init
loop-c-init g c =
    let values = map g.T.Coefficient.value c.args.coeffs.now in
    let b = c.args.block in
    record {
      came = signs_start b.tx_size b.tx_class c.args.scan.now c.args.eob values c.requires.coded b.plane_type c.requires.plane c.args.dc_sign_ctx c.requires.context (stands g.W.Known c.args.w.now c.args.self.now);
      sum = refl;
      few = omega arith;
      moves = moves_none g.W.Known (832 * 0) _ _ _ c.requires.cdfs;
      rest = refl;
    }

pub write_coeff_level-requires-clause-small : goal.write_coeff_level-requires-clause-small
write_coeff_level-requires-clause-small g c =
    let values = map g.T.Coefficient.value c.args.coeffs.now in
    let back = level_back c.args.block.tx_size c.args.block.tx_class c.args.scan.now c.args.eob values c.requires.coded c.loop-c.c c.loop-c-test.true c.level_at-level.result c.from.result c.level_at-level.ensures c.from.ensures in
    rw back.0 back.1

pub write_coeff_level-requires-clause-shift : goal.write_coeff_level-requires-clause-shift
write_coeff_level-requires-clause-shift g c =
    omega (arith, c.loop-c.invariant.moves.near, c.requires.shift, c.loop-c-test.true, c.requires.coded.few, area_few c.args.block.tx_size)

pub overflow_add-total : goal.overflow_add-total
overflow_add-total g c =
    let values = map g.T.Coefficient.value c.args.coeffs.now in
    let back = level_back c.args.block.tx_size c.args.block.tx_class c.args.scan.now c.args.eob values c.requires.coded c.loop-c.c c.loop-c-test.true c.level_at-level.result c.from.result c.level_at-level.ensures c.from.ensures in
    let size : c.unsigned_abs-total.result ≡ unsigned_abs c.level_at-level.result = c.unsigned_abs-total.ensures.value ∙ ap unsigned_abs back.0 in
    record { fits = omega (arith, c.loop-c.invariant.few, back.1, size, c.loop-c-test.true, c.requires.coded.few, area_few c.args.block.tx_size) }

pub loop-c-preserved : goal.loop-c-preserved
loop-c-preserved g c =
    let values = map g.T.Coefficient.value c.args.coeffs.now in
    let b = c.args.block in
    let i = c.loop-c.invariant in
    let k = c.loop-c.c in
    let x = c.level_at-level.result in
    let old = stands g.W.Known c.args.w.now c.args.self.now in
    let mid = stands g.W.Known c.loop-c.w c.loop-c.self in
    let new = stands g.W.Known c.write_coeff_level.new.w c.write_coeff_level.new.self in
    let s = slot_of c.dc_sign_cdf-cdf.result in
    let back = level_back b.tx_size b.tx_class c.args.scan.now c.args.eob values c.requires.coded k c.loop-c-test.true x c.from.result c.level_at-level.ensures c.from.ensures in
    let is : x ≡ value_at values (slice_index c.args.scan.now k) = c.level_at-level.ensures ∙ ap (value_at values) c.from.ensures in
    let size : c.unsigned_abs-total.result ≡ unsigned_abs x = c.unsigned_abs-total.ensures.value ∙ ap unsigned_abs back.0 in
    let wrote = subst (λ (v : ℤ). Writes coded_in learnt_in (level_element (sign_by (nat_eq k 0) s) (cut_level v)).tree v mid new) {y = x} back.0 c.in_ok-write_coeff_level.ensures.wrote in
    let sum = total_more b.tx_size b.tx_class c.args.scan.now c.args.eob values c.requires.coded b.plane_type c.requires.plane k c.unsigned_abs-total.result x c.loop-c-test.true is size in
    record {
      came = signs_more b.tx_size b.tx_class c.args.scan.now c.args.eob values c.requires.coded b.plane_type c.requires.plane c.args.dc_sign_ctx c.requires.context k 0 c.loop-c-test.true s c.dc_sign_cdf-cdf.ensures x is old mid new i.came wrote;
      sum = ap (λ t. t + c.unsigned_abs-total.result) i.sum ∙ sum;
      few = omega (arith, i.few, size, back.1);
      moves = moves_then g.W.Known (832 * k) 832 (832 * (k + 1)) _ _ _ _ _ _ _ _ _ (omega arith) i.moves c.in_ok-write_coeff_level.ensures.moves;
      rest = c.write_coeff_level.ensures.rest ∙ i.rest;
    }

pub returns-in_err-write_coeff_level-clause-wrote : goal.returns-in_err-write_coeff_level-clause-wrote
returns-in_err-write_coeff_level-clause-wrote g c =
    let values = map g.T.Coefficient.value c.args.coeffs.now in
    let b = c.args.block in
    let i = c.loop-c.invariant in
    let k = c.loop-c.c in
    let x = c.level_at-level.result in
    let old = stands g.W.Known c.args.w.now c.args.self.now in
    let mid = stands g.W.Known c.loop-c.w c.loop-c.self in
    let new = stands g.W.Known c.write_coeff_level.new.w c.write_coeff_level.new.self in
    let s = slot_of c.dc_sign_cdf-cdf.result in
    let back = level_back b.tx_size b.tx_class c.args.scan.now c.args.eob values c.requires.coded k c.loop-c-test.true x c.from.result c.level_at-level.ensures c.from.ensures in
    let is : x ≡ value_at values (slice_index c.args.scan.now k) = c.level_at-level.ensures ∙ ap (value_at values) c.from.ensures in
    let begun = subst (λ (v : ℤ). Begins coded_in learnt_in (level_element (sign_by (nat_eq k 0) s) (cut_level v)).tree v mid new) {y = x} back.0 c.in_err-write_coeff_level.ensures.wrote in
    wrote_err coded_in learnt_in c.from_residual.result (signs_element b.plane_type c.args.dc_sign_ctx (sizes_from values c.args.scan.now c.args.eob 0)).tree (levels_at values c.args.scan.now c.args.eob) old new c.from_residual.ensures.0
    (signs_refused b.tx_size b.tx_class c.args.scan.now c.args.eob values c.requires.coded b.plane_type c.requires.plane c.args.dc_sign_ctx c.requires.context k 0 c.loop-c-test.true s c.dc_sign_cdf-cdf.ensures x is old mid new i.came begun)

pub returns-in_err-write_coeff_level-clause-moves : goal.returns-in_err-write_coeff_level-clause-moves
returns-in_err-write_coeff_level-clause-moves g c =
    moves_then g.W.Known (832 * c.loop-c.c) 832 (832 * 1024) _ _ _ _ _ _ _ _ _ (omega (arith, c.loop-c-test.true, c.requires.coded.few, area_few c.args.block.tx_size)) c.loop-c.invariant.moves c.in_err-write_coeff_level.ensures.moves

pub returns-clause-wrote : goal.returns-clause-wrote
returns-clause-wrote g c =
    let values = map g.T.Coefficient.value c.args.coeffs.now in
    let b = c.args.block in
    let old = stands g.W.Known c.args.w.now c.args.self.now in
    let new = stands g.W.Known c.loop-c.w c.loop-c.self in
    let end : c.loop-c.c ≡ c.args.eob = omega (arith, c.loop-c-test.false, c.loop-c.auto.c-end) in
    signs_done b.tx_size b.tx_class c.args.scan.now c.args.eob values c.requires.coded b.plane_type c.requires.plane c.args.dc_sign_ctx c.requires.context c.loop-c.c old new end c.loop-c.invariant.came

pub returns-clause-total : goal.returns-clause-total
returns-clause-total g c =
    let values = map g.T.Coefficient.value c.args.coeffs.now in
    let b = c.args.block in
    let end : c.loop-c.c ≡ c.args.eob = omega (arith, c.loop-c-test.false, c.loop-c.auto.c-end) in
    c.loop-c.invariant.sum ∙ total_all b.tx_size b.tx_class c.args.scan.now c.args.eob values c.requires.coded b.plane_type c.requires.plane c.loop-c.c end

pub returns-clause-moves : goal.returns-clause-moves
returns-clause-moves g c =
    let end : c.loop-c.c ≡ c.args.eob = omega (arith, c.loop-c-test.false, c.loop-c.auto.c-end) in
    moves_as g.W.Known (832 * c.loop-c.c) (832 * 1024) _ _ _ _ _ _ (omega (arith, end, c.requires.coded.few, area_few c.args.block.tx_size)) c.loop-c.invariant.moves
