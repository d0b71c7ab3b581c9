use Rattle.std.proofs.Common.{◌≡◌, ◌<◌, ◌≤◌, ◌^◌, ◌∙◌, ℕ, List, length, map, min, slice_index, unsigned_abs, Ok, Err, sym, ap, subst, arith}
use Rattle.std.specs.List.{sum_by}
use Rattle.std.proofs.lemmas.List.{length-map}
use Rattle.av1_blocks.specs.Coefficients.{with_dc_sign}
use Rattle.av1_cdf.specs.Distribution.Distribution.{Adaptive}
use Rattle.av1_cdf.specs.Slots.{slot_of}
use Rattle.av1_geometry.specs.TxTables.{class_of}
use Rattle.av1_model.specs.Comes.{Writes, Begins, Wrote}
use Rattle.av1_model.proofs.ComesLaws.{wrote_err}
use Rattle.av1_syntax.specs.Calls.{stands, coded_in, learnt_in}
use Rattle.av1_syntax.specs.Coefficients.{value_at, levels_at, block_element, coeffs_element}
use Rattle.av1_syntax.proofs.CoeffKnown.{long}
use Rattle.av1_syntax.proofs.CoeffSteps.{inside, level_back}
use Rattle.av1_syntax.proofs.CoeffWhole.{flag_refused, call_none, call_type_refused, call_wrote, all_zero_is, entry_is}
use Rattle.av1_syntax.proofs.Moving.{moves_then}
use Rattle.av1_syntax.proofs.context_writer.ContextWriter.code_coeffs.Goals as goal

pub returns-in_err-flag-clause-wrote : goal.returns-in_err-flag-clause-wrote
returns-in_err-flag-clause-wrote g c scans is =
    let a = c.args in
    let values = map g.T.Coefficient.value a.coeffs.now in
    let contexts = a.txb_ctx in
    let q = Adaptive (slot_of c.txb_skip_cdf-all_zero.result) in
    let flag_is = all_zero_is a.tx_size c.get_txsize_entropy_ctx.result contexts.txb_skip_ctx (slot_of c.txb_skip_cdf-all_zero.result) c.txb_skip_cdf-all_zero.ensures c.get_txsize_entropy_ctx.ensures.value in
    let old = stands g.W.Known a.w.now a.self.now in
    let new = stands g.W.Known c.flag.new.w c.flag.new.self in
    (wrote_err coded_in learnt_in c.from_residual.result (coeffs_element a.self.now.eob_by_coded a.plane a.tx_size a.pred_mode a.use_reduced_tx_set a.tx_type contexts scans).tree (a.tx_type, levels_at values a.scan.now a.eob) old new c.from_residual.ensures.0
    (flag_refused a.self.now.eob_by_coded a.plane a.tx_size a.pred_mode a.use_reduced_tx_set a.tx_type contexts a.scan.now a.eob values c.requires.coded c.requires.typed c.requires.mode c.requires.few_skips c.requires.few_signs scans is q flag_is old new c.in_err-flag.ensures.wrote))

pub returns-then-eob-eq0-clause-wrote : goal.returns-then-eob-eq0-clause-wrote
returns-then-eob-eq0-clause-wrote g c scans is =
    let a = c.args in
    let values = map g.T.Coefficient.value a.coeffs.now in
    let contexts = a.txb_ctx in
    let q = Adaptive (slot_of c.txb_skip_cdf-all_zero.result) in
    let flag_is = all_zero_is a.tx_size c.get_txsize_entropy_ctx.result contexts.txb_skip_ctx (slot_of c.txb_skip_cdf-all_zero.result) c.txb_skip_cdf-all_zero.ensures c.get_txsize_entropy_ctx.ensures.value in
    let old = stands g.W.Known a.w.now a.self.now in
    let new = stands g.W.Known c.flag.new.w c.flag.new.self in
    call_none a.self.now.eob_by_coded a.plane a.tx_size a.pred_mode a.use_reduced_tx_set a.tx_type contexts a.scan.now a.eob values c.requires.coded c.requires.typed c.requires.mode c.requires.few_skips c.requires.few_signs scans is q flag_is old new c.if-eob-eq0.true c.in_ok-flag.ensures.wrote

pub returns-in_err-write_type_of_plane-clause-wrote : goal.returns-in_err-write_type_of_plane-clause-wrote
returns-in_err-write_type_of_plane-clause-wrote g c scans is =
    let a = c.args in
    let values = map g.T.Coefficient.value a.coeffs.now in
    let contexts = a.txb_ctx in
    let q = Adaptive (slot_of c.txb_skip_cdf-all_zero.result) in
    let flag_is = all_zero_is a.tx_size c.get_txsize_entropy_ctx.result contexts.txb_skip_ctx (slot_of c.txb_skip_cdf-all_zero.result) c.txb_skip_cdf-all_zero.ensures c.get_txsize_entropy_ctx.ensures.value in
    let old = stands g.W.Known a.w.now a.self.now in
    let mid = stands g.W.Known c.flag.new.w c.flag.new.self in
    let new = stands g.W.Known c.write_type_of_plane.new.w c.write_type_of_plane.new.self in
    let some : 1 ≤ a.eob = omega (arith, c.if-eob-eq0.false) in
    (wrote_err coded_in learnt_in c.from_residual-in_err-write_type_of_plane.result (coeffs_element a.self.now.eob_by_coded a.plane a.tx_size a.pred_mode a.use_reduced_tx_set a.tx_type contexts scans).tree (a.tx_type, levels_at values a.scan.now a.eob) old new c.from_residual-in_err-write_type_of_plane.ensures.0
    (call_type_refused a.self.now.eob_by_coded a.plane a.tx_size a.pred_mode a.use_reduced_tx_set a.tx_type contexts a.scan.now a.eob values c.requires.coded c.requires.typed c.requires.mode c.requires.few_skips c.requires.few_signs scans is q flag_is old mid new some c.in_ok-flag.ensures.wrote c.in_err-write_type_of_plane.ensures.wrote))

pub returns-in_err-write_type_of_plane-clause-moves : goal.returns-in_err-write_type_of_plane-clause-moves
returns-in_err-write_type_of_plane-clause-moves g c = moves_then g.W.Known 13 13 (2 ^ 20) _ _ _ _ _ _ _ _ _ (omega arith) c.in_ok-flag.ensures.moves c.in_err-write_type_of_plane.ensures.moves

pub returns-in_err-total-clause-wrote : goal.returns-in_err-total-clause-wrote
returns-in_err-total-clause-wrote g c scans is =
    let a = c.args in
    let values = map g.T.Coefficient.value a.coeffs.now in
    let contexts = a.txb_ctx in
    let q = Adaptive (slot_of c.txb_skip_cdf-all_zero.result) in
    let flag_is = all_zero_is a.tx_size c.get_txsize_entropy_ctx.result contexts.txb_skip_ctx (slot_of c.txb_skip_cdf-all_zero.result) c.txb_skip_cdf-all_zero.ensures c.get_txsize_entropy_ctx.ensures.value in
    let old = stands g.W.Known a.w.now a.self.now in
    let mid = stands g.W.Known c.flag.new.w c.flag.new.self in
    let late = stands g.W.Known c.write_type_of_plane.new.w c.write_type_of_plane.new.self in
    let new = stands g.W.Known c.write_block_coeffs.new.w c.write_block_coeffs.new.self in
    let positions : c.as_slice-positions.result.now ≡ a.scan.now = c.as_slice-positions.ensures.value ∙ c.scan.view_is in
    let some : 1 ≤ a.eob = omega (arith, c.if-eob-eq0.false) in
    (wrote_err coded_in learnt_in c.from_residual-in_err-total.result (coeffs_element a.self.now.eob_by_coded a.plane a.tx_size a.pred_mode a.use_reduced_tx_set a.tx_type contexts scans).tree (a.tx_type, levels_at values a.scan.now a.eob) old new c.from_residual-in_err-total.ensures.0
    (call_wrote a.self.now.eob_by_coded a.plane a.tx_size a.pred_mode a.use_reduced_tx_set a.tx_type contexts a.scan.now a.eob values c.requires.coded c.requires.typed c.requires.mode c.requires.few_skips c.requires.few_signs scans is q flag_is {U = ℕ} {E = Unit {0}} (Err tt) c.plane_type.result c.class.result old mid late new (c.write_type_of_plane.ensures.moves.eob_by_coded ∙ c.flag.ensures.moves.eob_by_coded) some c.plane_type.ensures.value c.class.ensures c.in_ok-flag.ensures.wrote c.in_ok-write_type_of_plane.ensures.wrote
    (subst (λ (s : List ℕ). Begins coded_in learnt_in (block_element c.write_type_of_plane.new.self.eob_by_coded a.tx_size c.plane_type.result contexts.dc_sign_ctx c.class.result s).tree (levels_at values s a.eob) late new) {y = a.scan.now} positions c.in_err-total.ensures.wrote)))

pub returns-in_err-total-clause-moves : goal.returns-in_err-total-clause-moves
returns-in_err-total-clause-moves g c =
    moves_then g.W.Known 26 918658 (2 ^ 20) _ _ _ _ _ _ _ _ _ (omega arith) (moves_then g.W.Known 13 13 26 _ _ _ _ _ _ _ _ _ (omega arith) c.in_ok-flag.ensures.moves c.in_ok-write_type_of_plane.ensures.moves) c.in_err-total.ensures.moves

pub returns-clause-moves : goal.returns-clause-moves
returns-clause-moves g c =
    moves_then g.W.Known 26 918658 (2 ^ 20) _ _ _ _ _ _ _ _ _ (omega arith) (moves_then g.W.Known 13 13 26 _ _ _ _ _ _ _ _ _ (omega arith) c.in_ok-flag.ensures.moves c.in_ok-write_type_of_plane.ensures.moves) c.in_ok-total.ensures.moves

pub returns-clause-wrote : goal.returns-clause-wrote
returns-clause-wrote g c scans is =
    let a = c.args in
    let values = map g.T.Coefficient.value a.coeffs.now in
    let contexts = a.txb_ctx in
    let q = Adaptive (slot_of c.txb_skip_cdf-all_zero.result) in
    let flag_is = all_zero_is a.tx_size c.get_txsize_entropy_ctx.result contexts.txb_skip_ctx (slot_of c.txb_skip_cdf-all_zero.result) c.txb_skip_cdf-all_zero.ensures c.get_txsize_entropy_ctx.ensures.value in
    let old = stands g.W.Known a.w.now a.self.now in
    let mid = stands g.W.Known c.flag.new.w c.flag.new.self in
    let late = stands g.W.Known c.write_type_of_plane.new.w c.write_type_of_plane.new.self in
    let new = stands g.W.Known c.write_block_coeffs.new.w c.write_block_coeffs.new.self in
    let positions : c.as_slice-positions.result.now ≡ a.scan.now = c.as_slice-positions.ensures.value ∙ c.scan.view_is in
    let some : 1 ≤ a.eob = omega (arith, c.if-eob-eq0.false) in
    (call_wrote a.self.now.eob_by_coded a.plane a.tx_size a.pred_mode a.use_reduced_tx_set a.tx_type contexts a.scan.now a.eob values c.requires.coded c.requires.typed c.requires.mode c.requires.few_skips c.requires.few_signs scans is q flag_is {U = ℕ} {E = Unit {0}} (Ok 0) c.plane_type.result c.class.result old mid late new (c.write_type_of_plane.ensures.moves.eob_by_coded ∙ c.flag.ensures.moves.eob_by_coded) some c.plane_type.ensures.value c.class.ensures c.in_ok-flag.ensures.wrote c.in_ok-write_type_of_plane.ensures.wrote
    (subst (λ (s : List ℕ). Writes coded_in learnt_in (block_element c.write_type_of_plane.new.self.eob_by_coded a.tx_size c.plane_type.result contexts.dc_sign_ctx c.class.result s).tree (levels_at values s a.eob) late new) {y = a.scan.now} positions c.in_ok-total.ensures.wrote))

pub first_level-requires-clause-some : goal.first_level-requires-clause-some
first_level-requires-clause-some g c =
    let a = c.args in
    let values = map g.T.Coefficient.value a.coeffs.now in
    let positions : c.as_slice-positions.result.now ≡ a.scan.now = c.as_slice-positions.ensures.value ∙ c.scan.view_is in
    let some : 0 < length a.scan.now = (let n = long a.tx_size (class_of a.tx_type) a.scan.now a.eob values c.requires.coded in omega (arith, n, c.if-eob-eq0.false)) in
    subst (λ (s : List ℕ). 0 < length s) (sym positions) some

pub first_level-requires-clause-place : goal.first_level-requires-clause-place
first_level-requires-clause-place g c =
    let a = c.args in
    let values = map g.T.Coefficient.value a.coeffs.now in
    let positions : c.as_slice-positions.result.now ≡ a.scan.now = c.as_slice-positions.ensures.value ∙ c.scan.view_is in
    let first = inside a.tx_size (class_of a.tx_type) a.scan.now a.eob values c.requires.coded 0 0 (omega (arith, c.if-eob-eq0.false)) in
    let within : slice_index a.scan.now 0 < length a.coeffs.now = omega (arith, first, c.requires.coded.area, length-map a.coeffs.now g.T.Coefficient.value) in
    subst (λ (s : List ℕ). slice_index s 0 < length a.coeffs.now) (sym positions) within

pub returns-clause-entry : goal.returns-clause-entry
returns-clause-entry g c =
    let a = c.args in
    let size = a.tx_size in
    let class = class_of a.tx_type in
    let values = map g.T.Coefficient.value a.coeffs.now in
    let positions : c.as_slice-positions.result.now ≡ a.scan.now = c.as_slice-positions.ensures.value ∙ c.scan.view_is in
    let some : 1 ≤ a.eob = omega (arith, c.if-eob-eq0.false) in
    let first : c.first_level.result ≡ value_at values (slice_index a.scan.now 0) = c.first_level.ensures ∙ ap (λ (s : List ℕ). value_at values (slice_index s 0)) positions in
    let back = (level_back size class a.scan.now a.eob values c.requires.coded 0 some c.first_level.result (slice_index a.scan.now 0) first (λ i. slice_index a.scan.now 0)).0 in
    let total = c.in_ok-total.ensures.total ∙ ap (λ (s : List ℕ). sum_by unsigned_abs (levels_at values s a.eob)) positions in
    c.entry_of.ensures ∙ ap (with_dc_sign (min 63 c.in_ok-total.total)) back ∙ entry_is size class a.scan.now a.eob values c.requires.coded some c.in_ok-total.total c.first_level.result total first
