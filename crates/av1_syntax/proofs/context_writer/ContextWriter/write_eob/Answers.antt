use Rattle.std.proofs.Common.{◌-◌, ◌∙◌, refl, ap, arith}
use Rattle.av1_cdf.specs.Distribution.Distribution.{Adaptive}
use Rattle.av1_cdf.specs.Layout.{Slot}
use Rattle.av1_cdf.specs.Slots.{slot_of}
use Rattle.av1_model.proofs.ComesLaws.{wrote_err}
use Rattle.av1_syntax.specs.Calls.{stands, coded_in, learnt_in}
use Rattle.av1_syntax.specs.Coefficients.{one_dimensional}
use Rattle.av1_syntax.specs.EndOfBlock.{end_element}
use Rattle.av1_syntax.proofs.BlockWrites.{end_begun, flag_is, highest_is, eob_short, eob_long}
use Rattle.av1_syntax.proofs.CoeffReads.{size_few, class_within, one_few}
use Rattle.av1_syntax.proofs.CoeffSlots.{eob_extra_has}
use Rattle.av1_syntax.proofs.Moving.{moves_then}
use Rattle.av1_syntax.proofs.context_writer.ContextWriter.write_eob.Goals as goal

pub symbol-requires-clause-s : goal.symbol-requires-clause-s
symbol-requires-clause-s g c =
    let size = c.args.block.tx_size in
    let k = c.get_eob_pos_token-class.ensures in
    omega (arith, k.class, k.least, c.eob_flag_cdf-flag.ensures.len, c.area_doublings-doublings.ensures, class_within c.args.self.now.eob_by_coded size c.args.eob c.requires.some c.requires.few)

pub returns-in_err-symbol-clause-wrote : goal.returns-in_err-symbol-clause-wrote
returns-in_err-symbol-clause-wrote g c =
    let size = c.args.block.tx_size in
    let p = c.args.block.plane_type in
    let o = one_dimensional c.args.block.tx_class in
    let old = stands g.W.Known c.args.w.now c.args.self.now in
    let new = stands g.W.Known c.symbol.new.w c.symbol.new.self in
    wrote_err coded_in learnt_in c.from_residual.result (end_element c.args.self.now.eob_by_coded size p o).tree c.args.eob old new c.from_residual.ensures.0
    (end_begun c.args.self.now.eob_by_coded size p o c.args.eob c.requires.plane (one_few c.args.block.tx_class) c.requires.some c.requires.few old new c.in_err-symbol.ensures.err)

pub returns-then-class-lt3-clause-wrote : goal.returns-then-class-lt3-clause-wrote
returns-then-class-lt3-clause-wrote g c =
    let size = c.args.block.tx_size in
    let p = c.args.block.plane_type in
    let k = c.get_eob_pos_token-class.ensures in
    let old = stands g.W.Known c.args.w.now c.args.self.now in
    let new = stands g.W.Known c.symbol.new.w c.symbol.new.self in
    let flag = flag_is c.args.self.now.eob_by_coded size p c.area_doublings-doublings.result c.one_dimensional-context.result (slot_of c.eob_flag_cdf-flag.result) c.eob_flag_cdf-flag.ensures.is c.area_doublings-doublings.ensures c.args.block.tx_class c.one_dimensional-context.ensures.value in
    eob_short c.args.self.now.eob_by_coded size p (one_dimensional c.args.block.tx_class) c.args.eob c.get_eob_pos_token-class.result.0 c.get_eob_pos_token-class.result.1 (Adaptive (slot_of c.eob_flag_cdf-flag.result)) c.requires.some c.requires.few flag k.class k.least k.extra k.few old new
    c.if-class-lt3.true c.in_ok-symbol.ensures.ok

pub write_eob_extra-requires-clause-two : goal.write_eob_extra-requires-clause-two
write_eob_extra-requires-clause-two g c =
    let k = c.get_eob_pos_token-class.ensures in
    ap (λ (s : Slot). s.len) c.eob_extra_cdf-highest.ensures ∙ (eob_extra_has c.args.block.txs_ctx c.args.block.plane_type (c.get_eob_pos_token-class.result.0 - 3) (omega (arith, c.requires.size, size_few c.args.block.tx_size)) c.requires.plane (omega (arith, k.highest))).1

pub returns-clause-wrote : goal.returns-clause-wrote
returns-clause-wrote g c =
    let size = c.args.block.tx_size in
    let p = c.args.block.plane_type in
    let k = c.get_eob_pos_token-class.ensures in
    let class = c.get_eob_pos_token-class.result.0 in
    let old = stands g.W.Known c.args.w.now c.args.self.now in
    let mid = stands g.W.Known c.symbol.new.w c.symbol.new.self in
    let new = stands g.W.Known c.write_eob_extra.new.w c.write_eob_extra.new.self in
    let flag = flag_is c.args.self.now.eob_by_coded size p c.area_doublings-doublings.result c.one_dimensional-context.result (slot_of c.eob_flag_cdf-flag.result) c.eob_flag_cdf-flag.ensures.is c.area_doublings-doublings.ensures c.args.block.tx_class c.one_dimensional-context.ensures.value in
    let highest = highest_is size c.args.block.txs_ctx p class c.args.eob (slot_of c.eob_extra_cdf-highest.result) c.eob_extra_cdf-highest.ensures c.requires.size k.class in
    eob_long c.args.self.now.eob_by_coded size p (one_dimensional c.args.block.tx_class) c.args.eob class c.get_eob_pos_token-class.result.1 (Adaptive (slot_of c.eob_flag_cdf-flag.result)) c.requires.some c.requires.few flag k.class k.least k.extra k.few c.write_eob_extra.result
    (class - 2) (Adaptive (slot_of c.eob_extra_cdf-highest.result)) old mid new refl highest c.in_ok-symbol.ensures.ok c.write_eob_extra.ensures.wrote

pub returns-clause-moves : goal.returns-clause-moves
returns-clause-moves g c = moves_then g.W.Known 13 117 130 _ _ _ _ _ _ _ _ _ (omega arith) c.in_ok-symbol.ensures.moves c.write_eob_extra.ensures.moves
