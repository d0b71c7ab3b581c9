use Rattle.std.proofs.Common.{◌∙◌, ap, length, arith}
use Rattle.av1_cdf.specs.Distribution.Distribution.{Adaptive}
use Rattle.av1_cdf.specs.Layout.{Slot}
use Rattle.av1_syntax.proofs.CoeffSlots.{br_has}
use Rattle.av1_syntax.proofs.CoeffSteps.{range_is, place_within, room_within}
use Rattle.av1_syntax.proofs.coefficients.range_cdf.Goals as goal

pub get_br_ctx-context-requires-clause-place : goal.get_br_ctx-context-requires-clause-place
get_br_ctx-context-requires-clause-place c = place_within c.args.block.tx_size c.get_txb_bhl.result c.args.at (length c.args.levels.now) c.get_txb_bhl.ensures.value c.requires.place c.requires.room

pub get_br_ctx-context-requires-clause-room : goal.get_br_ctx-context-requires-clause-room
get_br_ctx-context-requires-clause-room c = room_within c.args.block.tx_size c.get_txb_bhl.result c.args.at (length c.args.levels.now) c.get_txb_bhl.ensures.value c.requires.place c.requires.room

pub returns-clause-is : goal.returns-clause-is
returns-clause-is c =
    ap Adaptive c.coeff_br_cdf.ensures
    ∙ range_is c.args.block.tx_size c.args.block.plane_type c.args.block.tx_class c.args.levels.now c.args.at c.min.result c.args.block.txs_ctx c.get_br_ctx-context.result c.get_txb_bhl.result c.min.ensures c.requires.size c.get_txb_bhl.ensures.value
    c.get_br_ctx-context.ensures.value

pub returns-clause-len : goal.returns-clause-len
returns-clause-len c = ap (λ (s : Slot). s.len) c.coeff_br_cdf.ensures ∙ (br_has c.min.result c.args.block.plane_type c.get_br_ctx-context.result (omega (arith, c.min.ensures)) c.requires.plane (omega (arith, c.get_br_ctx-context.ensures.most))).1
