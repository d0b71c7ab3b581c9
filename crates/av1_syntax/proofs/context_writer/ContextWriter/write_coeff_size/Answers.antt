use Rattle.std.proofs.Common.{◌≡◌, ◌-◌, ◌∙◌, min, subst, arith}
use Rattle.av1_cdf.specs.Distribution.{Distribution}
use Rattle.av1_cdf.specs.Distribution.Distribution.{Adaptive}
use Rattle.av1_cdf.specs.Slots.{slot_of}
use Rattle.av1_model.specs.Comes.{Wrote}
use Rattle.av1_model.proofs.ComesLaws.{wrote_err}
use Rattle.av1_syntax.specs.Calls.{stands, coded_in, learnt_in}
use Rattle.av1_syntax.specs.Coefficients.{range_by}
use Rattle.av1_syntax.specs.Levels.{coeff_size_element, range_element}
use Rattle.av1_syntax.proofs.CoeffSteps.{lowest, symbol_few, lowest_one, symbols_left, range_has}
use Rattle.av1_syntax.proofs.LevelWrites.{size_begun, size_small, size_great}
use Rattle.av1_syntax.proofs.Values.{flag_byte}
use Rattle.av1_syntax.proofs.Moving.{moves_then}
use Rattle.av1_syntax.proofs.context_writer.ContextWriter.write_coeff_size.Goals as goal

pub symbol-requires-clause-s : goal.symbol-requires-clause-s
symbol-requires-clause-s g c =
    let last = c.args.is_last in
    let low : c.from.result ≡ lowest last = c.from.ensures ∙ flag_byte last in
    symbol_few last c.args.size (c.min.result - c.from.result) c.args.base.len c.requires.least (omega (arith, c.min.ensures, low, lowest_one last, c.requires.least)) c.requires.base

pub returns-in_err-symbol-clause-wrote : goal.returns-in_err-symbol-clause-wrote
returns-in_err-symbol-clause-wrote g c =
    let last = c.args.is_last in
    let base = Adaptive (slot_of c.args.base) in
    let range = range_by c.args.block.tx_size c.args.block.plane_type c.args.block.tx_class c.args.levels.now c.args.at in
    let old = stands g.W.Known c.args.w.now c.args.self.now in
    let new = stands g.W.Known c.symbol.new.w c.symbol.new.self in
    wrote_err coded_in learnt_in c.from_residual.result (coeff_size_element base range (lowest last)).tree (min c.args.size 15) old new c.from_residual.ensures.0
    (size_begun base range (lowest last) c.args.size old new (c.args.base.is_slot, symbols_left last c.args.base.len c.requires.base) (range_has c.args.block.tx_size c.args.block.plane_type c.args.block.tx_class c.args.levels.now c.args.at c.requires.plane) (lowest_one last)
    c.requires.least c.in_err-symbol.ensures.err)

pub returns-then-size-lt3-clause-wrote : goal.returns-then-size-lt3-clause-wrote
returns-then-size-lt3-clause-wrote g c =
    let last = c.args.is_last in
    let base = Adaptive (slot_of c.args.base) in
    let range = range_by c.args.block.tx_size c.args.block.plane_type c.args.block.tx_class c.args.levels.now c.args.at in
    let old = stands g.W.Known c.args.w.now c.args.self.now in
    let new = stands g.W.Known c.symbol.new.w c.symbol.new.self in
    let low : c.from.result ≡ lowest last = c.from.ensures ∙ flag_byte last in
    size_small base range (lowest last) c.args.size (c.min.result - c.from.result) old new (omega (arith, c.min.ensures, low, lowest_one last, c.requires.least)) c.if-size-lt3.true c.in_ok-symbol.ensures.ok

pub returns-clause-wrote : goal.returns-clause-wrote
returns-clause-wrote g c =
    let last = c.args.is_last in
    let base = Adaptive (slot_of c.args.base) in
    let range = range_by c.args.block.tx_size c.args.block.plane_type c.args.block.tx_class c.args.levels.now c.args.at in
    let old = stands g.W.Known c.args.w.now c.args.self.now in
    let mid = stands g.W.Known c.symbol.new.w c.symbol.new.self in
    let new = stands g.W.Known c.write_coeff_range.new.w c.write_coeff_range.new.self in
    let low : c.from.result ≡ lowest last = c.from.ensures ∙ flag_byte last in
    size_great base range (lowest last) c.args.size c.write_coeff_range.result (c.min.result - c.from.result) old mid new (omega (arith, c.min.ensures, low, lowest_one last, c.requires.least)) c.if-size-lt3.false c.in_ok-symbol.ensures.ok
    (subst (λ (q : Distribution). Wrote coded_in learnt_in c.write_coeff_range.result (range_element q).tree (min c.args.size 15) mid new) {y = range} c.range_cdf.ensures.is c.write_coeff_range.ensures.wrote)

pub returns-clause-moves : goal.returns-clause-moves
returns-clause-moves g c = moves_then g.W.Known 13 52 65 _ _ _ _ _ _ _ _ _ (omega arith) c.in_ok-symbol.ensures.moves c.write_coeff_range.ensures.moves
