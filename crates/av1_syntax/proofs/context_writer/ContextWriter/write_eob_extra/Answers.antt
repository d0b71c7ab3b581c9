use Rattle.std.proofs.Common.{◌-◌, ◌*◌, ◌%◌, refl, ap, arith}
use Rattle.std.proofs.lemmas.Nat.{one_shl}
use Rattle.av1_cdf.specs.Distribution.Distribution.{Adaptive}
use Rattle.av1_cdf.specs.Slots.{slot_of}
use Rattle.av1_model.proofs.ComesLaws.{wrote_err}
use Rattle.av1_syntax.specs.Calls.{stands, coded_in, learnt_in}
use Rattle.av1_syntax.specs.EndOfBlock.{extra_element}
use Rattle.av1_syntax.proofs.BlockWrites.{extra_refused, extra_coded}
use Rattle.av1_syntax.proofs.Moving.{moves_then}
use Rattle.av1_syntax.proofs.context_writer.ContextWriter.write_eob_extra.Goals as goal

pub returns-in_err-symbol-clause-wrote : goal.returns-in_err-symbol-clause-wrote
returns-in_err-symbol-clause-wrote g c =
    let q = Adaptive (slot_of c.args.cdf) in
    let old = stands g.W.Known c.args.w.now c.args.self.now in
    let new = stands g.W.Known c.symbol.new.w c.symbol.new.self in
    wrote_err coded_in learnt_in c.from_residual.result (extra_element q c.args.bits).tree c.args.extra old new c.from_residual.ensures.0
    (extra_refused q c.args.bits c.args.extra old new c.requires.some c.requires.fits (c.args.cdf.is_slot, c.requires.two) c.in_err-symbol.ensures.err)

pub returns-clause-wrote : goal.returns-clause-wrote
returns-clause-wrote g c =
    let q = Adaptive (slot_of c.args.cdf) in
    let low = c.args.bits - 1 in
    let old = stands g.W.Known c.args.w.now c.args.self.now in
    let mid = stands g.W.Known c.symbol.new.w c.symbol.new.self in
    let new = stands g.W.Known c.literal.new.w c.symbol.new.self in
    let shl = one_shl low 32 (omega (arith, c.requires.few)) in
    extra_coded c.literal.result q c.args.bits c.args.extra _ _ old mid new c.requires.some c.requires.fits refl (ap (λ m. c.args.extra % m) shl) c.in_ok-symbol.ensures.ok c.literal.ensures.wrote

pub returns-clause-moves : goal.returns-clause-moves
returns-clause-moves g c = moves_then g.W.Known 13 (13 * (c.args.bits - 1)) 117 _ _ _ _ _ _ _ _ _ (omega (arith, c.requires.few)) c.in_ok-symbol.ensures.moves c.literal.ensures.moves
