use Rattle.std.proofs.Common.{◌≡◌, ◌+◌, ◌*◌, ◌-◌, ◌%◌, ◌^◌, [], ◌∷◌, ◌∙◌, Ok, Err, ap, refl, subst, codes, arith}
use Rattle.av1_cdf.specs.Layout.{Slot, component_slot}
use Rattle.av1_model.specs.Comes.{Comes}
use Rattle.av1_model.proofs.ComesLaws.{wrote_err}
use Rattle.av1_syntax.specs.Calls.{stands, coded_in, learnt_in}
use Rattle.av1_syntax.specs.Vectors.{bits_from}
use Rattle.av1_syntax.proofs.InterSlots.{bits_has}
use Rattle.av1_syntax.proofs.VectorWrites.{bits_step, bits_begun, bits_end, bits_start, digit_as}
use Rattle.av1_syntax.proofs.Moving.{moves_then, moves_none}
use Rattle.av1_syntax.proofs.context_writer.ContextWriter.write_mv_bits.Goals as goal

pub loop-i-init : goal.loop-i-init
loop-i-init g c = record {
  came = bits_start c.args.axis c.args.bits c.args.d (stands g.W.Known c.args.w.now c.args.self.now);
  moves = moves_none g.W.Known 0 _ _ _ c.requires.cdfs;
  rest = refl;
}

pub digit-requires-clause-s : goal.digit-requires-clause-s
digit-requires-clause-s g c =
    let long = ap (λ (s : Slot). s.len) c.bits_cdf.ensures ∙ (bits_has c.args.axis c.loop-i.i c.requires.axis (omega (arith, c.loop-i-test.true, c.requires.bits))).1 in
    omega (arith, long)

pub loop-i-preserved : goal.loop-i-preserved
loop-i-preserved g c =
    let i = c.loop-i.i in
    let old = stands g.W.Known c.args.w.now c.args.self.now in
    let mid = stands g.W.Known c.loop-i.w c.loop-i.self in
    let new = stands g.W.Known c.digit.new.w c.digit.new.self in
    let w = digit_as {U = Unit {0}} {E = Unit {0}} (Ok tt) _ (component_slot c.args.axis (codes "bits_cdf") (i ∷ [])) _ mid new c.bits_cdf.ensures c.in_ok-digit.ensures.wrote in
    record {
      came = bits_step c.args.axis c.args.bits c.args.d c.requires.axis c.requires.bits c.requires.few i c.loop-i-test.true (bits_from c.args.axis c.args.bits 0 0).tree old mid new c.loop-i.invariant.came w;
      moves = moves_then g.W.Known (13 * i) 13 (13 * (i + 1)) _ _ _ _ _ _ _ _ _ (omega arith) c.loop-i.invariant.moves c.in_ok-digit.ensures.moves;
      rest = c.digit.ensures.rest ∙ c.loop-i.invariant.rest;
    }

pub returns-in_err-digit-clause-wrote : goal.returns-in_err-digit-clause-wrote
returns-in_err-digit-clause-wrote g c =
    let i = c.loop-i.i in
    let old = stands g.W.Known c.args.w.now c.args.self.now in
    let mid = stands g.W.Known c.loop-i.w c.loop-i.self in
    let new = stands g.W.Known c.digit.new.w c.digit.new.self in
    let w = digit_as {U = Unit {0}} {E = Unit {0}} (Err tt) _ (component_slot c.args.axis (codes "bits_cdf") (i ∷ [])) _ mid new c.bits_cdf.ensures c.in_err-digit.ensures.wrote in
    wrote_err coded_in learnt_in c.from_residual.result (bits_from c.args.axis c.args.bits 0 0).tree c.args.d old new c.from_residual.ensures.0
    (bits_begun c.args.axis c.args.bits c.args.d c.requires.axis c.requires.bits c.requires.few i c.loop-i-test.true (bits_from c.args.axis c.args.bits 0 0).tree old mid new c.loop-i.invariant.came w)

pub returns-clause-wrote : goal.returns-clause-wrote
returns-clause-wrote g c =
    let axis = c.args.axis in
    let bits = c.args.bits in
    let d = c.args.d in
    let old = stands g.W.Known c.args.w.now c.args.self.now in
    let new = stands g.W.Known c.loop-i.w c.loop-i.self in
    let end : c.loop-i.i ≡ bits = omega (arith, c.loop-i-test.false, c.loop-i.auto.i-end) in
    bits_end axis bits d c.requires.few (bits_from axis bits 0 0).tree old new
    (subst (λ i. Comes coded_in learnt_in (bits_from axis bits 0 0).tree (bits_from axis (bits - i) i (d % 2 ^ i)).tree old new) end c.loop-i.invariant.came)
