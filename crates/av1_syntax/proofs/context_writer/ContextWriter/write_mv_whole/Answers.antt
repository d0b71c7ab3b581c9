use Rattle.std.proofs.Common.{◌∙◌, ap, arith}
use Rattle.av1_cdf.specs.Layout.{Slot}
use Rattle.av1_syntax.proofs.InterSlots.{class0_has}
use Rattle.av1_syntax.proofs.VectorReads.{first_span}
use Rattle.av1_syntax.proofs.VectorWrites.{whole_first, whole_later, later_span}
use Rattle.av1_syntax.proofs.context_writer.ContextWriter.write_mv_whole.Goals as goal

pub digit-requires-clause-s : goal.digit-requires-clause-s
digit-requires-clause-s g c =
    let long = ap (λ (s : Slot). s.len) c.class0_cdf.ensures ∙ (class0_has c.args.axis c.requires.axis).1 in
    let few = first_span c.args.mv_class c.args.d (omega (arith, c.if-mv_class-eq0.true)) c.requires.few in
    omega (arith, long, few)

pub returns-then-mv_class-eq0-clause-wrote : goal.returns-then-mv_class-eq0-clause-wrote
returns-then-mv_class-eq0-clause-wrote g c = whole_first c.digit.result c.args.axis c.args.mv_class c.args.d _ _ _ (omega (arith, c.if-mv_class-eq0.true)) c.class0_cdf.ensures c.digit.ensures.wrote

pub write_mv_bits-requires-clause-few : goal.write_mv_bits-requires-clause-few
write_mv_bits-requires-clause-few g c = let e = later_span c.args.mv_class (omega (arith, c.if-mv_class-eq0.false)) in omega (arith, e, c.requires.few)

pub returns-clause-wrote : goal.returns-clause-wrote
returns-clause-wrote g c = whole_later c.write_mv_bits.result c.args.axis c.args.mv_class c.args.d _ _ (omega (arith, c.if-mv_class-eq0.false)) c.write_mv_bits.ensures.wrote
