use Rattle.std.proofs.Common.{◌∙◌, ap, arith}
use Rattle.av1_cdf.specs.Layout.{Slot}
use Rattle.av1_syntax.proofs.InterSlots.{class0_fp_has, fp_has}
use Rattle.av1_syntax.proofs.motion_vectors.quarters_slot.Goals as goal

pub returns-then-mv_class-eq0-clause-len : goal.returns-then-mv_class-eq0-clause-len
returns-then-mv_class-eq0-clause-len c =
    ap (λ (s : Slot). s.len) c.class0_fp_cdf.ensures ∙ (class0_fp_has c.args.axis c.args.d c.requires.axis (c.requires.whole (omega (arith, c.if-mv_class-eq0.true)))).1

pub returns-else-mv_class-eq0-clause-len : goal.returns-else-mv_class-eq0-clause-len
returns-else-mv_class-eq0-clause-len c = ap (λ (s : Slot). s.len) c.fp_cdf.ensures ∙ (fp_has c.args.axis c.requires.axis).1
