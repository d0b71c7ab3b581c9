use Rattle.av1_cdf.specs.Slots.{slot_of}
use Rattle.av1_cdf.proofs.Cells.{le_is}
use Rattle.av1_geometry.specs.declared.ref_type.RefType.TheVariants.{ALTREF2_FRAME, ALTREF_FRAME}
use Rattle.av1_syntax.proofs.InterWrites.{ahead_refused, ahead_last, ahead_near, from_is, le_not}
use Rattle.av1_syntax.proofs.context_writer.ContextWriter.write_ahead.Goals as goal

pub returns-in_err-flag-clause-wrote : goal.returns-in_err-flag-clause-wrote
returns-in_err-flag-clause-wrote g c =
    ahead_refused c.from_residual.result (slot_of c.args.last) (slot_of c.args.near) c.args.r _ (c.requires.from, c.requires.to) (from_is ALTREF_FRAME c.args.r _ _ c.number-2.ensures.value c.number.ensures.value) _ _ c.from_residual.ensures.0 c.in_err-flag.ensures.wrote

pub returns-then-is_last-clause-wrote : goal.returns-then-is_last-clause-wrote
returns-then-is_last-clause-wrote g c =
    ahead_last (slot_of c.args.last) (slot_of c.args.near) c.args.r _ _ _ (c.requires.from, c.requires.to) (from_is ALTREF_FRAME c.args.r _ _ c.number-2.ensures.value c.number.ensures.value) (le_is _ _ c.if-is_last.true) c.in_ok-flag.ensures.wrote

pub returns-clause-wrote : goal.returns-clause-wrote
returns-clause-wrote g c =
    ahead_near c.flag-2.result (slot_of c.args.last) (slot_of c.args.near) c.args.r _ (c.requires.from, c.requires.to) (from_is ALTREF_FRAME c.args.r _ _ c.number-2.ensures.value c.number.ensures.value) _ _ _ _
    (from_is ALTREF2_FRAME c.args.r _ _ c.number-4.ensures.value c.number-3.ensures.value) (le_not _ _ c.if-is_last.false) c.in_ok-flag.ensures.wrote c.flag-2.ensures.wrote
