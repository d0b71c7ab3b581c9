use Rattle.av1_cdf.specs.Slots.{slot_of}
use Rattle.av1_cdf.proofs.Cells.{le_is}
use Rattle.av1_geometry.specs.declared.ref_type.RefType.TheVariants.{LAST2_FRAME, LAST3_FRAME, GOLDEN_FRAME}
use Rattle.av1_syntax.proofs.InterWrites.{behind_refused, behind_late, behind_early, from_is, le_not}
use Rattle.av1_syntax.proofs.context_writer.ContextWriter.write_behind.Goals as goal

pub returns-in_err-flag-clause-wrote : goal.returns-in_err-flag-clause-wrote
returns-in_err-flag-clause-wrote g c =
    behind_refused c.from_residual.result (slot_of c.args.pair) (slot_of c.args.early) (slot_of c.args.late) c.args.r _ (c.requires.from, c.requires.to) (from_is LAST3_FRAME c.args.r _ _ c.number-2.ensures.value c.number.ensures.value) _ _ c.from_residual.ensures.0
    c.in_err-flag.ensures.wrote

pub returns-then-is_late-clause-wrote : goal.returns-then-is_late-clause-wrote
returns-then-is_late-clause-wrote g c =
    behind_late c.flag-then-is_late.result (slot_of c.args.pair) (slot_of c.args.early) (slot_of c.args.late) c.args.r _ (c.requires.from, c.requires.to) (from_is LAST3_FRAME c.args.r _ _ c.number-2.ensures.value c.number.ensures.value) _ _ _ _
    (from_is GOLDEN_FRAME c.args.r _ _ c.number-then-is_late-2.ensures.value c.number-then-is_late.ensures.value) (le_is _ _ c.if-is_late.true) c.in_ok-flag.ensures.wrote c.flag-then-is_late.ensures.wrote

pub returns-clause-wrote : goal.returns-clause-wrote
returns-clause-wrote g c =
    behind_early c.flag-2.result (slot_of c.args.pair) (slot_of c.args.early) (slot_of c.args.late) c.args.r _ (c.requires.from, c.requires.to) (from_is LAST3_FRAME c.args.r _ _ c.number-2.ensures.value c.number.ensures.value) _ _ _ _
    (from_is LAST2_FRAME c.args.r _ _ c.number-4.ensures.value c.number-3.ensures.value) (le_not _ _ c.if-is_late.false) c.in_ok-flag.ensures.wrote c.flag-2.ensures.wrote
