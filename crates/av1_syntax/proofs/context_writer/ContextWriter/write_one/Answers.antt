use Rattle.av1_cdf.proofs.Cells.{le_is}
use Rattle.av1_geometry.specs.declared.ref_type.RefType.TheVariants.{BWDREF_FRAME}
use Rattle.av1_syntax.specs.RefFrames.{single_slot}
use Rattle.av1_syntax.proofs.InterWrites.{single_refused, single_ahead, single_behind, ahead_as, behind_as, from_is, le_not}
use Rattle.av1_syntax.proofs.context_writer.ContextWriter.write_one.Goals as goal

pub returns-in_err-flag-clause-wrote : goal.returns-in_err-flag-clause-wrote
returns-in_err-flag-clause-wrote g c =
    single_refused c.from_residual.result c.args.contexts c.args.r _ _ (c.requires.from, c.requires.to) c.single_ref_cdfs.ensures (from_is BWDREF_FRAME c.args.r _ _ c.number-2.ensures.value c.number.ensures.value) _ _ c.from_residual.ensures.0 c.in_err-flag.ensures.wrote

pub returns-then-is_ahead-clause-wrote : goal.returns-then-is_ahead-clause-wrote
returns-then-is_ahead-clause-wrote g c =
    let t = c.args.contexts in
    single_ahead c.write_ahead.result t c.args.r _ _ (c.requires.from, c.requires.to) c.single_ref_cdfs.ensures (from_is BWDREF_FRAME c.args.r _ _ c.number-2.ensures.value c.number.ensures.value) _ _ _ (le_is _ _ c.if-is_ahead.true) c.in_ok-flag.ensures.wrote
    (ahead_as c.write_ahead.result _ _ (single_slot 1 t.ahead) (single_slot 5 t.near) c.args.r _ _ c.single_ref_cdfs-last.ensures c.single_ref_cdfs-then-is_ahead.ensures c.write_ahead.ensures.wrote)

pub returns-clause-wrote : goal.returns-clause-wrote
returns-clause-wrote g c =
    let t = c.args.contexts in
    single_behind c.write_behind.result t c.args.r _ _ (c.requires.from, c.requires.to) c.single_ref_cdfs.ensures (from_is BWDREF_FRAME c.args.r _ _ c.number-2.ensures.value c.number.ensures.value) _ _ _ (le_not _ _ c.if-is_ahead.false) c.in_ok-flag.ensures.wrote
    (behind_as c.write_behind.result _ _ _ (single_slot 2 t.behind) (single_slot 3 t.early) (single_slot 4 t.late) c.args.r _ _ c.single_ref_cdfs-pair.ensures c.single_ref_cdfs-early.ensures c.single_ref_cdfs-2.ensures c.write_behind.ensures.wrote)
