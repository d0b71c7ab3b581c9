use Rattle.std.proofs.Common.{Ok, Err}
use Rattle.av1_syntax.specs.RefFrames.{comp_slot, comp_bwd_slot}
use Rattle.av1_syntax.proofs.InterWrites.{pair_refused, pair_wrote, ahead_as, behind_as}
use Rattle.av1_syntax.proofs.context_writer.ContextWriter.write_pair.Goals as goal

pub returns-in_err-write_behind-clause-wrote : goal.returns-in_err-write_behind-clause-wrote
returns-in_err-write_behind-clause-wrote g c =
    let t = c.args.contexts in
    pair_refused c.from_residual.result t c.args.first c.args.second _ _ c.requires.few (c.requires.second_from, c.requires.second_to) c.from_residual.ensures.0
    (behind_as {U = Unit {0}} {E = Unit {0}} (Err tt) _ _ _ (comp_slot 0 t.behind) (comp_slot 1 t.early) (comp_slot 2 t.late) c.args.first _ _ c.comp_ref_cdf-pair.ensures c.comp_ref_cdf-early.ensures c.comp_ref_cdf.ensures c.in_err-write_behind.ensures.wrote)

pub returns-clause-wrote : goal.returns-clause-wrote
returns-clause-wrote g c =
    let t = c.args.contexts in
    pair_wrote c.write_ahead.result t c.args.first c.args.second _ _ _
    (behind_as {U = Unit {0}} {E = Unit {0}} (Ok tt) _ _ _ (comp_slot 0 t.behind) (comp_slot 1 t.early) (comp_slot 2 t.late) c.args.first _ _ c.comp_ref_cdf-pair.ensures c.comp_ref_cdf-early.ensures c.comp_ref_cdf.ensures c.in_ok-write_behind.ensures.wrote)
    (ahead_as c.write_ahead.result _ _ (comp_bwd_slot 0 t.ahead) (comp_bwd_slot 1 t.near) c.args.second _ _ c.comp_bwd_ref_cdf-last.ensures c.comp_bwd_ref_cdf.ensures c.write_ahead.ensures.wrote)
