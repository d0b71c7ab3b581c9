use Rattle.std.proofs.Common.{◌∙◌, ap}
use Rattle.av1_syntax.specs.RefFrames.{may_be_pair, refs_of, contexts_at, ref_frames_at}
use Rattle.av1_syntax.proofs.InterWrites.{among_as}
use Rattle.av1_syntax.proofs.context_writer.ContextWriter.write_ref_frames.Goals as goal

pub returns-clause-wrote : goal.returns-clause-wrote
returns-clause-wrote g c =
    let grid = c.args.self.now.bc.blocks in
    let bo = c.args.bo.0 in
    among_as c.write_among.result grid bo c.ref_contexts-contexts.result (contexts_at grid bo) c.may_be_pair.result _ _ (ref_frames_at grid bo) _ _ c.ref_contexts-contexts.ensures.value
    (c.may_be_pair.ensures ∙ ap (may_be_pair c.args.reference_mode) c.at.ensures) (c.refs_of-first.ensures ∙ ap refs_of c.at.ensures) c.write_among.ensures.wrote
