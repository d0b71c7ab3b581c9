use Rattle.std.proofs.Common.{◌∙◌, [], ◌∷◌, ap, subst, codes, arith}
use Rattle.av1_blocks.specs.declared.block_context.BlockContext.{BlockContext}
use Rattle.av1_cdf.specs.Layout.{slot}
use Rattle.av1_model.specs.Comes.{Wrote}
use Rattle.av1_syntax.specs.Calls.{stands, coded_in, learnt_in}
use Rattle.av1_syntax.specs.RefFrames.{two_element}
use Rattle.av1_syntax.proofs.InterWrites.{among_one, among_refused, among_two, among_alone}
use Rattle.av1_syntax.proofs.Moving.{moves_then}
use Rattle.av1_syntax.proofs.context_writer.ContextWriter.write_among.Goals as goal

pub returns-then-not-two-clause-wrote : goal.returns-then-not-two-clause-wrote
returns-then-not-two-clause-wrote g c =
    among_one c.write_one.result c.args.self.now.bc.blocks c.args.bo.0 c.args.contexts c.args.first c.args.second c.args.two _ _ c.if-not-two.true c.requires.refs c.write_one.ensures.wrote

pub returns-in_err-flag-clause-wrote : goal.returns-in_err-flag-clause-wrote
returns-in_err-flag-clause-wrote g c =
    among_refused c.from_residual.result c.args.self.now.bc.blocks c.args.bo.0 c.args.contexts c.args.first c.args.second c.args.two c.is_second-pair.result _ _ _ c.if-not-two.false c.is_second-pair.ensures
    (c.comp_mode_cdf-cdf.ensures ∙ ap (λ k. slot (codes "comp_mode_cdf") (k ∷ [])) c.get_comp_mode_ctx.ensures.value) c.requires.few c.requires.refs c.from_residual.ensures.0 c.in_err-flag.ensures.wrote

pub returns-then-pair-clause-wrote : goal.returns-then-pair-clause-wrote
returns-then-pair-clause-wrote g c =
    let mid = stands g.W.Known c.flag.new.w c.flag.new.self in
    let new = stands g.W.Known c.write_two.new.w c.write_two.new.self in
    among_two c.write_two.result c.args.self.now.bc.blocks c.args.bo.0 c.args.contexts c.args.first c.args.second c.args.two c.is_second-pair.result _ _ mid new c.if-not-two.false c.is_second-pair.ensures
    (c.comp_mode_cdf-cdf.ensures ∙ ap (λ k. slot (codes "comp_mode_cdf") (k ∷ [])) c.get_comp_mode_ctx.ensures.value) c.if-pair.true c.in_ok-flag.ensures.wrote
    (subst (λ (bc : BlockContext). Wrote coded_in learnt_in c.write_two.result (two_element bc.blocks c.args.bo.0 c.args.contexts).tree (c.args.first, c.args.second) mid new) c.in_ok-flag.ensures.rest c.write_two.ensures.wrote)

pub returns-then-pair-clause-moves : goal.returns-then-pair-clause-moves
returns-then-pair-clause-moves g c = moves_then g.W.Known 13 65 78 _ _ _ _ _ _ _ _ _ (omega arith) c.in_ok-flag.ensures.moves c.write_two.ensures.moves

pub returns-clause-wrote : goal.returns-clause-wrote
returns-clause-wrote g c =
    among_alone c.write_one-2.result c.args.self.now.bc.blocks c.args.bo.0 c.args.contexts c.args.first c.args.second c.args.two c.is_second-pair.result _ _ _ _ c.if-not-two.false c.is_second-pair.ensures
    (c.comp_mode_cdf-cdf.ensures ∙ ap (λ k. slot (codes "comp_mode_cdf") (k ∷ [])) c.get_comp_mode_ctx.ensures.value) c.if-pair.false c.requires.refs c.in_ok-flag.ensures.wrote c.write_one-2.ensures.wrote
