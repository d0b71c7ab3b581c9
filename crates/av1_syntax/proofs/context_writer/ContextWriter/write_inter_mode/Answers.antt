use Rattle.std.proofs.Common.{◌∙◌, [], ◌∷◌, Ok, ap, codes}
use Rattle.av1_cdf.specs.Layout.{slot}
use Rattle.av1_geometry.specs.declared.prediction_mode.PredictionMode.TheVariants.{NEARESTMV, GLOBALMV, NEWMV}
use Rattle.av1_syntax.specs.InterModes.{zero_context}
use Rattle.av1_syntax.proofs.InterWrites.{other_is, unless_refused, unless_on, unless_is, Nears, Others, new_goes, other_goes, not_new, near_wrote, alike, unlike}
use Rattle.av1_syntax.proofs.context_writer.ContextWriter.write_inter_mode.Goals as goal

pub returns-in_err-flag-clause-wrote : goal.returns-in_err-flag-clause-wrote
returns-in_err-flag-clause-wrote g c =
    unless_refused c.from_residual.result NEWMV _ _ (Others c.args.ctx) c.args.mode _ (c.newmv_cdf.ensures ∙ ap (λ k. slot (codes "newmv_cdf") (k ∷ [])) c.new_context.ensures) (other_is NEWMV c.args.mode _ _ c.number.ensures.value c.number-2.ensures.value) _ _
    (new_goes c.args.ctx c.args.mode c.requires.mode) c.from_residual.ensures.0 c.in_err-flag.ensures.wrote

pub returns-then-not-other-clause-wrote : goal.returns-then-not-other-clause-wrote
returns-then-not-other-clause-wrote g c =
    unless_is NEWMV _ _ (Others c.args.ctx) c.args.mode _ (c.newmv_cdf.ensures ∙ ap (λ k. slot (codes "newmv_cdf") (k ∷ [])) c.new_context.ensures) (other_is NEWMV c.args.mode _ _ c.number.ensures.value c.number-2.ensures.value) _ _
    (alike _ _ c.if-not-other.true) c.in_ok-flag.ensures.wrote

pub returns-in_err-flag-2-clause-wrote : goal.returns-in_err-flag-2-clause-wrote
returns-in_err-flag-2-clause-wrote g c =
    let is = other_is NEWMV c.args.mode c.number.result c.number-2.result c.number.ensures.value c.number-2.ensures.value in
    let t = unlike c.number.result c.number-2.result c.if-not-other.false in
    unless_on c.from_residual-in_err-flag-2.result NEWMV _ _ (Others c.args.ctx) c.args.mode _ (c.newmv_cdf.ensures ∙ ap (λ k. slot (codes "newmv_cdf") (k ∷ [])) c.new_context.ensures) is _ _ _ t c.in_ok-flag.ensures.wrote
    (unless_refused c.from_residual-in_err-flag-2.result GLOBALMV _ (slot (codes "zeromv_cdf") (zero_context c.args.ctx ∷ [])) (Nears c.args.ctx) c.args.mode _ (c.zeromv_cdf.ensures ∙ ap (λ k. slot (codes "zeromv_cdf") (k ∷ [])) c.zero_context.ensures)
    (other_is GLOBALMV c.args.mode _ _ c.number-3.ensures.value c.number-4.ensures.value) _ _ (other_goes c.args.ctx c.args.mode (not_new c.args.ctx c.args.mode _ c.requires.mode is t)) c.from_residual-in_err-flag-2.ensures.0 c.in_err-flag-2.ensures.wrote)

pub returns-then-not-other-2-clause-wrote : goal.returns-then-not-other-2-clause-wrote
returns-then-not-other-2-clause-wrote g c =
    let is = other_is NEWMV c.args.mode c.number.result c.number-2.result c.number.ensures.value c.number-2.ensures.value in
    let t = unlike c.number.result c.number-2.result c.if-not-other.false in
    unless_on {U = Unit {0}} {E = Unit {0}} (Ok tt) NEWMV _ _ (Others c.args.ctx) c.args.mode _ (c.newmv_cdf.ensures ∙ ap (λ k. slot (codes "newmv_cdf") (k ∷ [])) c.new_context.ensures) is _ _ _ t c.in_ok-flag.ensures.wrote
    (unless_is GLOBALMV _ (slot (codes "zeromv_cdf") (zero_context c.args.ctx ∷ [])) (Nears c.args.ctx) c.args.mode _ (c.zeromv_cdf.ensures ∙ ap (λ k. slot (codes "zeromv_cdf") (k ∷ [])) c.zero_context.ensures)
    (other_is GLOBALMV c.args.mode _ _ c.number-3.ensures.value c.number-4.ensures.value) _ _ (alike _ _ c.if-not-other-2.true) c.in_ok-flag-2.ensures.wrote)

pub returns-clause-wrote : goal.returns-clause-wrote
returns-clause-wrote g c =
    let is = other_is NEWMV c.args.mode c.number.result c.number-2.result c.number.ensures.value c.number-2.ensures.value in
    let t = unlike c.number.result c.number-2.result c.if-not-other.false in
    let was = other_is GLOBALMV c.args.mode c.number-3.result c.number-4.result c.number-3.ensures.value c.number-4.ensures.value in
    let u = unlike c.number-3.result c.number-4.result c.if-not-other-2.false in
    unless_on c.flag-3.result NEWMV _ _ (Others c.args.ctx) c.args.mode _ (c.newmv_cdf.ensures ∙ ap (λ k. slot (codes "newmv_cdf") (k ∷ [])) c.new_context.ensures) is _ _ _ t c.in_ok-flag.ensures.wrote
    (unless_on c.flag-3.result GLOBALMV _ (slot (codes "zeromv_cdf") (zero_context c.args.ctx ∷ [])) (Nears c.args.ctx) c.args.mode _ (c.zeromv_cdf.ensures ∙ ap (λ k. slot (codes "zeromv_cdf") (k ∷ [])) c.zero_context.ensures) was _ _ _ u c.in_ok-flag-2.ensures.wrote
    (near_wrote c.args.ctx c.flag-3.result c.args.mode _ _ _ _ _ (c.refmv_cdf.ensures ∙ ap (λ k. slot (codes "refmv_cdf") (k ∷ [])) c.ref_context.ensures) (other_is NEARESTMV c.args.mode _ _ c.number-5.ensures.value c.number-6.ensures.value) was u
    (not_new c.args.ctx c.args.mode _ c.requires.mode is t) c.flag-3.ensures.wrote))
