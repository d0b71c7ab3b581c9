use Rattle.std.proofs.Common.{[], ◌∷◌, ◌∙◌, ap, codes}
use Rattle.av1_cdf.specs.Layout.{Slot, slot}
use Rattle.av1_syntax.specs.IntraModes.{above_class}
use Rattle.av1_syntax.proofs.Slots.{kf_y_has}
use Rattle.av1_syntax.proofs.context_writer.ContextWriter.kf_y_slot.Goals as goal

pub returns-clause-is : goal.returns-clause-is
returns-clause-is c =
    c.kf_y_cdf.ensures ∙ ap (λ a. slot (codes "kf_y_cdf") (a ∷ c.left_class.result ∷ [])) c.above_class.ensures.value ∙ ap (λ l. slot (codes "kf_y_cdf") (above_class c.args.self.now.bc.blocks c.args.bo.0 ∷ l ∷ [])) c.left_class.ensures.value

pub returns-clause-len : goal.returns-clause-len
returns-clause-len c = ap (λ (s : Slot). s.len) c.kf_y_cdf.ensures ∙ (kf_y_has c.above_class.result c.left_class.result c.above_class.ensures.few c.left_class.ensures.few).1
