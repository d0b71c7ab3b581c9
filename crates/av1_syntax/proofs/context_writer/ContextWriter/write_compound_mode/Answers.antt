use Rattle.std.proofs.Common.{◌∙◌, [], ◌∷◌, ap, codes, arith}
use Rattle.std.specs.Prelude.{slice_get}
use Rattle.av1_cdf.specs.Layout.{Slot, slot}
use Rattle.av1_syntax.specs.InterModes.{compound_modes, compound_number}
use Rattle.av1_syntax.proofs.InterReads.{compound_told}
use Rattle.av1_syntax.proofs.InterSlots.{compound_mode_has}
use Rattle.av1_syntax.proofs.Writing.{wrote_symbol}
use Rattle.av1_syntax.proofs.context_writer.ContextWriter.write_compound_mode.Goals as goal

pub symbol-requires-clause-s : goal.symbol-requires-clause-s
symbol-requires-clause-s g c =
    let long = ap (λ (s : Slot). s.len) c.compound_mode_cdf-cdf.ensures ∙ (compound_mode_has c.compound_context.result c.compound_context.ensures.few).1 in
    omega (arith, long, c.compound_symbol.ensures.few)

pub returns-clause-wrote : goal.returns-clause-wrote
returns-clause-wrote g c =
    wrote_symbol c.symbol.result _ _ (λ s. slice_get compound_modes s) compound_number c.compound_symbol.result c.args.mode _ _ (c.compound_mode_cdf-cdf.ensures ∙ ap (λ k. slot (codes "compound_mode_cdf") (k ∷ [])) c.compound_context.ensures.value)
    c.compound_symbol.ensures.value (compound_told c.args.mode c.requires.mode) c.symbol.ensures.ok c.symbol.ensures.err
