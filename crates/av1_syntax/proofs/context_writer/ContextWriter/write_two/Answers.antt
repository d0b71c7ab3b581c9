use Rattle.std.proofs.Common.{◌∙◌, [], ◌∷◌, ap, codes, arith}
use Rattle.av1_cdf.specs.Layout.{slot}
use Rattle.av1_cdf.proofs.Cells.{slot_within}
use Rattle.av1_syntax.proofs.InterWrites.{two_refused, two_wrote}
use Rattle.av1_syntax.proofs.Moving.{moves_then}
use Rattle.av1_syntax.proofs.context_writer.ContextWriter.write_two.Goals as goal

pub symbol-requires-clause-s : goal.symbol-requires-clause-s
symbol-requires-clause-s g c = let q = c.comp_ref_type_cdf-cdf.result in omega (arith, (slot_within q.place q.len q.is_slot).1)

pub returns-in_err-symbol-clause-wrote : goal.returns-in_err-symbol-clause-wrote
returns-in_err-symbol-clause-wrote g c =
    two_refused c.from_residual.result c.args.self.now.bc.blocks c.args.bo.0 c.args.contexts c.args.first c.args.second _ (c.comp_ref_type_cdf-cdf.ensures ∙ ap (λ k. slot (codes "comp_ref_type_cdf") (k ∷ [])) c.get_comp_ref_type_ctx.ensures.value) _ _
    c.requires.few ((c.requires.first_from, c.requires.first_to), (c.requires.second_from, c.requires.second_to)) c.from_residual.ensures.0 c.in_err-symbol.ensures.err

pub returns-clause-wrote : goal.returns-clause-wrote
returns-clause-wrote g c =
    two_wrote c.write_pair.result c.args.self.now.bc.blocks c.args.bo.0 c.args.contexts c.args.first c.args.second _ (c.comp_ref_type_cdf-cdf.ensures ∙ ap (λ k. slot (codes "comp_ref_type_cdf") (k ∷ [])) c.get_comp_ref_type_ctx.ensures.value) _ _ _
    c.in_ok-symbol.ensures.ok c.write_pair.ensures.wrote

pub returns-clause-moves : goal.returns-clause-moves
returns-clause-moves g c = moves_then g.W.Known 13 52 65 _ _ _ _ _ _ _ _ _ (omega arith) c.in_ok-symbol.ensures.moves c.write_pair.ensures.moves
