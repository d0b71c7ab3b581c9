use Rattle.std.proofs.Common.{ℕ, List, [], ◌∷◌, ◌++◌, codes, ap, ◌∙◌}
use Rattle.std.specs.Borrow.{Bor}
use Rattle.std.proofs.lemmas.List.{map-append}
use Rattle.av1_cdf.specs.declared.run.Run.{Run}
use Rattle.av1_cdf.specs.Layout.{layout}
use Rattle.av1_cdf.specs.FieldMap.{Entry, entries_of, entry_of, field_map}
use Rattle.av1_cdf.proofs.Names.{all_fit}
use Rattle.av1_cdf.proofs.cdf_context.CDFContext.build_map.Goals as goal

pub entries-requires : goal.entries-requires
entries-requires c = search (all_fit (λ (field : Bor (List ℕ) × Run). field.1))

pub returns : goal.returns
unfolding field_map layout
returns c =
    ap entries_of c.in_ok-push.ensures.items ∙ map-append entry_of _ _
    ∙ ap (λ (es : List Entry). es ++ (codes "nmv_context", 5400, 5528) ∷ []) c.in_ok-map.ensures
