use Rattle.std.proofs.Common.{map, ap, sym, ◌∙◌}
use Rattle.av1_cdf.specs.FieldMap.{entry_of, name_at}
use Rattle.av1_cdf.proofs.Names.{name_here}
use Rattle.av1_cdf.proofs.field_map.FieldMap.lookup.Goals as goal

pub returns-then-place-end : goal.returns-then-place-end
returns-then-place-end c =
    sym (name_here c.args.place _ _ _ c.loop-name-test.true c.if-start-place.true c.if-place-end.true)
    ∙ sym c.loop-name.invariant ∙ ap (λ es. name_at c.args.place (map entry_of es)) c.deref-name-items.ensures.value
    ∙ ap (name_at c.args.place) c.self.view_is
