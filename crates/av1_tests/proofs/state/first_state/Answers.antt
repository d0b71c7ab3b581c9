use Rattle.std.proofs.Common.{◌≡◌, false, Option, None, Some, refl, sym, ◌∙◌}
use Rattle.std.specs.Prelude.{is_some}
use Rattle.av1_step.specs.Given.{given_of, IsGiven}
use Rattle.av1_tests.proofs.state.first_state.Goals as goal

none_of : {X : Type 0} (o : Option X) → is_some o ≡ false → o ≡ None
none_of None h = refl
none_of (Some x) h = absurd cc

pub new-requires-clause-tile : goal.new-requires-clause-tile
new-requires-clause-tile c =
    let given : IsGiven (given_of c.args.unit.now) = record {
      tables = sym c.check_tables.ensures ∙ none_of c.check_tables.result (sym c.is_some.ensures ∙ c.if-is_some.false);
      scans = sym c.broken_scan_rule.ensures ∙ none_of c.broken_scan_rule.result (sym c.is_some-2.ensures ∙ c.if-is_some-2.false);
      sequence = sym c.check_sequence.ensures ∙ none_of c.check_sequence.result (sym c.is_some-3.ensures ∙ c.if-is_some-3.false);
      frame = sym c.check_frame.ensures ∙ none_of c.check_frame.result (sym c.is_some-4.ensures ∙ c.if-is_some-4.false);
    } in
    c.law_of_tile_counts.ensures.some (given_of c.args.unit.now) given
