use Rattle.std.proofs.Common.{◌≡◌, true, Some, refl, sym, ap, ◌∙◌}
use Rattle.std.specs.Str.Parse.{digits_value}
use Rattle.av1_program.specs.Words.{is_number}
use Rattle.av1_program.proofs.Numbers.{number_below, parsed}
use Rattle.av1_program.proofs.words.number_named.Goals as goal

pub returns-then-is_number-clause-value : goal.returns-then-is_number-clause-value
returns-then-is_number-clause-value c =
    let text = c.args.text.now in
    let is : is_number text ≡ true = ap is_number (sym c.as_bytes.ensures.value) ∙ sym c.is_number.ensures ∙ c.if-is_number.true in
    rw is (c.ok.ensures.value ∙ rw (parsed text c.parse.result is c.parse.ensures.value.0) refl)

pub returns-then-is_number-clause-below : goal.returns-then-is_number-clause-below
returns-then-is_number-clause-below c =
    let text = c.args.text.now in
    let is : is_number text ≡ true = ap is_number (sym c.as_bytes.ensures.value) ∙ sym c.is_number.ensures ∙ c.if-is_number.true in
    let named : c.ok.result ≡ Some (digits_value 10 text) = c.ok.ensures.value ∙ rw (parsed text c.parse.result is c.parse.ensures.value.0) refl in
    rw named (number_below text is)
