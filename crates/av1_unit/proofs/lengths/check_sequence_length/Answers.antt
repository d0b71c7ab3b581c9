use Rattle.std.proofs.Common.{◌≡◌, ◌∙◌, List, ℕ, sym, ap, subst, length, rules}
use Rattle.av1_step.specs.Given.{given_of}
use Rattle.av1_unit.specs.Findings.{length_wrong, Finds}
use Rattle.av1_unit.specs.Framing.{sequence_payload}
use Rattle.av1_unit.specs.Lengths.{count_of}
use Rattle.av1_unit.proofs.ObuLengths.{found_sequence, no_sequence}
use Rattle.av1_unit.proofs.TileSizes.{as_count}
use Rattle.av1_unit.proofs.lengths.check_sequence_length.Goals as goal

pub returns-in_ok-payload : goal.returns-in_ok-payload
returns-in_ok-payload c =
    let g = given_of c.args.unit.now in
    let len : c.len.result ≡ length c.in_ok-payload.payload.items = search rules in
    let size : c.len.result ≡ length (sequence_payload g) = len ∙ ap (λ (l : List ℕ). length l) c.in_ok-payload.ensures.is in
    let index : c.from.result ≡ count_of g.delimiter = c.from.ensures ∙ as_count g.delimiter in
    found_sequence c.check_length.result g (count_of g.delimiter) (sym c.is_key.ensures ∙ c.if-is_key.true)
    (subst (λ n. Finds c.check_length.result (length_wrong (count_of g.delimiter) n)) size (subst (λ n. Finds c.check_length.result (length_wrong n c.len.result)) index c.check_length.ensures))

pub returns-else-is_key : goal.returns-else-is_key
returns-else-is_key c = no_sequence (given_of c.args.unit.now) (count_of c.args.unit.now.delimiter) (sym c.is_key.ensures ∙ c.if-is_key.false)
