use Rattle.std.proofs.Common.{◌≡◌, Err, inl, inr, rules}
use Rattle.av1_step.specs.Given.{given_of}
use Rattle.av1_unit.proofs.ObuLengths.{found_frame, long_sequence}
use Rattle.av1_unit.proofs.lengths.check_lengths.Goals as goal

pub returns-in_err-check_sequence_length : goal.returns-in_err-check_sequence_length
returns-in_err-check_sequence_length c ts has =
    let g = given_of c.args.unit.now in
    let e = c.in_err-check_sequence_length.field-0.0 in
    let is : c.from_residual.result ≡ Err e = search rules in
    rw is (elim c.in_err-check_sequence_length.ensures [ inl m ↦ inl m | inr h ↦ inr (long_sequence g ts e h) ])

pub returns : goal.returns
returns c ts has =
    found_frame c.check_length.result (given_of c.args.unit.now) ts c.obus_before_frame.result c.in_ok-len.len c.requires.checked.messages c.in_ok-check_sequence_length.ensures c.obus_before_frame.ensures
    (c.in_ok-len.ensures ts has) c.check_length.ensures
