use Rattle.std.proofs.Common.{◌≡◌, ◌++◌, ◌<◌, ◌^◌, List, ℕ, length, sym, ap, ◌∙◌, subst}
use Rattle.av1_frame.specs.declared.obu.ObuType.TheVariants.{OBU_FRAME}
use Rattle.av1_step.specs.Given.{given_of}
use Rattle.av1_unit.specs.Framing.{bytes_of_obus, delimiter_obus, frame_payload, message_obus, sequence_obus, size_bytes, with_payload}
use Rattle.av1_unit.proofs.ObuLengths.{framed_parts, short_frame, short_sequence}
use Rattle.av1_unit.proofs.framing.frame_unit.Goals as goal

pub push_sequence-requires-clause-short : goal.push_sequence-requires-clause-short
push_sequence-requires-clause-short c key = short_sequence (given_of c.args.unit.now) c.args.tiles.now c.requires.short key

pub frame_payload-requires-clause-width : goal.frame_payload-requires-clause-width
frame_payload-requires-clause-width c = c.size_bytes.ensures.value ∙ ap size_bytes (sym c.requires.told)

pub frame_payload-requires-clause-short : goal.frame_payload-requires-clause-short
frame_payload-requires-clause-short c = short_frame (given_of c.args.unit.now) c.args.tiles.now c.requires.short

pub push_obu-requires : goal.push_obu-requires
push_obu-requires c =
    let g = given_of c.args.unit.now in
    let is : c.deref.result.now ≡ frame_payload g c.args.tiles.now = c.deref.ensures.value ∙ c.in_ok-frame.ensures.is in
    subst (λ (l : List ℕ). length l < 2 ^ 32) (sym is) (short_frame g c.args.tiles.now c.requires.short)

pub returns-clause-framed : goal.returns-clause-framed
returns-clause-framed c =
    let g = given_of c.args.unit.now in
    let tiles = c.args.tiles.now in
    let is : c.deref.result.now ≡ frame_payload g tiles = c.deref.ensures.value ∙ c.in_ok-frame.ensures.is in
    let first : c.push_delimiter.new.bytes.items ≡ bytes_of_obus (delimiter_obus g) = c.in_ok-push_delimiter.ensures ∙ ap (λ (l : List ℕ). l ++ bytes_of_obus (delimiter_obus g)) c.new-bytes.ensures.items in
    let second : c.push_sequence.new.bytes.items ≡ bytes_of_obus (delimiter_obus g) ++ bytes_of_obus (sequence_obus g) = c.in_ok-push_sequence.ensures.grown ∙ ap (λ (l : List ℕ). l ++ bytes_of_obus (sequence_obus g)) first in
    let third : c.push_messages.new.bytes.items ≡ bytes_of_obus (delimiter_obus g) ++ bytes_of_obus (sequence_obus g) ++ bytes_of_obus (message_obus g) =
    c.in_ok-push_messages.ensures.grown ∙ ap (λ (l : List ℕ). l ++ bytes_of_obus (message_obus g)) second in
    c.in_ok-push_obu.ensures ∙ ap (λ (l : List ℕ). l ++ (with_payload OBU_FRAME c.deref.result.now).bytes) third
    ∙ ap (λ (l : List ℕ). bytes_of_obus (delimiter_obus g) ++ bytes_of_obus (sequence_obus g) ++ bytes_of_obus (message_obus g) ++ (with_payload OBU_FRAME l).bytes) is
    ∙ sym (framed_parts g tiles)

pub returns-clause-headers : goal.returns-clause-headers
returns-clause-headers c = record { sequence = c.in_ok-push_sequence.ensures.header; messages = c.in_ok-push_messages.ensures.headers; frame = c.in_ok-frame.ensures.header }
