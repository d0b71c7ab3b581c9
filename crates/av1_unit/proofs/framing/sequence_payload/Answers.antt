use Rattle.std.proofs.Common.{◌≡◌, ◌++◌, [], ◌∷◌, Bool, List, true, ◌∙◌, ap}
use Rattle.av1_header.specs.SequenceHeader.{sequence_header}
use Rattle.av1_model.specs.Bits.{byte_aligned}
use Rattle.av1_model.specs.WholeBytes.{to_bytes}
use Rattle.av1_step.specs.Given.{given_of}
use Rattle.av1_unit.specs.Framing.{bits_of_rows, sequence_payload}
use Rattle.av1_unit.proofs.HeaderBytes.{only_header_read}
use Rattle.av1_unit.proofs.Headers.{sequence_fits}
use Rattle.av1_unit.proofs.framing.sequence_payload.Goals as goal

pub write_sequence_header_obu-requires : goal.write_sequence_header_obu-requires
write_sequence_header_obu-requires c = sequence_fits (given_of c.args.unit.now) c.requires.given

pub returns-clause-is : goal.returns-clause-is
unfolding sequence_payload
returns-clause-is c =
    let rows = bits_of_rows sequence_header c.args.unit.now.fi in
    let written : c.write_bit.new.self ≡ rows ++ true ∷ [] =
    c.in_ok-write_bit.ensures.ok ∙ ap (λ (l : List Bool). l ++ true ∷ []) (c.in_ok-write_sequence_header_obu.ensures.grown ∙ ap (λ (l : List Bool). l ++ rows) c.new-bits.ensures) in
    c.whole_bytes.ensures ∙ ap (λ (l : List Bool). to_bytes l) (c.in_ok-byte_align.ensures.ok ∙ ap byte_aligned written)

pub returns-clause-header : goal.returns-clause-header
unfolding sequence_payload
returns-clause-header c = only_header_read sequence_header c.args.unit.now.fi (true ∷ []) c.in_ok-write_sequence_header_obu.ensures.back
