use Rattle.std.proofs.Common.{◌≡◌, ◌++◌, Bool, List, ◌∙◌, ap, arith, length, length-append}
use Rattle.av1_header.specs.Metadata.{obu_header}
use Rattle.av1_model.specs.Bits.{bits_of_bytes}
use Rattle.av1_model.specs.Codes.{leb128}
use Rattle.av1_model.specs.WholeBytes.{to_bytes}
use Rattle.av1_model.proofs.BitsBytes.{length-bits_of_bytes}
use Rattle.av1_model.proofs.CodesLeb128.{leb128-bytes}
use Rattle.av1_model.proofs.WholeBytes.{to_bytes-append}
use Rattle.av1_unit.specs.Framing.{bits_of_rows, obu_head}
use Rattle.av1_unit.proofs.Heads.{length-header}
use Rattle.av1_unit.proofs.framing.obu_head.Goals as goal

pub whole_bytes-requires : goal.whole_bytes-requires
whole_bytes-requires c =
    let head = bits_of_rows obu_header c.args.obu_type in
    let bytes = leb128 c.args.len in
    let written : c.write_uleb128.new.self ≡ head ++ bits_of_bytes bytes =
    c.in_ok-write_uleb128.ensures.ok ∙ ap (λ (l : List Bool). l ++ bits_of_bytes bytes) (c.in_ok-write_obu_header.ensures.grown ∙ ap (λ (l : List Bool). l ++ head) c.new-bits.ensures) in
    omega (arith, ap (λ (l : List Bool). length l) written, length-append head (bits_of_bytes bytes), length-bits_of_bytes bytes, length-header c.args.obu_type)

pub returns : goal.returns
unfolding obu_head
returns c =
    let head = bits_of_rows obu_header c.args.obu_type in
    let bytes = leb128 c.args.len in
    let written : c.write_uleb128.new.self ≡ head ++ bits_of_bytes bytes =
    c.in_ok-write_uleb128.ensures.ok ∙ ap (λ (l : List Bool). l ++ bits_of_bytes bytes) (c.in_ok-write_obu_header.ensures.grown ∙ ap (λ (l : List Bool). l ++ head) c.new-bits.ensures) in
    c.whole_bytes.ensures ∙ ap (λ (l : List Bool). to_bytes l) written ∙ to_bytes-append head bytes (length-header c.args.obu_type) (leb128-bytes c.args.len)
