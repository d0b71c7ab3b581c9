use Rattle.std.proofs.Common.{◌≡◌, ◌++◌, Bool, List, ℕ, ◌∙◌, ap, arith, length}
use Rattle.std.specs.Int.{bytes_low_first}
use Rattle.av1_model.specs.Bits.{bits_of_bytes}
use Rattle.av1_model.specs.WholeBytes.{to_bytes}
use Rattle.av1_model.proofs.BitsBytes.{length-bits_of_bytes}
use Rattle.av1_model.proofs.WholeBytes.{to_bytes-bits_of_bytes}
use Rattle.av1_unit.proofs.Heads.{low_bytes}
use Rattle.av1_unit.proofs.framing.push_size.Goals as goal

pub whole_bytes-requires : goal.whole_bytes-requires
whole_bytes-requires c =
    let bytes = bytes_low_first 0 c.args.width c.args.size in
    let written : c.write_le.new.self ≡ bits_of_bytes bytes = c.in_ok-write_le.ensures.ok ∙ ap (λ (l : List Bool). l ++ bits_of_bytes bytes) c.new-bits.ensures in
    omega (arith, ap (λ (l : List Bool). length l) written, length-bits_of_bytes bytes)

pub returns : goal.returns
returns c =
    let bytes = bytes_low_first 0 c.args.width c.args.size in
    let written : c.write_le.new.self ≡ bits_of_bytes bytes = c.in_ok-write_le.ensures.ok ∙ ap (λ (l : List Bool). l ++ bits_of_bytes bytes) c.new-bits.ensures in
    let whole : c.deref.result.now ≡ bytes = c.deref.ensures.value ∙ c.whole_bytes.ensures ∙ ap to_bytes written ∙ to_bytes-bits_of_bytes bytes (low_bytes 0 c.args.width c.args.size) in
    c.in_ok-extend_from_slice.ensures.items ∙ ap (λ (l : List ℕ). c.args.bytes.now.items ++ l) whole
