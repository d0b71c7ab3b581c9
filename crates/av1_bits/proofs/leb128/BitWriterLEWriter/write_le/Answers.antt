use Rattle.std.proofs.Common.{◌≡◌, ◌++◌, ◌∙◌, ap, subst, take, List, ℕ, OnOk}
use Rattle.av1_model.specs.Bits.{bits_of_bytes}
use Rattle.av1_model.proofs.BitsBytes.{take-bytes_low_first}
use Rattle.av1_bits.proofs.leb128.BitWriterLEWriter.write_le.Goals as goal

pub returns-clause-ok : goal.returns-clause-ok
returns-clause-ok c =
    let n = c.args.bytes in
    let front = ap (λ (l : List ℕ). take n l) c.to_le_bytes.ensures ∙ take-bytes_low_first n 0 8 c.args.payload c.requires.few in
    subst (λ (l : List ℕ). OnOk c.write_bytes.result (c.write_bytes.new.self ≡ c.args.self.now ++ bits_of_bytes l)) front c.write_bytes.ensures.ok
