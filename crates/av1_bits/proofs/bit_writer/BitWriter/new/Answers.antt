use Rattle.std.proofs.Common.{◌++◌, ap, ◌∙◌, List, ℕ}
use Rattle.av1_model.specs.Bits.{bits_of, bits_of_bytes}
use Rattle.av1_model.proofs.BitsNumbers.{bits_of-zero}
use Rattle.av1_bits.proofs.bit_writer.BitWriter.new.Goals as goal

pub returns : goal.returns
returns c = ap (λ (l : List ℕ). bits_of_bytes l ++ bits_of 0 0) c.new.ensures.items ∙ bits_of-zero 0
