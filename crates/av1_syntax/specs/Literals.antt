-- Numbers in bits that are as likely as not.
use Rattle.std.specs.Prelude.{ℕ}
use Rattle.av1_cdf.specs.Distribution.{Distribution, Even}
use Rattle.av1_ec.specs.CodeTrees.{code, literal_tree}
use Rattle.av1_model.specs.Bits.{bits_of}
use Rattle.av1_model.specs.Element.{Element}

-- a number of so many bits, the highest first: L(n) of the AV1 specification
abbrev pub literal : ℕ → Element Distribution ℕ
literal bits = code (literal_tree Even bits) (bits_of bits)
