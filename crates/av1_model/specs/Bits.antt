-- Bits as AV1's syntax tables write them, the highest first, and the bytes that hold them.
use Rattle.std.specs.Prelude.{◌≡◌, ℕ, zero, suc, ◌+◌, ◌-◌, ◌/◌, ◌%◌, ◌^◌, ℤ, pos, negsuc, List, [], ◌∷◌, ◌++◌, length, replicate, map}
use Rattle.std.specs.Prelude.{Bool, false, not, nat_eq, if◌then◌else◌}

-- whether bit k of v is set, where bit 0 is the lowest
abbrev pub has_bit : ℕ → ℕ → Bool
has_bit v k = nat_eq (v / 2 ^ k % 2) 1

-- the n lowest bits of v: f(n) of the AV1 specification
unfoldable pub bits_of : ℕ → ℕ → List Bool
bits_of zero v = []
bits_of (suc n) v = has_bit v n ∷ bits_of n v

-- the number that bits stand for
abbrev pub number_of : List Bool → ℕ
number_of [] = 0
number_of (bit ∷ bits) = (if bit then 2 ^ length bits else 0) + number_of bits

-- the bits of bytes
abbrev pub bits_of_bytes : List ℕ → List Bool
bits_of_bytes [] = []
bits_of_bytes (byte ∷ bytes) = bits_of 8 byte ++ bits_of_bytes bytes

-- bits that are whole bytes
abbrev pub IsByteAligned : List Bool → Type 0
IsByteAligned bits = length bits % 8 ≡ 0

-- bits, and zero bits up to a whole byte: byte_alignment() of the AV1 specification
abbrev pub byte_aligned : List Bool → List Bool
byte_aligned bits = bits ++ replicate ((8 - length bits % 8) % 8) false

-- the n lowest bits of v in two's complement, where -1 - k is k with each bit turned over: su(n) of the AV1 specification
abbrev pub signed_bits_of : ℕ → ℤ → List Bool
signed_bits_of n (pos k) = bits_of n k
signed_bits_of n (negsuc k) = map not (bits_of n k)
