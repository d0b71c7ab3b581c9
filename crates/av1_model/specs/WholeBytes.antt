-- Bits that are whole bytes, as bytes.
use Rattle.std.specs.Prelude.{ℕ, zero, suc, ◌/◌, List, [], ◌∷◌, Bool, length, take, drop}
use Rattle.av1_model.specs.Bits.{number_of}

-- the first n bytes of bits
abbrev pub bytes_from : ℕ → List Bool → List ℕ
bytes_from zero bits = []
bytes_from (suc n) bits = number_of (take 8 bits) ∷ bytes_from n (drop 8 bits)

-- the bytes that have these bits
abbrev pub to_bytes : List Bool → List ℕ
to_bytes bits = bytes_from (length bits / 8) bits
