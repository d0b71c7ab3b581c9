-- The codes of AV1's headers and tiles, as lists of bits and of bytes.
use Rattle.std.specs.Prelude.{◌≡◌, ℕ, zero, suc, ◌+◌, ◌-◌, ◌*◌, ◌/◌, ◌%◌, ◌^◌, ◌<◌, ℤ, pos, ◌+ℤ◌, unsigned_abs}
use Rattle.std.specs.Prelude.{List, [], ◌∷◌, ◌++◌, length, Option, Some, None, option_map, Bool, true, false, nat_eq, nat_lt, nat_le, if◌then◌else◌}
use Rattle.std.specs.Int.Digits.{digits_of}
use Rattle.av1_model.specs.Bits.{has_bit, bits_of}

-- how many binary digits n has
abbrev pub binary_digits : ℕ → ℕ
binary_digits n = length (digits_of 2 n)

-- how many of n values have a shorter word than the others
abbrev pub short_words : ℕ → ℕ
short_words n = 2 ^ binary_digits n - n

-- quasi-uniform, one of n values: ns(n) of the AV1 specification
unfoldable pub quniform : ℕ → ℕ → List Bool
quniform n v =
    let l = binary_digits n in
    let m = short_words n in
    if nat_lt n 2 then [] else if nat_lt v m then bits_of (l - 1) v else bits_of (l - 1) (m + (v - m) / 2) ++ has_bit (v - m) 0 ∷ []

-- one of n values at width b: the last ones quasi-uniform, the lowest 2 ^ b after a 0, and the rest after a 1
abbrev pub subexp_step : ℕ → ℕ → ℕ → List Bool → List Bool
subexp_step b n v rest = if nat_le n (3 * 2 ^ b) then quniform n v else if nat_lt v (2 ^ b) then false ∷ bits_of b v else true ∷ rest

-- the same at widths that rise by one, in so many steps, of which n are enough
abbrev pub subexp_from : ℕ → ℕ → ℕ → ℕ → List Bool
subexp_from zero b n v = []
subexp_from (suc steps) b n v = subexp_step b n v (subexp_from steps (suc b) (n - 2 ^ b) (v - 2 ^ b))

-- subexponential, one of n values, at widths k, k, k + 1 and so on
unfoldable pub subexp : ℕ → ℕ → ℕ → List Bool
subexp n k v = subexp_step k n v (subexp_from n k (n - 2 ^ k) (v - 2 ^ k))

-- v by its distance from r, above and below in turn, as long as there are values below
abbrev pub recenter : ℕ → ℕ → ℕ
recenter r v = if nat_lt (2 * r) v then v else if nat_le r v then 2 * (v - r) else 2 * (r - v) - 1

-- the value at a distance: inverse_recenter() of the AV1 specification
abbrev pub inverse_recenter : ℕ → ℕ → ℕ
inverse_recenter r d = if nat_lt (2 * r) d then d else if nat_eq (d % 2) 0 then r + d / 2 else r - (d + 1) / 2

-- one of n values by its distance from r, from the side on which r is nearer to the end
abbrev pub recenter_finite : ℕ → ℕ → ℕ → ℕ
recenter_finite n r v = if nat_le (2 * r) n then recenter r v else recenter (n - 1 - r) (n - 1 - v)

-- the value at such a distance
abbrev pub inverse_recenter_finite : ℕ → ℕ → ℕ → ℕ
inverse_recenter_finite n r d = if nat_le (2 * r) n then inverse_recenter r d else n - 1 - inverse_recenter (n - 1 - r) d

-- subexponential with a reference
abbrev pub refsubexp : ℕ → ℕ → ℕ → ℕ → List Bool
refsubexp n k r v = subexp n k (recenter_finite n r v)

-- a number above -n, counted from there
abbrev pub counted_from : ℕ → ℤ → ℕ
counted_from n z = unsigned_abs (z +ℤ pos (n - 1))

-- the same for numbers from -(n - 1) to n - 1
abbrev pub signed_refsubexp : ℕ → ℕ → ℤ → ℤ → List Bool
signed_refsubexp n k r v = refsubexp (2 * n - 1) k (counted_from n r) (counted_from n v)

-- no word is the beginning of another, and each of n values has a word of its own
abbrev pub IsPrefixCode : ℕ → (ℕ → List Bool) → Type 0
IsPrefixCode n word = (v w : ℕ) (xs ys : List Bool) → v < n → w < n → word v ++ xs ≡ word w ++ ys → v ≡ w

-- seven bits a byte, the lowest first, with 128 where a byte follows, of which there are so many at most
abbrev pub leb128_within : ℕ → ℕ → List ℕ
leb128_within zero v = v ∷ []
leb128_within (suc more) v = if nat_lt v 128 then v ∷ [] else (128 + v % 128) ∷ leb128_within more (v / 128)

-- a number in LEB128: leb128() of the AV1 specification
unfoldable pub leb128 : ℕ → List ℕ
leb128 v = leb128_within v v

-- the number at the front of bytes, and the bytes after it
abbrev pub leb128_read : List ℕ → Option (ℕ × List ℕ)
leb128_read [] = None
leb128_read (byte ∷ bytes) = if nat_lt byte 128 then Some (byte, bytes) else option_map (λ r. (byte - 128 + 128 * r.0, r.1)) (leb128_read bytes)
