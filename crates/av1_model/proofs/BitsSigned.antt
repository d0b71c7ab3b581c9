-- The bits of numbers in two's complement.
use Rattle.std.proofs.Common.{◌≡◌, ℕ, zero, suc, ◌+◌, ◌-◌, ◌*◌, ◌/◌, ◌%◌, ◌^◌, ◌<◌, ◌≤◌, List, ◌∷◌, Bool, not, nat_eq, map, refl, ◌∙◌, ap, arith, ℤ, pos, negsuc}
use Rattle.std.proofs.lemmas.Nat.{pow-add, pow_pos, div-mul-add, div-add-mod'}
use Rattle.std.proofs.lemmas.Bool.Decides.{nat_tests}
use Rattle.std.specs.Int.{cast_unsigned, w64}
use Rattle.std.specs.Int.RustNames.{FitsSigned}
use Rattle.std.proofs.Math.Nat.{div-lt_iff_lt-mul}
use Rattle.av1_model.specs.Bits.{has_bit, bits_of, signed_bits_of}

complement_parts : (half p q r v all : ℕ) → all ≡ half * 2 * p → q * p + r ≡ v → r < p → q < half * 2 → all - suc v ≡ (half * 2 - 1 - q) * p + (p - 1 - r)
complement_parts half p q r v all is parts low high =
    let a = half * 2 - 1 - q in
    let e : half * 2 ≡ a + q + 1 = omega arith in
    let all' : all ≡ (a + q + 1) * p = is ∙ ap (λ x. x * p) e in
    omega (arith, all')

-- a bit of what is left of 2 ^ w after v
has_bit-complement : (w k v : ℕ) → k < w → v < 2 ^ w → has_bit (2 ^ w - suc v) k ≡ not (has_bit v k)
has_bit-complement w k v within below =
    let j = w - k - 1 in
    let q = v / 2 ^ k in
    let p : 2 ^ w ≡ 2 ^ j * 2 * 2 ^ k = ap (λ m. 2 ^ m) (let e : w ≡ j + 1 + k = omega arith in e) ∙ pow-add 2 (j + 1) k ∙ ap (λ x. x * 2 ^ k) (omega (arith, pow-add 2 j 1)) in
    let parts : v / 2 ^ k * 2 ^ k + v % 2 ^ k ≡ v = div-add-mod' v (2 ^ k) in
    let low : v % 2 ^ k < 2 ^ k = omega (arith, pow_pos k) in
    let less : q < 2 ^ j * 2 = (div-lt_iff_lt-mul (pow_pos k)).1 (let h : v < 2 ^ j * 2 * 2 ^ k = omega (arith, below, p) in h) in
    let high : (2 ^ w - suc v) / 2 ^ k ≡ 2 ^ j * 2 - 1 - q =
    ap (λ x. x / 2 ^ k) (complement_parts (2 ^ j) (2 ^ k) q (v % 2 ^ k) v (2 ^ w) p parts low less) ∙ div-mul-add (2 ^ j * 2 - 1 - q) (2 ^ k) (2 ^ k - 1 - v % 2 ^ k) (omega (arith, pow_pos k)) in
    let odd : (2 ^ j * 2 - 1 - q) % 2 ≡ 1 - q % 2 = omega (arith, less) in
    ap (λ x. nat_eq (x % 2) 1) high ∙ ap (λ x. nat_eq x 1) odd ∙ grind (arith, nat_tests)

bits_of-complement : (n w v : ℕ) → n ≤ w → v < 2 ^ w → bits_of n (2 ^ w - suc v) ≡ map not (bits_of n v)
unfolding bits_of
bits_of-complement zero w v within below = refl
bits_of-complement (suc n) w v within below =
    ap (λ (b : Bool). b ∷ bits_of n (2 ^ w - suc v)) (has_bit-complement w n v within below) ∙ ap (λ (l : List Bool). not (has_bit v n) ∷ l) (bits_of-complement n w v (omega arith) below)

-- the lowest bits of a signed number are those of the unsigned number that it is cast to
pub signed_bits_of-cast : (n : ℕ) (v : ℤ) → n ≤ 64 → FitsSigned w64 v → bits_of n (cast_unsigned w64 v) ≡ signed_bits_of n v
signed_bits_of-cast n (pos k) few fits = refl
signed_bits_of-cast n (negsuc k) few fits = bits_of-complement n 64 k few (omega (arith, fits.sfits))
