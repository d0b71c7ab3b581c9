-- The words of codes as numbers of so many bits.
use Rattle.std.proofs.Common.{◌≡◌, ℕ, zero, suc, ◌+◌, ◌-◌, ◌*◌, ◌%◌, ◌^◌, ◌<◌, ◌≤◌, List, ◌∷◌, ◌++◌, Bool, false, nat_eq, replicate, ap, ◌∙◌, arith}
use Rattle.std.proofs.lemmas.Nat.{pow_pos, pow_below}
use Rattle.std.proofs.Math.Nat.{div-eq_of_lt, mod-eq_of_lt, mul-le-mul_right}
use Rattle.std.proofs.Math.Pow.{pow_mono}
use lib.Count.{count_leading_zeros}
use Rattle.av1_model.specs.Bits.{has_bit, bits_of}
use Rattle.av1_model.specs.Codes.{binary_digits}
use Rattle.av1_model.proofs.BitsNumbers.{bits_of-zero, bits_of-suc, bits_of-split}
use Rattle.av1_model.proofs.CodesDigits.{binary_digits-leading, binary_digits-few}
use Rattle.av1_codes.specs.Codes.{golomb}

-- shifts of small numbers that lose nothing
pub one_fits : (n k : ℕ) → n < k → 1 * 2 ^ n % 2 ^ k ≡ 2 ^ n
one_fits n k few =
    let small : 2 ^ n < 2 ^ k = pow_below n k few in
    ap (λ x. x % 2 ^ k) (let e : 1 * 2 ^ n ≡ 2 ^ n = omega arith in e) ∙ mod-eq_of_lt small

pub width_fits : (a b : ℕ) → a ≤ 3 → b ≤ 23 → a * 2 ^ b % 4294967296 ≡ a * 2 ^ b
width_fits a b few width =
    let p : 2 ^ b < 2 ^ 24 = pow_below b 24 (omega (arith, width)) in
    let product : a * 2 ^ b ≤ 3 * 2 ^ b = mul-le-mul_right (2 ^ b) few in
    mod-eq_of_lt (let h : a * 2 ^ b < 4294967296 = omega (arith, product, p) in h)

-- how many binary digits a number of 32 bits has
pub digits_of_word : (n : ℕ) → 1 ≤ n → n < 2 ^ 32 → 32 - count_leading_zeros 32 n ≡ binary_digits n
digits_of_word n some few = omega (arith, binary_digits-leading 32 n some few)

-- zero bits
bits_of-nothing : (n : ℕ) → bits_of n 0 ≡ replicate n false
bits_of-nothing zero = bits_of-zero 0
bits_of-nothing (suc n) =
    let unset : has_bit 0 n ≡ false = ap (λ q. nat_eq (q % 2) 1) (div-eq_of_lt (pow_pos n)) in
    bits_of-suc n 0 ∙ ap (λ (b : Bool). b ∷ bits_of n 0) unset ∙ ap (λ (l : List Bool). false ∷ l) (bits_of-nothing n)

-- the digits of a number, after zeros
pub golomb_is : (level l : ℕ) → l ≡ binary_digits (level + 1) → 1 ≤ l → level + 1 < 2 ^ l → bits_of (2 * l - 1) (level + 1) ≡ golomb level
golomb_is level l e some below =
    let n : 2 * l - 1 ≡ (l - 1) + l = omega (arith, some) in
    ap (λ k. bits_of k (level + 1)) n ∙ bits_of-split (l - 1) l (level + 1)
    ∙ ap (λ q. bits_of (l - 1) q ++ bits_of l (level + 1)) (div-eq_of_lt below)
    ∙ ap (λ (z : List Bool). z ++ bits_of l (level + 1)) (bits_of-nothing (l - 1))
    ∙ ap (λ k. replicate (k - 1) false ++ bits_of k (level + 1)) e

pub digits_few : (n d : ℕ) → d ≡ binary_digits n → 2 ≤ n → n ≤ 2 ^ 24 → d ≤ 25
digits_few n d e some few = omega (arith, e, binary_digits-few 24 n (omega (arith, some)) few)

pub golomb_fits : (x l : ℕ) → 1 ≤ l → x < 2 ^ l → x < 2 ^ (2 * l - 1)
golomb_fits x l some below = omega (arith, below, pow_mono {i = l} {j = 2 * l - 1} (omega (arith, some)))
