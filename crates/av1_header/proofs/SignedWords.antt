-- su(n) is a prefix code.
use Rattle.std.proofs.Common.{◌≡◌, ℕ, zero, suc, ◌+◌, ◌-◌, ◌*◌, ◌/◌, ◌%◌, ◌<◌, ◌≤◌, ◌^◌, ◌∷◌, nat_eq, refl, ◌++◌, List, Bool, ◌∙◌, sym, ap, arith, ℤ, pos, negsuc, inl, inr, map, not}
use Rattle.std.specs.Prelude.{◌-ℤ◌, unsigned_abs}
use Rattle.std.proofs.lemmas.Bool.{cases_lt}
use Rattle.std.proofs.lemmas.Int.{ints}
use Rattle.std.proofs.lemmas.Nat.{pow-add, pow_pos, div-mul-add, div-add-mod'}
use Rattle.std.proofs.lemmas.Bool.Decides.{nat_tests}
use Rattle.std.proofs.Math.Nat.{div-lt_iff_lt-mul}
use Rattle.av1_model.specs.Bits.{has_bit, bits_of, signed_bits_of}
use Rattle.av1_model.specs.Codes.{IsPrefixCode}
use Rattle.av1_model.proofs.BitsNumbers.{length-bits_of, bits_of-same}
use Rattle.av1_model.proofs.CodesPrefix.{same_fronts}
use Rattle.av1_header.specs.Rows.{su, HasSignedWord, InBits}

-- (the next three are of av1_model, where they are private)
complement_parts : (half p q r v all : ℕ) → all ≡ half * 2 * p → q * p + r ≡ v → r < p → q < half * 2 → all - suc v ≡ (half * 2 - 1 - q) * p + (p - 1 - r)
complement_parts half p q r v all is parts low high =
    let a = half * 2 - 1 - q in
    let e : half * 2 ≡ a + q + 1 = omega arith in
    let all' : all ≡ (a + q + 1) * p = is ∙ ap (λ x. x * p) e in
    omega (arith, all')

-- a bit of what is left of 2 ^ w after v
has_bit-complement : (w k v : ℕ) → k < w → v < 2 ^ w → has_bit (2 ^ w - suc v) k ≡ not (has_bit v k)
has_bit-complement w k v within below =
    let j = w - k - 1 in
    let q = v / 2 ^ k in
    let p : 2 ^ w ≡ 2 ^ j * 2 * 2 ^ k = ap (λ m. 2 ^ m) (let e : w ≡ j + 1 + k = omega arith in e) ∙ pow-add 2 (j + 1) k ∙ ap (λ x. x * 2 ^ k) (omega (arith, pow-add 2 j 1)) in
    let parts : v / 2 ^ k * 2 ^ k + v % 2 ^ k ≡ v = div-add-mod' v (2 ^ k) in
    let low : v % 2 ^ k < 2 ^ k = omega (arith, pow_pos k) in
    let less : q < 2 ^ j * 2 = (div-lt_iff_lt-mul (pow_pos k)).1 (let h : v < 2 ^ j * 2 * 2 ^ k = omega (arith, below, p) in h) in
    let high : (2 ^ w - suc v) / 2 ^ k ≡ 2 ^ j * 2 - 1 - q =
    ap (λ x. x / 2 ^ k) (complement_parts (2 ^ j) (2 ^ k) q (v % 2 ^ k) v (2 ^ w) p parts low less) ∙ div-mul-add (2 ^ j * 2 - 1 - q) (2 ^ k) (2 ^ k - 1 - v % 2 ^ k) (omega (arith, pow_pos k)) in
    let odd : (2 ^ j * 2 - 1 - q) % 2 ≡ 1 - q % 2 = omega (arith, less) in
    ap (λ x. nat_eq (x % 2) 1) high ∙ ap (λ x. nat_eq x 1) odd ∙ grind (arith, nat_tests)

bits_of-complement : (n w v : ℕ) → n ≤ w → v < 2 ^ w → bits_of n (2 ^ w - suc v) ≡ map not (bits_of n v)
unfolding bits_of
bits_of-complement zero w v within below = refl
bits_of-complement (suc n) w v within below =
    ap (λ (b : Bool). b ∷ bits_of n (2 ^ w - suc v)) (has_bit-complement w n v within below) ∙ ap (λ (l : List Bool). not (has_bit v n) ∷ l) (bits_of-complement n w v (omega arith) below)

-- what stands in the bits: the number itself, or 2 ^ n more
record Stands (n h k : ℕ) : Type 0 where
  at : ℕ
  below : at < 2 ^ n
  bits : signed_bits_of n (pos k -ℤ pos h) ≡ bits_of n at
  low : k < h → at ≡ k + h
  high : h ≤ k → at + h ≡ k

stands : (n h k : ℕ) → h + h ≡ 2 ^ n → k < 2 ^ n → Stands n h k
stands n h k half below = elim (cases_lt k h) [
  | inl l ↦
      let d = h - k - 1 in
      let neg : pos k -ℤ pos h ≡ negsuc d = omega (arith, ints) in
      let small : d < 2 ^ n = omega arith in
      let e : 2 ^ n - suc d ≡ k + h = omega arith in
      record {
        at = k + h;
        below = omega arith;
        bits = ap (signed_bits_of n) neg ∙ sym (bits_of-complement n n d (omega arith) small) ∙ ap (bits_of n) e;
        low = λ _. omega arith;
        high = λ g. absurd (omega (arith, l, g));
      }
  | inr g ↦
      let same : pos k -ℤ pos h ≡ pos (k - h) = omega (arith, ints) in
      record {
        at = k - h;
        below = omega arith;
        bits = ap (signed_bits_of n) same;
        low = λ l. absurd (omega (arith, l, g));
        high = λ _. omega arith;
      }
]

apart : (n h v w : ℕ) → (a : Stands n h v) → (b : Stands n h w) → v < 2 ^ n → w < 2 ^ n → h + h ≡ 2 ^ n → a.at ≡ b.at → v ≡ w
apart n h v w a b p q half e = elim (cases_lt v h) [
  | inl l ↦ elim (cases_lt w h) [
    | inl m ↦ omega (arith, a.low l, b.low m, e)
    | inr m ↦ omega (arith, a.low l, b.high m, e)
  ]
  | inr l ↦ elim (cases_lt w h) [
    | inl m ↦ omega (arith, a.high l, b.low m, e)
    | inr m ↦ omega (arith, a.high l, b.high m, e)
  ]
]

pub su-prefix : (n : ℕ) → 0 < n → IsPrefixCode (2 ^ n) (su n).word
su-prefix n some v w xs ys p q e =
    let h = 2 ^ (n - 1) in
    let half : h + h ≡ 2 ^ n = omega (arith, pow-add 2 (n - 1) 1, ap (λ k. 2 ^ k) (let s : n ≡ n - 1 + 1 = omega arith in s)) in
    let a = stands n h v half p in
    let b = stands n h w half q in
    let bits : bits_of n a.at ++ xs ≡ bits_of n b.at ++ ys = ap (λ (l : List Bool). l ++ xs) (sym a.bits) ∙ e ∙ ap (λ (l : List Bool). l ++ ys) b.bits in
    let same : bits_of n a.at ≡ bits_of n b.at = (same_fronts (bits_of n a.at) (bits_of n b.at) xs ys (length-bits_of n a.at ∙ sym (length-bits_of n b.at)) bits).0 in
    apart n h v w a b p q half (bits_of-same n a.at b.at a.below b.below same)

-- a number with a sign that is within n bits has a word of its own
pub signed_word : (n : ℕ) (z : ℤ) → 0 < n → InBits n z → HasSignedWord n z
signed_word n z some within =
    let h = 2 ^ (n - 1) in
    let half : h + h ≡ 2 ^ n = omega (arith, pow-add 2 (n - 1) 1, ap (λ k. 2 ^ k) (let s : n ≡ n - 1 + 1 = omega arith in s)) in
    record {
      word = record { among = omega (arith, ints, within.0, within.1, half); prefix = su-prefix n some };
      back = omega (arith, ints, within.0, within.1);
    }

-- so is a number whose size is below 2 ^ (n - 1)
pub small_in_bits : (n : ℕ) (z : ℤ) → unsigned_abs z < 2 ^ (n - 1) → InBits n z
small_in_bits n z small = let h = 2 ^ (n - 1) in (omega (arith, ints, small), omega (arith, ints, small))
