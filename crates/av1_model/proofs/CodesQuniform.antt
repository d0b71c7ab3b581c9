-- The quasi-uniform code: its words as numbers, and that they are a prefix code.
use Rattle.std.proofs.Common.{◌≡◌, ℕ, suc, ◌+◌, ◌-◌, ◌*◌, ◌/◌, ◌%◌, ◌^◌, ◌<◌, ◌≤◌, List, [], ◌∷◌, ◌++◌, Bool, true, false, nat_eq, nat_lt, refl, sym, ◌∙◌, ap, arith, append_assoc, inl, inr}
use Rattle.std.proofs.lemmas.Bool.{cases_lt}
use Rattle.std.proofs.lemmas.Bool.Decides.{nat_tests}
use Rattle.std.proofs.lemmas.Nat.{pow-add}
use Rattle.std.specs.Int.Count.{count_leading_zeros}
use Rattle.av1_model.specs.Bits.{has_bit, bits_of}
use Rattle.av1_model.specs.Codes.{binary_digits, short_words, quniform, IsPrefixCode}
use Rattle.av1_model.proofs.BitsNumbers.{bits_of-zero, bits_of-suc, bits_of-split, bits_of-same, length-bits_of}
use Rattle.av1_model.proofs.CodesDigits.{binary_digits-between, binary_digits-leading}
use Rattle.av1_model.proofs.CodesPrefix.{same_fronts}

-- what is known of n values, of which m have words of h bits, and the others one bit more
pub record Halves (n h m : ℕ) : Type 0 where
  pub digits : binary_digits n ≡ suc h
  pub shorter : short_words n ≡ m
  pub all : m + n ≡ 2 ^ h * 2
  pub some : 0 < m
  pub fits : m ≤ 2 ^ h

pub halves : (n : ℕ) → 2 ≤ n → Halves n (binary_digits n - 1) (short_words n)
halves n two =
    let l = binary_digits n in
    let there = binary_digits-between n (omega (arith, two)) in
    let up : 2 ^ l ≡ 2 ^ (l - 1) * 2 = ap (λ j. 2 ^ j) (let e : l ≡ l - 1 + 1 = omega (arith, there.some) in e) ∙ pow-add 2 (l - 1) 1 in
    record {
      digits = omega (arith, there.some);
      shorter = refl;
      all = omega (arith, up, there.to);
      some = omega (arith, there.to);
      fits = omega (arith, up, there.from);
    }

-- how they are for n below 2 ^ k, by its leading zeros
pub halves-leading : (k n : ℕ) → 2 ≤ n → n < 2 ^ k → binary_digits n ≡ k - count_leading_zeros k n
halves-leading k n two fits = omega (arith, binary_digits-leading k n (omega (arith, two)) fits)

pub quniform-one : (n v : ℕ) → n < 2 → quniform n v ≡ []
unfolding quniform
quniform-one n v few = let test : nat_lt n 2 ≡ true = grind (arith, nat_tests) in rw test refl

pub quniform-short : (n v : ℕ) → 2 ≤ n → v < short_words n → quniform n v ≡ bits_of (binary_digits n - 1) v
unfolding quniform
quniform-short n v two short =
    let test : nat_lt n 2 ≡ false = grind (arith, nat_tests) in
    let test2 : nat_lt v (short_words n) ≡ true = grind (arith, nat_tests) in
    rw (test, test2) refl

pub quniform-long : (n v : ℕ) → 2 ≤ n → short_words n ≤ v
    → quniform n v ≡ bits_of (binary_digits n - 1) (short_words n + (v - short_words n) / 2) ++ has_bit (v - short_words n) 0 ∷ []
unfolding quniform
quniform-long n v two long =
    let test : nat_lt n 2 ≡ false = grind (arith, nat_tests) in
    let test2 : nat_lt v (short_words n) ≡ false = grind (arith, nat_tests) in
    rw (test, test2) refl

-- a longer word as a number
pub quniform-number : (n v : ℕ) → 2 ≤ n → short_words n ≤ v → quniform n v ≡ bits_of (binary_digits n) (v + short_words n)
quniform-number n v two long =
    let m = short_words n in
    let h = binary_digits n - 1 in
    let x = v + m in
    let parts = halves n two in
    let size : binary_digits n ≡ h + 1 = omega (arith, parts.digits) in
    let high : x / 2 ≡ m + (v - m) / 2 = omega (arith, long) in
    let low : has_bit x 0 ≡ has_bit (v - m) 0 = ap (λ q. nat_eq q 1) (let e : x / 1 % 2 ≡ (v - m) / 1 % 2 = omega (arith, long) in e) in
    quniform-long n v two long
    ∙ sym (
    ap (λ k. bits_of k x) size ∙ bits_of-split h 1 x
    ∙ ap (λ (l : List Bool). bits_of h (x / 2) ++ l) (bits_of-suc 0 x ∙ ap (λ (l : List Bool). has_bit x 0 ∷ l) (bits_of-zero x))
    ∙ ap (λ y. bits_of h y ++ has_bit x 0 ∷ []) high ∙ ap (λ (b : Bool). bits_of h (m + (v - m) / 2) ++ b ∷ []) low
    )

-- a shorter word begins no longer one, since its number is less
short-long : (n v w : ℕ) (xs ys : List Bool) → 2 ≤ n → v < short_words n → short_words n ≤ w → w < n → quniform n v ++ xs ≡ quniform n w ++ ys → ⊥
short-long n v w xs ys two short long below is =
    let m = short_words n in
    let h = binary_digits n - 1 in
    let y = m + (w - m) / 2 in
    let parts = halves n two in
    let b : List Bool = has_bit (w - m) 0 ∷ [] in
    let e : bits_of h v ++ xs ≡ bits_of h y ++ (b ++ ys) =
    ap (λ (l : List Bool). l ++ xs) (sym (quniform-short n v two short)) ∙ is ∙ ap (λ (l : List Bool). l ++ ys) (quniform-long n w two long) ∙ append_assoc (bits_of h y) b ys in
    let same = (same_fronts (bits_of h v) (bits_of h y) xs (b ++ ys) (length-bits_of h v ∙ sym (length-bits_of h y)) e).0 in
    let equal : v ≡ y = bits_of-same h v y (omega (arith, short, parts.fits)) (omega (arith, below, long, parts.all)) same in
    omega (arith, equal, short)

-- no word begins another
pub quniform-prefix : (n : ℕ) → IsPrefixCode n (quniform n)
quniform-prefix n v w xs ys below below' is = elim (cases_lt n 2) [
  | inl few ↦ omega (arith, few, below, below')
  | inr two ↦
      let m = short_words n in
      let h = binary_digits n - 1 in
      let parts = halves n two in
      elim (cases_lt v m) [
        | inl short ↦ elim (cases_lt w m) [
          | inl short' ↦
              let e : bits_of h v ++ xs ≡ bits_of h w ++ ys =
              ap (λ (l : List Bool). l ++ xs) (sym (quniform-short n v two short)) ∙ is ∙ ap (λ (l : List Bool). l ++ ys) (quniform-short n w two short') in
              bits_of-same h v w (omega (arith, short, parts.fits)) (omega (arith, short', parts.fits)) (same_fronts _ _ xs ys (length-bits_of h v ∙ sym (length-bits_of h w)) e).0
          | inr long' ↦ absurd (short-long n v w xs ys two short long' below' is)
        ]
        | inr long ↦ elim (cases_lt w m) [
          | inl short' ↦ absurd (short-long n w v ys xs two short' long below (sym is))
          | inr long' ↦
              let l = binary_digits n in
              let size : l ≡ h + 1 = omega (arith, parts.digits) in
              let up : 2 ^ l ≡ 2 ^ h * 2 = ap (λ k. 2 ^ k) size ∙ pow-add 2 h 1 in
              let e : bits_of l (v + m) ++ xs ≡ bits_of l (w + m) ++ ys =
              ap (λ (k : List Bool). k ++ xs) (sym (quniform-number n v two long)) ∙ is ∙ ap (λ (k : List Bool). k ++ ys) (quniform-number n w two long') in
              let same : v + m ≡ w + m =
              bits_of-same l (v + m) (w + m) (omega (arith, up, parts.all, below)) (omega (arith, up, parts.all, below')) (same_fronts _ _ xs ys (length-bits_of l (v + m) ∙ sym (length-bits_of l (w + m))) e).0 in
              omega (arith, same)
        ]
      ]
]
