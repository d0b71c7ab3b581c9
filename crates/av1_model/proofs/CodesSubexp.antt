-- The subexponential codes are prefix codes.
use Rattle.std.proofs.Common.{◌≡◌, ℕ, zero, suc, ◌+◌, ◌-◌, ◌*◌, ◌^◌, ◌<◌, ◌≤◌, List, [], ◌∷◌, ◌++◌, Bool, true, false, nat_lt, nat_le, refl, sym, ◌∙◌, ap, arith, inl, inr}
use Rattle.std.proofs.lemmas.Bool.{cases_lt}
use Rattle.std.proofs.lemmas.Bool.Decides.{nat_tests}
use Rattle.std.proofs.lemmas.Nat.{pow_pos}
use Rattle.av1_model.specs.Bits.{bits_of}
use Rattle.av1_model.specs.Codes.{quniform, subexp_step, subexp_from, subexp, recenter_finite, inverse_recenter_finite, refsubexp, IsPrefixCode}
use Rattle.av1_model.proofs.BitsNumbers.{bits_of-same, length-bits_of}
use Rattle.av1_model.proofs.CodesPrefix.{same_fronts}
use Rattle.av1_model.proofs.CodesQuniform.{quniform-one, quniform-prefix}
use Rattle.av1_model.proofs.CodesRecenter.{recenter_finite-below, inverse-recenter_finite}

pub step-last : (b n v : ℕ) (rest : List Bool) → n ≤ 3 * 2 ^ b → subexp_step b n v rest ≡ quniform n v
step-last b n v rest few = let test : nat_le n (3 * 2 ^ b) ≡ true = grind (arith, nat_tests) in rw test refl

pub step-low : (b n v : ℕ) (rest : List Bool) → 3 * 2 ^ b < n → v < 2 ^ b → subexp_step b n v rest ≡ false ∷ bits_of b v
step-low b n v rest many low =
    let test : nat_le n (3 * 2 ^ b) ≡ false = grind (arith, nat_tests) in
    let test2 : nat_lt v (2 ^ b) ≡ true = grind (arith, nat_tests) in
    rw (test, test2) refl

pub step-high : (b n v : ℕ) (rest : List Bool) → 3 * 2 ^ b < n → 2 ^ b ≤ v → subexp_step b n v rest ≡ true ∷ rest
step-high b n v rest many high =
    let test : nat_le n (3 * 2 ^ b) ≡ false = grind (arith, nat_tests) in
    let test2 : nat_lt v (2 ^ b) ≡ false = grind (arith, nat_tests) in
    rw (test, test2) refl

tail_of : List Bool → List Bool
tail_of [] = []
tail_of (b ∷ bs) = bs

step-prefix : (b n : ℕ) (rest : ℕ → List Bool) → IsPrefixCode (n - 2 ^ b) rest → IsPrefixCode n (λ v. subexp_step b n v (rest (v - 2 ^ b)))
step-prefix b n rest others v w xs ys below below' is =
    let word : ℕ → List Bool = λ u. subexp_step b n u (rest (u - 2 ^ b)) in
    elim (cases_lt (3 * 2 ^ b) n) [
      | inr few ↦
          quniform-prefix n v w xs ys below below' (ap (λ (l : List Bool). l ++ xs) (sym (step-last b n v (rest (v - 2 ^ b)) few)) ∙ is ∙ ap (λ (l : List Bool). l ++ ys) (step-last b n w (rest (w - 2 ^ b)) few))
      | inl many ↦ elim (cases_lt v (2 ^ b)) [
        | inl low ↦ elim (cases_lt w (2 ^ b)) [
          | inl low' ↦
              let e : false ∷ (bits_of b v ++ xs) ≡ false ∷ (bits_of b w ++ ys) =
              ap (λ (l : List Bool). l ++ xs) (sym (step-low b n v (rest (v - 2 ^ b)) many low)) ∙ is ∙ ap (λ (l : List Bool). l ++ ys) (step-low b n w (rest (w - 2 ^ b)) many low') in
              bits_of-same b v w low low' (same_fronts _ _ xs ys (length-bits_of b v ∙ sym (length-bits_of b w)) (let t : bits_of b v ++ xs ≡ bits_of b w ++ ys = cc in t)).0
          | inr high' ↦
              let e : false ∷ (bits_of b v ++ xs) ≡ true ∷ (rest (w - 2 ^ b) ++ ys) =
              ap (λ (l : List Bool). l ++ xs) (sym (step-low b n v (rest (v - 2 ^ b)) many low)) ∙ is ∙ ap (λ (l : List Bool). l ++ ys) (step-high b n w (rest (w - 2 ^ b)) many high') in
              cc
        ]
        | inr high ↦ elim (cases_lt w (2 ^ b)) [
          | inl low' ↦
              let e : true ∷ (rest (v - 2 ^ b) ++ xs) ≡ false ∷ (bits_of b w ++ ys) =
              ap (λ (l : List Bool). l ++ xs) (sym (step-high b n v (rest (v - 2 ^ b)) many high)) ∙ is ∙ ap (λ (l : List Bool). l ++ ys) (step-low b n w (rest (w - 2 ^ b)) many low') in
              cc
          | inr high' ↦
              let e : true ∷ (rest (v - 2 ^ b) ++ xs) ≡ true ∷ (rest (w - 2 ^ b) ++ ys) =
              ap (λ (l : List Bool). l ++ xs) (sym (step-high b n v (rest (v - 2 ^ b)) many high)) ∙ is ∙ ap (λ (l : List Bool). l ++ ys) (step-high b n w (rest (w - 2 ^ b)) many high') in
              let t : rest (v - 2 ^ b) ++ xs ≡ rest (w - 2 ^ b) ++ ys = cc in
              let same : v - 2 ^ b ≡ w - 2 ^ b = others (v - 2 ^ b) (w - 2 ^ b) xs ys (omega (arith, below, high, many)) (omega (arith, below', high', many)) t in
              omega (arith, same, high, high')
        ]
      ]
    ]

from-prefix : (steps b n : ℕ) → n ≤ steps → IsPrefixCode n (subexp_from steps b n)
from-prefix zero b n enough = λ v w xs ys below below' is. omega (arith, enough, below)
from-prefix (suc steps) b n enough = step-prefix b n (subexp_from steps (suc b) (n - 2 ^ b)) (from-prefix steps (suc b) (n - 2 ^ b) (omega (arith, enough, pow_pos b)))

-- no word begins another
pub subexp-prefix : (n k : ℕ) → IsPrefixCode n (subexp n k)
unfolding subexp
subexp-prefix n k = step-prefix k n (subexp_from n k (n - 2 ^ k)) (from-prefix n k (n - 2 ^ k) (omega arith))

pub refsubexp-prefix : (n k r : ℕ) → r < n → IsPrefixCode n (refsubexp n k r)
refsubexp-prefix n k r within v w xs ys below below' is =
    let same = subexp-prefix n k (recenter_finite n r v) (recenter_finite n r w) xs ys (recenter_finite-below n r v within below) (recenter_finite-below n r w within below') is in
    sym (inverse-recenter_finite n r v within below) ∙ ap (inverse_recenter_finite n r) same ∙ inverse-recenter_finite n r w within below'

-- a word that ends at a width is that at the widths from there on
pub from-last : (steps b n v : ℕ) (word : List Bool) → n ≤ steps → ((rest : List Bool) → word ≡ subexp_step b n v rest) → word ≡ subexp_from steps b n v
from-last zero b n v word enough ends = ends [] ∙ step-last b n v [] (omega (arith, enough)) ∙ quniform-one n v (omega (arith, enough))
from-last (suc steps) b n v word enough ends = ends (subexp_from steps (suc b) (n - 2 ^ b) (v - 2 ^ b))

-- a word that goes on at the next width
pub from-more : (steps b n v : ℕ) (word : List Bool) → n ≤ steps → 3 * 2 ^ b < n → 2 ^ b ≤ v → ((steps : ℕ) → n - 2 ^ b ≤ steps → word ≡ subexp_from steps (b + 1) (n - 2 ^ b) (v - 2 ^ b)) → true ∷ word ≡ subexp_from steps b n v
from-more zero b n v word enough many high goes_on = absurd (omega (arith, enough, many))
from-more (suc steps) b n v word enough many high goes_on =
    let next : b + 1 ≡ suc b = omega arith in
    let rest : List Bool = subexp_from steps (suc b) (n - 2 ^ b) (v - 2 ^ b) in
    ap (λ (l : List Bool). true ∷ l) (goes_on steps (omega (arith, enough, pow_pos b)) ∙ ap (λ k. subexp_from steps k (n - 2 ^ b) (v - 2 ^ b)) next) ∙ sym (step-high b n v rest many high)

pub subexp-last : (n k v : ℕ) (word : List Bool) → ((rest : List Bool) → word ≡ subexp_step k n v rest) → word ≡ subexp n k v
unfolding subexp
subexp-last n k v word ends = ends (subexp_from n k (n - 2 ^ k) (v - 2 ^ k))

pub subexp-more : (n k v : ℕ) (word : List Bool) → 3 * 2 ^ k < n → 2 ^ k ≤ v → ((steps : ℕ) → n - 2 ^ k ≤ steps → word ≡ subexp_from steps k (n - 2 ^ k) (v - 2 ^ k)) → true ∷ word ≡ subexp n k v
unfolding subexp
subexp-more n k v word many high goes_on = ap (λ (l : List Bool). true ∷ l) (goes_on n (omega arith)) ∙ sym (step-high k n v (subexp_from n k (n - 2 ^ k) (v - 2 ^ k)) many high)
