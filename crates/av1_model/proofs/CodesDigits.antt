-- How many binary digits a number has.
use Rattle.std.proofs.Common.{◌≡◌, ℕ, zero, suc, ◌+◌, ◌-◌, ◌*◌, ◌/◌, ◌%◌, ◌^◌, ◌<◌, ◌≤◌, List, [], ◌∷◌, ◌++◌, Bool, false, nat_eq, if◌then◌else◌, length, refl, sym, ◌∙◌, ap, arith, length-append, inl, inr, subst}
use Rattle.std.proofs.lemmas.Bool.{cases_eq, cases_lt}
use Rattle.std.proofs.lemmas.Bool.Decides.{nat_tests}
use Rattle.std.proofs.Math.Pow.{pow_mono}
use Rattle.std.specs.Int.Digits.{digits_with_fuel}
use Rattle.std.specs.Int.Count.{count_leading_zeros, leading_unique}
use Rattle.std.proofs.lemmas.Nat.{pow-add, pow_below}
use Rattle.av1_model.specs.Codes.{binary_digits}

-- a number lies between the powers of 2 around it
pub record Between (n l : ℕ) : Type 0 where
  pub some : 0 < l
  pub from : 2 ^ (l - 1) ≤ n
  pub to : n < 2 ^ l

digits-none : (turns : ℕ) → digits_with_fuel 2 turns 0 ≡ []
digits-none zero = refl
digits-none (suc turns) = refl

digits-more : (turns n : ℕ) → 0 < n → length (digits_with_fuel 2 (suc turns) n) ≡ suc (length (digits_with_fuel 2 turns (n / 2)))
digits-more turns n some =
    let there : nat_eq n 0 ≡ false = grind (arith, nat_tests) in
    ap (λ (b : Bool). length (if b then [] else digits_with_fuel 2 turns (n / 2) ++ n % 2 ∷ [])) there ∙ length-append (digits_with_fuel 2 turns (n / 2)) (n % 2 ∷ []) ∙ omega arith

between-one : Between 1 1
between-one = record { some = omega arith; from = omega arith; to = omega arith }

between-more : (n l : ℕ) → Between (n / 2) l → Between n (suc l)
between-more n l half =
    let up : 2 ^ suc l ≡ 2 ^ l * 2 = ap (λ k. 2 ^ k) (let e : suc l ≡ l + 1 = omega arith in e) ∙ pow-add 2 l 1 in
    let down : 2 ^ l ≡ 2 ^ (l - 1) * 2 = ap (λ k. 2 ^ k) (let e : l ≡ l - 1 + 1 = omega (arith, half.some) in e) ∙ pow-add 2 (l - 1) 1 in
    let same : 2 ^ (suc l - 1) ≡ 2 ^ l = ap (λ k. 2 ^ k) (let e : suc l - 1 ≡ l = omega arith in e) in
    record {
      some = omega arith;
      from = rw same (omega (arith, half.from, down));
      to = omega (arith, half.to, up);
    }

digits_between : (turns n : ℕ) → 0 < n → n ≤ turns → Between n (length (digits_with_fuel 2 turns n))
digits_between zero n some enough = absurd (omega (arith, some, enough))
digits_between (suc turns) n some enough = elim (cases_eq (n / 2) 0) [
  | inl none ↦
      let one : n ≡ 1 = omega (arith, some, none) in
      let l : length (digits_with_fuel 2 (suc turns) n) ≡ 1 = digits-more turns n some ∙ ap (λ h. suc (length (digits_with_fuel 2 turns h))) none ∙ ap (λ (ds : List ℕ). suc (length ds)) (digits-none turns) in
      subst (λ k. Between n k) (sym l) (subst (λ k. Between k 1) (sym one) between-one)
  | inr half ↦
      let some_half : 0 < n / 2 = omega (arith, half) in
      subst (λ k. Between n k) (sym (digits-more turns n some)) (between-more n _ (digits_between turns (n / 2) some_half (omega (arith, enough, some))))
]

pub binary_digits-between : (n : ℕ) → 0 < n → Between n (binary_digits n)
binary_digits-between n some = digits_between n n some (omega arith)

-- and so they are what is left of k binary digits without the leading zeros
pub binary_digits-leading : (k n : ℕ) → 0 < n → n < 2 ^ k → binary_digits n + count_leading_zeros k n ≡ k
binary_digits-leading k n some fits =
    let l = binary_digits n in
    let there = binary_digits-between n some in
    let within : l ≤ k = elim (cases_lt k l) [ inr le ↦ le | inl gt ↦ let p : 2 ^ k ≤ 2 ^ (l - 1) = pow_mono (omega (arith, gt)) in absurd (omega (arith, p, there.from, fits)) ] in
    let up : 2 ^ l ≡ 2 ^ (l - 1) * 2 = ap (λ j. 2 ^ j) (let e : l ≡ l - 1 + 1 = omega (arith, there.some) in e) ∙ pow-add 2 (l - 1) 1 in
    let counted : k - l ≡ count_leading_zeros k n = leading_unique k n (k - l) l (omega (arith, within)) there.to (omega (arith, up, there.from)) in
    omega (arith, counted, within)

-- a number up to 2 ^ k has k + 1 binary digits at most
pub binary_digits-few : (k n : ℕ) → 0 < n → n ≤ 2 ^ k → binary_digits n ≤ k + 1
binary_digits-few k n some fits =
    let l = binary_digits n in
    let there = binary_digits-between n some in
    elim (cases_lt (k + 1) l) [ inr le ↦ le | inl gt ↦ let p : 2 ^ k < 2 ^ (l - 1) = pow_below k (l - 1) (omega (arith, gt)) in absurd (omega (arith, p, there.from, fits)) ]
