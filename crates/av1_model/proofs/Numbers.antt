-- Digits to the base 256, which may have a carry, as a number and as its bytes.
use Rattle.std.proofs.Common.{◌≡◌, ℕ, zero, suc, ◌+◌, ◌-◌, ◌*◌, ◌/◌, ◌%◌, ◌^◌, ◌<◌, ap, sym, refl, ◌∙◌, arith, List, [], ◌∷◌, length, get_or, drop, set, length-drop, drop-cons}
use Rattle.std.proofs.lemmas.List.{drop-set}
use Rattle.std.proofs.Math.Nat.{one-le-pow, mul-add-div_right, pow-suc, div-div-eq-div-mul}
use Rattle.std.specs.Int.{bytes_high_first, byte_at}
use Rattle.std.specs.Int.Digits.{number_from_digits, number_from_digits_after}
use Rattle.av1_model.proofs.Final.{byte_at_is}

number_after : (a : ℕ) (es : List ℕ) → number_from_digits_after 256 a es ≡ a * 256 ^ length es + number_from_digits 256 es
number_after a [] = omega arith
number_after a (e ∷ es) =
    let s : 256 ^ suc (length es) ≡ 256 * 256 ^ length es = pow-suc 256 (length es) ∙ omega arith in
    number_after (a * 256 + e) es ∙ rw (number_after (0 * 256 + e) es, s) (omega arith)

-- the first digit, and the others
pub number_cons : (e : ℕ) (es : List ℕ) → number_from_digits 256 (e ∷ es) ≡ e * 256 ^ length es + number_from_digits 256 es
number_cons e es = number_after (0 * 256 + e) es ∙ omega arith

-- what lies above the lowest k bytes doesn't change them
bytes_above : (k m n a : ℕ) → a ≡ m * 256 ^ k + n → bytes_high_first k a ≡ bytes_high_first k n
bytes_above zero m n a e = refl
bytes_above (suc k) m n a e =
    let s : a ≡ m * 256 * 256 ^ k + n = e ∙ omega (arith, ap (λ p. m * p) (pow-suc 256 k)) in
    let q : a / 256 ^ k ≡ m * 256 + n / 256 ^ k = ap (λ x. x / 256 ^ k) s ∙ mul-add-div_right (one-le-pow k 256 (omega arith)) (m * 256) n in
    let b : byte_at k a ≡ byte_at k n = byte_at_is k a ∙ omega (arith, q) ∙ sym (byte_at_is k n) in
    let r = bytes_above k (m * 256) n a s in
    λ i. b i ∷ r i

-- the bytes of digits, and what they carry, from those of the digits after the first
pub carry_step : (e : ℕ) (es : List ℕ) → let k = length es in let n = number_from_digits 256 es in
    (bytes_high_first (suc k) (number_from_digits 256 (e ∷ es)) ≡ (n / 256 ^ k + e) % 256 ∷ bytes_high_first k n) × (number_from_digits 256 (e ∷ es) / 256 ^ suc k ≡ (n / 256 ^ k + e) / 256)
carry_step e es =
    let k = length es in
    let n = number_from_digits 256 es in
    let a = number_from_digits 256 (e ∷ es) in
    let s : a ≡ e * 256 ^ k + n = number_cons e es in
    let q : a / 256 ^ k ≡ n / 256 ^ k + e = ap (λ x. x / 256 ^ k) s ∙ mul-add-div_right (one-le-pow k 256 (omega arith)) e n ∙ omega arith in
    let b : byte_at k a ≡ (n / 256 ^ k + e) % 256 = byte_at_is k a ∙ ap (λ x. x % 256) q in
    let r = bytes_above k e n a s in
    ((λ i. b i ∷ r i), ap (λ p. a / p) (pow-suc 256 k) ∙ sym (div-div-eq-div-mul a (256 ^ k) 256) ∙ ap (λ x. x / 256) q)

-- the step of a loop that runs the carries from the last entry to the first
pub carry_more : (es out : List ℕ) (j carry : ℕ) → j < length es → length out ≡ length es →
    drop (suc j) out ≡ bytes_high_first (length es - suc j) (number_from_digits 256 (drop (suc j) es)) →
    carry ≡ number_from_digits 256 (drop (suc j) es) / 256 ^ (length es - suc j) →
    let e = get_or es j 0 in
    (drop j (set out j ((carry + e) % 256)) ≡ bytes_high_first (length es - j) (number_from_digits 256 (drop j es))) × ((carry + e) / 256 ≡ number_from_digits 256 (drop j es) / 256 ^ (length es - j))
carry_more es out j carry h n f c =
    let e = get_or es j 0 in
    let rest = drop (suc j) es in
    let l : length rest ≡ length es - suc j = length-drop (suc j) es in
    let m : suc (length rest) ≡ length es - j = omega (arith, l) in
    let d : drop j es ≡ e ∷ rest = drop-cons es j 0 h in
    let g : carry ≡ number_from_digits 256 rest / 256 ^ length rest = c ∙ ap (λ k. number_from_digits 256 rest / 256 ^ k) (sym l) in
    let s = carry_step e rest in
    let o : drop (j + 1) out ≡ bytes_high_first (length rest) (number_from_digits 256 rest) = ap (λ k. drop k out) {y = suc j} (omega arith) ∙ f ∙ ap (λ k. bytes_high_first k (number_from_digits 256 rest)) (sym l) in
    let t : drop j (set out j ((carry + e) % 256)) ≡ (number_from_digits 256 rest / 256 ^ length rest + e) % 256 ∷ bytes_high_first (length rest) (number_from_digits 256 rest) =
    drop-set out j ((carry + e) % 256) (omega arith) ∙ ap (λ c. (c + e) % 256 ∷ drop (j + 1) out) g ∙ ap (λ xs. (number_from_digits 256 rest / 256 ^ length rest + e) % 256 ∷ xs) o in (
      t ∙ sym s.0 ∙ ap (λ k. bytes_high_first k (number_from_digits 256 (e ∷ rest))) m ∙ ap (λ xs. bytes_high_first (length es - j) (number_from_digits 256 xs)) (sym d),
      ap (λ x. (x + e) / 256) g ∙ sym s.1 ∙ ap (λ k. number_from_digits 256 (e ∷ rest) / 256 ^ k) m ∙ ap (λ xs. number_from_digits 256 xs / 256 ^ (length es - j)) (sym d),
    )
