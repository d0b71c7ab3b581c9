-- The codes of rows are prefix codes.
use Rattle.std.proofs.Common.{◌≡◌, ℕ, zero, suc, ◌+◌, ◌/◌, ◌<◌, ◌≤◌, ◌^◌, ◌%◌, ◌++◌, ◌∷◌, [], List, Bool, ◌∙◌, sym, ap, arith, append_assoc, inl, inr}
use Rattle.std.proofs.Math.Nat.{mod-eq_of_lt}
use Rattle.std.proofs.lemmas.Bool.{cases_lt}
use Rattle.av1_model.specs.Bits.{bits_of, number_of, bits_of_bytes}
use Rattle.av1_model.specs.Codes.{IsPrefixCode, leb128}
use Rattle.av1_model.proofs.BitsNumbers.{length-bits_of, number_of-bits_of, bits_of-same}
use Rattle.av1_model.proofs.CodesLeb128.{leb128-last, leb128-more}
use Rattle.av1_model.proofs.CodesPrefix.{same_fronts}
use Rattle.av1_model.proofs.CodesQuniform.{quniform-prefix}
use Rattle.av1_model.proofs.CodesSubexp.{refsubexp-prefix}
use Rattle.av1_header.specs.Rows.{HasWord, f, ns, only, near, leb}

bits_of-prefix : (n : ℕ) → IsPrefixCode (2 ^ n) (bits_of n)
bits_of-prefix n v w xs ys below below' e =
    let same : bits_of n v ≡ bits_of n w = (same_fronts (bits_of n v) (bits_of n w) xs ys (length-bits_of n v ∙ sym (length-bits_of n w)) e).0 in
    let left : v % 2 ^ n ≡ w % 2 ^ n = sym (number_of-bits_of n v) ∙ ap number_of same ∙ number_of-bits_of n w in
    sym (mod-eq_of_lt below) ∙ left ∙ mod-eq_of_lt below'

pub word_of_bits : (n v : ℕ) → v < 2 ^ n → HasWord (f n) v
word_of_bits n v below = record { among = below; prefix = bits_of-prefix n }

pub word_of_ns : (n v : ℕ) → v < n → HasWord (ns n) v
word_of_ns n v below = record { among = below; prefix = quniform-prefix n }

pub word_of_only : (n v : ℕ) → HasWord (only n v) 0
word_of_only n v = record { among = omega arith; prefix = λ a b xs ys below below' e. omega arith }

pub word_of_near : (n k r v : ℕ) → r < n → v < n → HasWord (near n k r) v
word_of_near n k r v from below = record { among = below; prefix = refsubexp-prefix n k r from }

-- the first byte of two lists of bytes, and the rest
first_byte : (a b : ℕ) (more bs : List ℕ) (xs ys : List Bool) → a < 256 → b < 256 →
    bits_of_bytes (a ∷ more) ++ xs ≡ bits_of_bytes (b ∷ bs) ++ ys → (a ≡ b) × (bits_of_bytes more ++ xs ≡ bits_of_bytes bs ++ ys)
first_byte a b more bs xs ys below below' e =
    let whole : bits_of 8 a ++ (bits_of_bytes more ++ xs) ≡ bits_of 8 b ++ (bits_of_bytes bs ++ ys) =
    sym (append_assoc (bits_of 8 a) (bits_of_bytes more) xs) ∙ e ∙ append_assoc (bits_of 8 b) (bits_of_bytes bs) ys in
    let two = same_fronts (bits_of 8 a) (bits_of 8 b) (bits_of_bytes more ++ xs) (bits_of_bytes bs ++ ys) (length-bits_of 8 a ∙ sym (length-bits_of 8 b)) whole in
    (bits_of-same 8 a b below below' two.0, two.1)

-- LEB128 of two numbers at the front of the same bits, where longer numbers are settled
leb128_step : (v w : ℕ) (xs ys : List Bool) →
    (128 ≤ v → bits_of_bytes (leb128 (v / 128)) ++ xs ≡ bits_of_bytes (leb128 (w / 128)) ++ ys → v / 128 ≡ w / 128) →
    bits_of_bytes (leb128 v) ++ xs ≡ bits_of_bytes (leb128 w) ++ ys → v ≡ w
leb128_step v w xs ys longer e =
    let left : List ℕ → List Bool = λ l. bits_of_bytes l ++ xs in
    let right : List ℕ → List Bool = λ l. bits_of_bytes l ++ ys in
    elim (cases_lt v 128) [
      | inl small ↦ elim (cases_lt w 128) [
        | inl small' ↦ (first_byte v w [] [] xs ys (omega arith) (omega arith) (sym (ap left (leb128-last v small)) ∙ e ∙ ap right (leb128-last w small'))).0
        | inr large' ↦
            let same = (first_byte v (128 + w % 128) [] (leb128 (w / 128)) xs ys (omega arith) (omega arith) (sym (ap left (leb128-last v small)) ∙ e ∙ ap right (leb128-more w large'))).0 in
            absurd (omega (arith, same, small))
      ]
      | inr large ↦ elim (cases_lt w 128) [
        | inl small' ↦
            let same = (first_byte (128 + v % 128) w (leb128 (v / 128)) [] xs ys (omega arith) (omega arith) (sym (ap left (leb128-more v large)) ∙ e ∙ ap right (leb128-last w small'))).0 in
            absurd (omega (arith, same, small'))
        | inr large' ↦
            let both = first_byte (128 + v % 128) (128 + w % 128) (leb128 (v / 128)) (leb128 (w / 128)) xs ys (omega arith) (omega arith)
            (sym (ap left (leb128-more v large)) ∙ e ∙ ap right (leb128-more w large')) in
            omega (arith, both.0, longer large both.1)
      ]
    ]

same_leb128 : (fuel v w : ℕ) (xs ys : List Bool) → v ≤ fuel → bits_of_bytes (leb128 v) ++ xs ≡ bits_of_bytes (leb128 w) ++ ys → v ≡ w
same_leb128 zero v w xs ys enough e = leb128_step v w xs ys (λ large _. absurd (omega (arith, enough, large))) e
same_leb128 (suc fuel) v w xs ys enough e = leb128_step v w xs ys (λ large h. same_leb128 fuel (v / 128) (w / 128) xs ys (omega (arith, enough, large)) h) e

pub word_of_leb : (v : ℕ) → v < 2 ^ 32 → HasWord leb v
word_of_leb v below = record { among = below; prefix = λ a b xs ys below below' e. same_leb128 a a b xs ys (omega arith) e }
