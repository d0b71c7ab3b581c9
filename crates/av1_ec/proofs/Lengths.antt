-- How many bits a code takes at most, and how far flat bits move a writer.
use Rattle.std.proofs.Common.{ℕ, zero, suc, ◌+◌, ◌-◌, ◌*◌, ◌^◌, ◌<◌, ◌≤◌, List, [], ◌∷◌, Bool, true, false, length, replicate, ap, arith, inl, inr, length-append, ℤ, pos, ◌-ℤ◌, ◌≤ℤ◌, unsigned_abs}
use Rattle.std.proofs.lemmas.Bool.{cases_lt}
use Rattle.std.proofs.lemmas.Int.{ints}
use Rattle.std.proofs.lemmas.List.{length-map, length-replicate}
use Rattle.std.proofs.lemmas.List.Elements.{All-nil, All-cons}
use Rattle.std.proofs.Math.Pow.{pow_mono}
use Rattle.std.specs.List.{All}
use Rattle.av1_model.specs.Bits.{bits_of}
use Rattle.av1_model.specs.Codes.{binary_digits, short_words, quniform, subexp_step, subexp_from, subexp, recenter_finite, refsubexp}
use Rattle.av1_model.specs.Interval.{IsToken}
use Rattle.av1_model.specs.Position.{Position, advance_all}
use Rattle.av1_model.proofs.BitsNumbers.{length-bits_of}
use Rattle.av1_model.proofs.CodesDigits.{binary_digits-few}
use Rattle.av1_model.proofs.CodesQuniform.{quniform-one, quniform-short, quniform-number}
use Rattle.av1_model.proofs.CodesSubexp.{step-last, step-low, step-high}
use Rattle.av1_model.proofs.Positions.{advance_all_shift}
use Rattle.av1_codes.specs.Codes.{golomb, refsubexp_between}
use Rattle.av1_ec.specs.Flat.{bool_token, flat_tokens}
use Rattle.av1_ec.specs.Writing.{IsPosition}
use Rattle.av1_codes.proofs.Words.{digits_of_word}

bit_valid : (b : Bool) → IsToken (bool_token 16384 b)
bit_valid true = record { below_whole = omega arith; below = omega arith; falls = omega arith; some = omega arith; few = omega arith }
bit_valid false = record { below_whole = omega arith; below = omega arith; falls = omega arith; some = omega arith; few = omega arith }

pub flat_valid : (bits : List Bool) → All IsToken (flat_tokens bits)
flat_valid [] = All-nil IsToken
flat_valid (b ∷ bits) = All-cons IsToken (bool_token 16384 b) (flat_tokens bits) (bit_valid b) (flat_valid bits)

-- so few bits may follow wherever a writer is within 2^28
pub flat_near : (p : Position) (bits : List Bool) → IsPosition p → length bits ≤ 64 → p.shift ≤ 2 ^ 28 → (advance_all p (flat_tokens bits)).shift ≤ 2 ^ 28 + 2 ^ 24
flat_near p bits h few near = omega (arith, advance_all_shift p (flat_tokens bits) h.interval (flat_valid bits), length-map bits (bool_token 16384), few, near)

pub golomb_length : (level : ℕ) → level + 1 < 2 ^ 32 → length (golomb level) ≤ 63
golomb_length level few =
    let l = binary_digits (level + 1) in
    let d = digits_of_word (level + 1) (omega arith) few in
    omega (arith, length-append (replicate (l - 1) false) (bits_of l (level + 1)), length-replicate (l - 1) false, length-bits_of l (level + 1), d)

pub quniform_length : (n v : ℕ) → n ≤ 2 ^ 24 → length (quniform n v) ≤ 25
quniform_length n v few =
    elim (cases_lt n 2) [
      | inl one ↦ omega (arith, ap length (quniform-one n v one))
      | inr some ↦
          let d = binary_digits-few 24 n (omega (arith, some)) few in
          elim (cases_lt v (short_words n)) [
            | inl l ↦ omega (arith, ap length (quniform-short n v some l), length-bits_of (binary_digits n - 1) v, d)
            | inr l ↦ omega (arith, ap length (quniform-number n v some l), length-bits_of (binary_digits n) (v + short_words n), d)
          ]
    ]

narrow_width : (b n : ℕ) → 3 * 2 ^ b < n → n ≤ 2 ^ 24 → b ≤ 22
narrow_width b n many few =
    elim (cases_lt b 23) [
      | inl l ↦ omega (arith, l)
      | inr l ↦ absurd (omega (arith, pow_mono {i = 23} {j = b} l, many, few))
    ]

step_length : (b n v most : ℕ) (rest : List Bool) → n ≤ 2 ^ 24 → 25 ≤ most → b + 1 ≤ most → (3 * 2 ^ b < n → 2 ^ b ≤ v → length rest + 1 ≤ most) → length (subexp_step b n v rest) ≤ most
step_length b n v most rest few wide low high =
    elim (cases_lt (3 * 2 ^ b) n) [
      | inr l ↦ omega (arith, ap length (step-last b n v rest l), quniform_length n v few, wide)
      | inl l ↦ elim (cases_lt v (2 ^ b)) [
        | inl m ↦ omega (arith, ap length (step-low b n v rest l m), length-bits_of b v, low)
        | inr m ↦ omega (arith, ap length (step-high b n v rest l m), high l m)
      ]
    ]

from_length : (steps b n v : ℕ) → n ≤ 2 ^ 24 → b ≤ 23 → length (subexp_from steps b n v) ≤ 48 - b
from_length zero b n v few width = omega arith
from_length (suc steps) b n v few width =
    step_length b n v (48 - b) (subexp_from steps (suc b) (n - 2 ^ b) (v - 2 ^ b)) few (omega (arith, width)) (omega (arith, width))
    (λ l m. let w = narrow_width b n l few in omega (arith, w, from_length steps (suc b) (n - 2 ^ b) (v - 2 ^ b) (omega (arith, few)) (omega (arith, w))))

pub subexp_length : (n k v : ℕ) → n ≤ 2 ^ 24 → k ≤ 16 → length (subexp n k v) ≤ 49
unfolding subexp
subexp_length n k v few width =
    step_length k n v 49 (subexp_from n k (n - 2 ^ k) (v - 2 ^ k)) few (omega arith) (omega (arith, width)) (λ l m. omega (arith, from_length n k (n - 2 ^ k) (v - 2 ^ k) (omega (arith, few)) (omega (arith, width))))

pub refsubexp_length : (n k r v : ℕ) → n ≤ 2 ^ 24 → k ≤ 16 → length (refsubexp n k r v) ≤ 49
refsubexp_length n k r v few width = subexp_length n k (recenter_finite n r v) few width

pub between_length : (low high r v : ℤ) (k : ℕ) → low ≤ℤ high → (high -ℤ low) ≤ℤ pos (2 ^ 24) → k ≤ 16 → length (refsubexp_between low high k r v) ≤ 49
between_length low high r v k order few width =
    refsubexp_length (unsigned_abs (high -ℤ low)) k (unsigned_abs (r -ℤ low)) (unsigned_abs (v -ℤ low)) (omega (arith, ints)) width
