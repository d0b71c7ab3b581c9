-- Bytes that lie in a narrowed interval lie in the interval before.
use Rattle.std.proofs.Common.{◌≡◌, ℕ, ◌+◌, ◌*◌, ◌/◌, ◌^◌, ◌<◌, ◌≤◌, ap, sym, subst, ◌∙◌, arith, List, length}
use Rattle.std.proofs.lemmas.Nat.{pow-add, pow_pos, le-div, div_below, div-add-mod'}
use Rattle.std.proofs.Math.Nat.{div-div-eq-div-mul, mul-div-mul_right, mul_assoc, lt-div-mul-add, mul-le-mul_right}
use Rattle.std.specs.Int.Digits.{number_from_digits}
use Rattle.av1_model.specs.Interval.{Interval, IsInterval, Token, IsToken, part, doubled, narrow, leading, Holds}
use Rattle.av1_model.proofs.Tokens.{edges_within}

-- the first n bits are the first of more bits
pub leading_more : (bytes : List ℕ) (n d m : ℕ) → n + d ≡ m → leading bytes m / 2 ^ d ≡ leading bytes n
leading_more bytes n d m e =
    div-div-eq-div-mul (number_from_digits 256 bytes * 2 ^ m) (256 ^ length bytes) (2 ^ d)
    ∙ ap (λ a. a / (256 ^ length bytes * 2 ^ d)) (ap (λ k. number_from_digits 256 bytes * 2 ^ k) (sym e) ∙ ap (λ k. number_from_digits 256 bytes * k) (pow-add 2 n d) ∙ sym (mul_assoc (number_from_digits 256 bytes) (2 ^ n) (2 ^ d)))
    ∙ mul-div-mul_right (number_from_digits 256 bytes * 2 ^ n) (256 ^ length bytes) (pow_pos d)

-- bytes in an interval of finer units are in it in these units
pub undoubled : (bytes : List ℕ) (d : ℕ) (i : Interval) → Holds bytes (doubled d i) → Holds bytes i
undoubled bytes d i h =
    let e = leading_more bytes (15 + i.shift) d (15 + (i.shift + d)) (omega arith) in
    record {
      from = subst (λ x. i.low ≤ x) e (le-div i.low (leading bytes (15 + (i.shift + d))) (2 ^ d) (pow_pos d) h.from);
      to = subst (λ x. x < i.low + i.range) e (div_below (leading bytes (15 + (i.shift + d))) (2 ^ d) (i.low + i.range) (pow_pos d) (omega (arith, h.to)));
    }

-- bytes in a symbol's part are in the interval
pub widens : (bytes : List ℕ) (i : Interval) (t : Token) → IsInterval i → IsToken t → Holds bytes (part i t) → Holds bytes i
widens bytes i t v w h = omega (arith, h, edges_within i.range t v.wide v.below w)

pub unnarrowed : (bytes : List ℕ) (i : Interval) (t : Token) → Holds bytes (narrow i t) → Holds bytes (part i t)
unnarrowed bytes i t h = undoubled bytes _ (part i t) h

-- bytes that the narrowed interval holds, the interval holds
pub held_by_earlier : (bytes : List ℕ) (i : Interval) (t : Token) → IsInterval i → IsToken t → Holds bytes (narrow i t) → Holds bytes i
held_by_earlier bytes i t v w h = widens bytes i t v w (unnarrowed bytes i t h)

-- bytes in an interval are in it in finer units
pub holds_doubled : (bytes : List ℕ) (d : ℕ) (i : Interval) → Holds bytes i → Holds bytes (doubled d i)
holds_doubled bytes d i h =
    let x = leading bytes (15 + (i.shift + d)) in
    let y = leading bytes (15 + i.shift) in
    let e : x / 2 ^ d ≡ y = leading_more bytes (15 + i.shift) d (15 + (i.shift + d)) (omega arith) in
    let a : y * 2 ^ d ≤ x = omega (arith, ap (λ k. k * 2 ^ d) e, div-add-mod' x (2 ^ d)) in
    let b : x < (y + 1) * 2 ^ d = omega (arith, ap (λ k. k * 2 ^ d) e, lt-div-mul-add {a = x} {b = 2 ^ d} (pow_pos d)) in
    let f : y + 1 ≤ i.low + i.range = omega (arith, h.to) in
    record {
      from = omega (arith, a, mul-le-mul_right (2 ^ d) h.from);
      to = omega (arith, b, mul-le-mul_right (2 ^ d) f);
    }
