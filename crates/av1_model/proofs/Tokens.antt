-- The parts of tokens, and the doublings that bring a width to 16 bits.
use Rattle.std.proofs.Common.{◌≡◌, ℕ, suc, ◌+◌, ◌*◌, ◌/◌, ◌^◌, ◌<◌, ◌≤◌, ap, ◌∙◌, arith, refl, inl, inr}
use Rattle.std.proofs.lemmas.Nat.{pow-add, pow_pos, leading_top}
use Rattle.std.proofs.lemmas.Bool.{cases_lt}
use Rattle.std.proofs.lemmas.Bool.Decides.{nat_tests}
use Rattle.std.proofs.Math.Nat.{mul-le-mul_left, mul-le-mul_right, mul-lt-mul_of_pos_right, pow-le-pow_right}
use Rattle.std.specs.Int.{leading_zeros, w16}
use Rattle.av1_model.specs.Laws.{IsLeastDoublings}
use Rattle.av1_model.specs.Interval.{Interval, IsInterval, Token, IsToken, top, bottom, part, doubled, narrow, whole}

edge_le : (r f n : ℕ) → 32768 ≤ r → r < 65536 → f < 32768 → n ≤ 16 → r / 256 * (f / 64) / 2 + 4 * n ≤ r
edge_le r f n a b h k = omega (arith, mul-le-mul_left {m = f / 64} {n = 511} (r / 256) (omega arith))

edge_falls : (r f g n : ℕ) → g / 64 ≤ f / 64 → r / 256 * (g / 64) / 2 + 4 * n + 4 ≤ r / 256 * (f / 64) / 2 + 4 * (n + 1)
edge_falls r f g n h = omega (arith, mul-le-mul_left (r / 256) h)

-- a token's part lies in the range, and is 4 wide at least
pub edges_within : (r : ℕ) (t : Token) → 32768 ≤ r → r < 65536 → IsToken t → (bottom r t + 4 ≤ top r t) × (top r t ≤ r)
edges_within r t a b v = (grind (arith, nat_tests, edge_le, edge_falls), grind (arith, nat_tests, edge_le))

-- a width of 1 to 65535 has 16 bits after as many doublings as it has leading zeros
pub doublings_wide : (w : ℕ) → 0 < w → w < 65536 → 32768 ≤ w * 2 ^ leading_zeros w16 w
doublings_wide w a b =
    let t = leading_top 16 w a b in
    let e : 2 ^ (t.0 + leading_zeros w16 w) ≡ 32768 = ap (λ n. 2 ^ n) {y = 15} (omega arith) in
    omega (arith, pow-add 2 t.0 (leading_zeros w16 w), mul-le-mul_right (2 ^ leading_zeros w16 w) t.2)

-- and no more than 16 bits
pub doublings_few : (w : ℕ) → 0 < w → w < 65536 → w * 2 ^ leading_zeros w16 w < 65536
doublings_few w a b =
    let t = leading_top 16 w a b in
    let e : 2 ^ (suc t.0 + leading_zeros w16 w) ≡ 65536 = ap (λ n. 2 ^ n) {y = 16} (omega arith) in
    omega (arith, pow-add 2 (suc t.0) (leading_zeros w16 w), mul-lt-mul_of_pos_right t.3 (pow_pos (leading_zeros w16 w)))

-- and fewer doublings leave fewer bits
pub doublings_least : (w k : ℕ) → 0 < w → w < 65536 → k < leading_zeros w16 w → w * 2 ^ k < 32768
doublings_least w k a b h =
    let t = leading_top 16 w a b in
    omega (arith, pow-add 2 (suc t.0) k, mul-lt-mul_of_pos_right t.3 (pow_pos k), pow-le-pow_right {n = 2} (omega arith) {i = suc t.0 + k} {j = 15} (omega arith))

-- a width of at least 4 has at most 13 leading zeros
pub doublings_most : (w : ℕ) → 4 ≤ w → w < 65536 → leading_zeros w16 w ≤ 13
doublings_most w a b =
    elim (cases_lt 13 (leading_zeros w16 w)) [
      | inl l ↦ absurd (omega (arith, doublings_least w 13 (omega arith) b l))
      | inr l ↦ l
    ]

-- a width that has 16 bits is not doubled
pub doublings_none : (w : ℕ) → 32768 ≤ w → w < 65536 → leading_zeros w16 w ≡ 0
doublings_none w a b =
    elim (cases_lt 0 (leading_zeros w16 w)) [
      | inl l ↦ absurd (omega (arith, doublings_least w 0 (omega arith) b l))
      | inr l ↦ omega arith
    ]

doubled_inside : (d : ℕ) (i : Interval) → i.low + i.range ≤ 2 ^ (15 + i.shift) → i.low * 2 ^ d + i.range * 2 ^ d ≤ 2 ^ (15 + (i.shift + d))
doubled_inside d i h =
    let e : 2 ^ (15 + (i.shift + d)) ≡ 2 ^ (15 + i.shift) * 2 ^ d = ap (λ n. 2 ^ n) (omega arith) ∙ pow-add 2 (15 + i.shift) d in
    omega (arith, e, mul-le-mul_right (2 ^ d) h)

-- a symbol's part is 4 wide at least, and has at most 16 bits
pub part_wide : (i : Interval) (t : Token) → IsInterval i → IsToken t → 4 ≤ (part i t).range
part_wide i t v w = omega (arith, edges_within i.range t v.wide v.below w)

pub part_few : (i : Interval) (t : Token) → IsInterval i → IsToken t → (part i t).range < 65536
part_few i t v w = omega (arith, v, edges_within i.range t v.wide v.below w)

-- a symbol's part in its own units is an interval again
pub narrow_valid : (i : Interval) (t : Token) → IsInterval i → IsToken t → IsInterval (narrow i t)
narrow_valid i t v w =
    let p = part i t in
    let e = edges_within i.range t v.wide v.below w in
    let a : p.low + p.range ≤ 2 ^ (15 + i.shift) = omega (arith, e, v) in
    let b : 0 < p.range = omega (arith, e) in
    let c : p.range < 65536 = omega (arith, e, v) in
    record { wide = doublings_wide p.range b c; below = doublings_few p.range b c; inside = doubled_inside (leading_zeros w16 p.range) p a }

-- a symbol adds at most 13 bits
pub narrow_shift : (i : Interval) (t : Token) → IsInterval i → IsToken t → (narrow i t).shift ≤ i.shift + 13
narrow_shift i t v w = omega (arith, doublings_most (part i t).range (part_wide i t v w) (part_few i t v w))

-- and is doubled the least number of times that gives it 16 bits
pub narrow_least : (i : Interval) (t : Token) → IsInterval i → IsToken t → (d : ℕ) × IsLeastDoublings (part i t).range d × (narrow i t ≡ doubled d (part i t))
narrow_least i t v w =
    let p = part i t in
    let a : 4 ≤ p.range = part_wide i t v w in
    let b : p.range < 65536 = part_few i t v w in
    (leading_zeros w16 p.range, record { enough = doublings_wide p.range (omega arith) b; least = λ k h. doublings_least p.range k (omega arith) b h }, refl)

pub part_from : (i : Interval) (t : Token) → i.low ≤ (part i t).low
part_from i t = omega arith

pub part_to : (i : Interval) (t : Token) → IsInterval i → IsToken t → (part i t).low + (part i t).range ≤ i.low + i.range
part_to i t v w = omega (arith, edges_within i.range t v.wide v.below w)

-- coding starts with an interval
pub whole_valid : IsInterval whole
whole_valid = record { wide = omega arith; below = omega arith; inside = omega arith }
