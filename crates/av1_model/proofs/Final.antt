-- The final bytes of an interval lie in it.
use Rattle.std.proofs.Common.{◌≡◌, ℕ, zero, suc, ◌+◌, ◌-◌, ◌*◌, ◌/◌, ◌%◌, ◌^◌, ◌<◌, ◌≤◌, ap, sym, refl, ◌∙◌, arith, length}
use Rattle.std.proofs.lemmas.Nat.{pow-add, pow_pos}
use Rattle.std.proofs.Math.Nat.{lt_of_mul-lt-mul_right, mul-lt-mul_of_pos_right, one-le-pow, mod-eq_of_lt, mul_assoc, mul-div_cancel, pow-suc}
use Rattle.std.proofs.Math.Arith.{mod-mul}
use Rattle.std.specs.Int.{bytes_high_first, byte_at}
use Rattle.std.specs.Int.Digits.{number_from_digits, number_from_digits_after, AllBelowBase}
use Rattle.av1_model.specs.Laws.{IsLeastOdd}
use Rattle.av1_model.specs.Interval.{Interval, IsInterval, bits, leading, Holds, point, final_bytes}

pub length-bytes_high_first : (k n : ℕ) → length (bytes_high_first k n) ≡ k
length-bytes_high_first zero n = refl
length-bytes_high_first (suc k) n = ap suc (length-bytes_high_first k n)

pub length-final_bytes : (i : Interval) → length (final_bytes i) ≡ (i.shift + 8) / 8
length-final_bytes i = length-bytes_high_first ((i.shift + 8) / 8) _

-- the point, in units of 2^14, is in the interval
pub point_from : (i : Interval) → i.low ≤ point i.low * 16384
point_from i = omega arith

pub point_to : (i : Interval) → IsInterval i → point i.low * 16384 < i.low + i.range
point_to i v = omega (arith, v)

-- and has shift + 1 digits
pub point_below : (i : Interval) → IsInterval i → point i.low < 2 ^ (i.shift + 1)
point_below i v =
    let e : 2 ^ (15 + i.shift) ≡ 2 ^ (i.shift + 1) * 16384 = ap (λ n. 2 ^ n) {y = (i.shift + 1) + 14} (omega arith) ∙ pow-add 2 (i.shift + 1) 14 in
    lt_of_mul-lt-mul_right 16384 (omega (arith, e, v, point_to i v))

pub bytes_pow : (n : ℕ) → 256 ^ n ≡ 2 ^ (8 * n)
bytes_pow zero = refl
bytes_pow (suc n) =
    pow-suc 256 n ∙ ap (λ k. k * 256) (bytes_pow n) ∙ sym (ap (λ k. 2 ^ k) {y = 8 * n + 8} (omega arith) ∙ pow-add 2 (8 * n) 8)

pub byte_at_is : (k n : ℕ) → byte_at k n ≡ n / 256 ^ k % 256
byte_at_is zero n = omega arith
byte_at_is (suc k) n = refl

pub number_after_bytes : (a k n : ℕ) → number_from_digits_after 256 a (bytes_high_first k n) ≡ a * 256 ^ k + n % 256 ^ k
number_after_bytes a zero n = omega arith
number_after_bytes a (suc k) n =
    let e : 256 ^ suc k ≡ 256 * 256 ^ k = omega arith in
    number_after_bytes (a * 256 + byte_at k n) k n
    ∙ rw (byte_at_is k n, e, mod-mul n {m = 256} {c = 256 ^ k} (omega arith) (one-le-pow k 256 (omega arith))) (omega arith)

-- the number that bytes of enough digits write
pub number_bytes : (k n : ℕ) → n < 256 ^ k → number_from_digits 256 (bytes_high_first k n) ≡ n
number_bytes k n h = number_after_bytes 0 k n ∙ omega (arith, mod-eq_of_lt h)

-- the point's digits are the first ones of the final bytes
pub number_final : (i : Interval) → IsInterval i → let n = (i.shift + 8) / 8 in number_from_digits 256 (final_bytes i) ≡ point i.low * 2 ^ (8 * n - (i.shift + 1))
number_final i v =
    let n = (i.shift + 8) / 8 in
    let d = 8 * n - (i.shift + 1) in
    let e : 256 ^ n ≡ 2 ^ (i.shift + 1) * 2 ^ d = bytes_pow n ∙ ap (λ k. 2 ^ k) {y = (i.shift + 1) + d} (omega arith) ∙ pow-add 2 (i.shift + 1) d in
    number_bytes n (point i.low * 2 ^ d) (omega (arith, e, mul-lt-mul_of_pos_right (point_below i v) (pow_pos d)))

pub leading_final : (i : Interval) → IsInterval i → leading (final_bytes i) (15 + i.shift) ≡ point i.low * 16384
leading_final i v =
    let n = (i.shift + 8) / 8 in
    let d = 8 * n - (i.shift + 1) in
    let e : 2 ^ d * 2 ^ (15 + i.shift) ≡ 16384 * 256 ^ n =
    sym (pow-add 2 d (15 + i.shift)) ∙ ap (λ k. 2 ^ k) {y = 14 + 8 * n} (omega arith) ∙ pow-add 2 14 (8 * n) ∙ ap (λ k. 16384 * k) (sym (bytes_pow n)) in
    ap (λ k. k * 2 ^ (15 + i.shift) / 256 ^ length (final_bytes i)) (number_final i v)
    ∙ ap (λ k. point i.low * 2 ^ d * 2 ^ (15 + i.shift) / 256 ^ k) (length-final_bytes i)
    ∙ ap (λ k. k / 256 ^ n) (mul_assoc (point i.low) (2 ^ d) (2 ^ (15 + i.shift)) ∙ ap (λ k. point i.low * k) e ∙ sym (mul_assoc (point i.low) 16384 (256 ^ n)))
    ∙ mul-div_cancel (point i.low * 16384) (one-le-pow n 256 (omega arith))

-- the final bytes of an interval lie in it
pub holds_final : (i : Interval) → IsInterval i → Holds (final_bytes i) i
holds_final i v = omega (arith, leading_final i v, point_from i, point_to i v)

pub point_least : (low : ℕ) → IsLeastOdd low (point low)
point_least low = record { odd = omega arith; from = omega arith; least = λ q o f. omega arith }

-- as a binary fraction, the final bytes are the point
pub final_digits : (i : Interval) → IsInterval i → number_from_digits 256 (final_bytes i) * 2 ^ bits i ≡ point i.low * 256 ^ length (final_bytes i)
final_digits i v =
    let n = (i.shift + 8) / 8 in
    let d = 8 * n - (i.shift + 1) in
    let e : 2 ^ d * 2 ^ (i.shift + 1) ≡ 256 ^ n = sym (pow-add 2 d (i.shift + 1)) ∙ ap (λ k. 2 ^ k) {y = 8 * n} (omega arith) ∙ sym (bytes_pow n) in
    ap (λ k. k * 2 ^ (i.shift + 1)) (number_final i v) ∙ mul_assoc (point i.low) (2 ^ d) (2 ^ (i.shift + 1)) ∙ ap (λ k. point i.low * k) e
    ∙ ap (λ k. point i.low * 256 ^ k) (sym (length-final_bytes i))

pub final_short : (i : Interval) → length (final_bytes i) ≡ (bits i + 7) / 8
final_short i = length-final_bytes i ∙ omega arith

bytes_small : (k n : ℕ) → AllBelowBase 256 (bytes_high_first k n)
bytes_small zero n = tt
bytes_small (suc k) n = (omega (arith, byte_at_is k n), bytes_small k n)

pub final_small : (i : Interval) → AllBelowBase 256 (final_bytes i)
final_small i = bytes_small ((i.shift + 8) / 8) _
