-- An encoder's window: entries leave it, it is doubled, and at the end it is flushed.
use Rattle.std.proofs.Common.{◌≡◌, ℕ, ◌+◌, ◌-◌, ◌*◌, ◌/◌, ◌%◌, ◌^◌, ◌<◌, ◌≤◌, ap, sym, ◌∙◌, arith, refl, List, [], ◌∷◌, ◌++◌, length, length-append}
use Rattle.std.proofs.lemmas.Nat.{pow-add, pow_pos, div-add-mod', div_below, mod_below}
use Rattle.std.proofs.lemmas.Int.Digits.{number_push}
use Rattle.std.proofs.Math.Nat.{mul-lt-mul_of_pos_right, pow-le-pow_right, mul_assoc, mul-div_cancel}
use Rattle.std.specs.Int.{bytes_high_first}
use Rattle.std.specs.Int.Digits.{number_from_digits}
use Rattle.av1_model.specs.Interval.{Interval, point, final_bytes, whole}
use Rattle.av1_model.specs.Window.{interval_of_window, IsWindow}
use Rattle.av1_model.proofs.Tokens.{whole_valid}

-- an entry that leaves the window changes nothing
pub entry_leaves : (number weight low : ℕ) → (number * 256 + low / 2 ^ weight) * 2 ^ weight + low % 2 ^ weight ≡ number * 2 ^ (weight + 8) + low
entry_leaves number weight low = rw (pow-add 2 weight 8) (omega (arith, div-add-mod' low (2 ^ weight)))

pub window_doubles : (number weight low d : ℕ) → number * 2 ^ (weight + d) + low * 2 ^ d ≡ (number * 2 ^ weight + low) * 2 ^ d
window_doubles number weight low d = rw (pow-add 2 weight d) (omega arith)

-- an entry has at most one carry bit
pub entry_small : (weight low : ℕ) → 8 ≤ weight → low < 2 ^ (weight + 1) → low / 2 ^ (weight - 8) < 512
entry_small weight low a h =
    let e : 2 ^ (weight + 1) ≡ 512 * 2 ^ (weight - 8) = ap (λ n. 2 ^ n) {y = 9 + (weight - 8)} (omega arith) ∙ pow-add 2 9 (weight - 8) in
    div_below low (2 ^ (weight - 8)) 512 (pow_pos (weight - 8)) (omega (arith, e))

-- and leaves room for a range of 16 bits
pub window_room : (weight low width d : ℕ) → low < 2 ^ weight → width * 2 ^ d < 65536 → 16 ≤ weight + d → low * 2 ^ d + width * 2 ^ d ≤ 2 ^ (weight + d + 1)
window_room weight low width d a b c =
    let e : 2 ^ (weight + d + 1) ≡ 2 * (2 ^ weight * 2 ^ d) = ap (λ n. 2 ^ n) {y = 1 + (weight + d)} (omega arith) ∙ pow-add 2 1 (weight + d) ∙ ap (λ n. 2 * n) (pow-add 2 weight d) in
    let f : 65536 ≤ 2 ^ (weight + d) = pow-le-pow_right {n = 2} (omega arith) {i = 16} {j = weight + d} c in
    omega (arith, e, f, pow-add 2 weight d, mul-lt-mul_of_pos_right a (pow_pos d))

-- an entry that leaves changes nothing of the low end
pub leaves : (es fs : List ℕ) (weight low : ℕ) → 8 ≤ weight → fs ≡ es ++ (low / 2 ^ (weight - 8)) ∷ [] →
    (number_from_digits 256 fs * 2 ^ (weight - 8) + low % 2 ^ (weight - 8) ≡ number_from_digits 256 es * 2 ^ weight + low) × (8 * length fs + (weight - 8) ≡ 8 * length es + weight) × (low % 2 ^ (weight - 8) < 2 ^ (weight - 8))
leaves es fs weight low a e =
    let x = low / 2 ^ (weight - 8) in
    let n : number_from_digits 256 fs ≡ number_from_digits 256 es * 256 + x = ap (number_from_digits 256) e ∙ number_push 256 es x in
    let l : length fs ≡ length es + 1 = ap length e ∙ length-append es (x ∷ []) in (
      ap (λ k. k * 2 ^ (weight - 8) + low % 2 ^ (weight - 8)) n ∙ entry_leaves (number_from_digits 256 es) (weight - 8) low ∙ ap (λ k. number_from_digits 256 es * 2 ^ k + low) {y = weight} (omega arith),
      omega (arith, l),
      mod_below low (2 ^ (weight - 8)) (pow_pos (weight - 8)),
    )

-- where the window is at most 22 bits wide, its end is one more entry
pub flushed : (i : Interval) (number count weight low : ℕ) → i.low ≡ number * 2 ^ weight + low → i.shift + 15 ≡ 8 * count + weight → 15 ≤ weight → weight ≤ 22 →
    final_bytes i ≡ bytes_high_first (count + 1) (number * 256 + point low * 16384 / 2 ^ (weight - 8))
flushed i number count weight low e f a b =
    let p = 2 ^ (weight - 15) in
    let d = 22 - weight in
    let w : 2 ^ weight ≡ p * 32768 = ap (λ n. 2 ^ n) {y = (weight - 15) + 15} (omega arith) ∙ pow-add 2 (weight - 15) 15 in
    let q : point i.low ≡ number * p * 2 + point low = omega (arith, e, ap (λ n. number * n) w) in
    let n : (i.shift + 8) / 8 ≡ count + 1 = omega arith in
    let m : 8 * ((i.shift + 8) / 8) - (i.shift + 1) ≡ d = omega arith in
    let u : p * 2 ^ d ≡ 128 = sym (pow-add 2 (weight - 15) d) ∙ ap (λ n. 2 ^ n) {y = 7} (omega arith) in
    let v : 16384 ≡ 2 ^ d * 2 ^ (weight - 8) = ap (λ n. 2 ^ n) {x = 14} (omega arith) ∙ pow-add 2 d (weight - 8) in
    let z : point low * 16384 / 2 ^ (weight - 8) ≡ point low * 2 ^ d =
    ap (λ n. n / 2 ^ (weight - 8)) (ap (λ n. point low * n) v ∙ sym (mul_assoc (point low) (2 ^ d) (2 ^ (weight - 8)))) ∙ mul-div_cancel (point low * 2 ^ d) (pow_pos (weight - 8)) in
    let r : point i.low * 2 ^ (8 * ((i.shift + 8) / 8) - (i.shift + 1)) ≡ number * 256 + point low * 16384 / 2 ^ (weight - 8) =
    (λ k. q k * 2 ^ m k) ∙ omega (arith, z, ap (λ n. number * n) u) in
    λ k. bytes_high_first (n k) (r k)

-- where it is 23 bits wide, two
pub flushed_two : (i : Interval) (number count low : ℕ) → i.low ≡ number * 2 ^ 23 + low → i.shift + 15 ≡ 8 * count + 23 →
    final_bytes i ≡ bytes_high_first (count + 2) ((number * 256 + point low * 16384 / 32768) * 256 + point low * 16384 % 32768 / 128)
flushed_two i number count low e f =
    let n : (i.shift + 8) / 8 ≡ count + 2 = omega arith in
    let m : 8 * ((i.shift + 8) / 8) - (i.shift + 1) ≡ 7 = omega arith in
    let q : point i.low ≡ number * 512 + point low = omega (arith, e) in
    let r : point i.low * 2 ^ (8 * ((i.shift + 8) / 8) - (i.shift + 1)) ≡ (number * 256 + point low * 16384 / 32768) * 256 + point low * 16384 % 32768 / 128 =
    (λ k. q k * 2 ^ m k) ∙ omega arith in
    λ k. bytes_high_first (n k) (r k)

-- entries and a window stand for an interval where the low end, the range and the bits are its own
pub window_is : (es : List ℕ) (low range weight : ℕ) (i : Interval) → number_from_digits 256 es * 2 ^ weight + low ≡ i.low → range ≡ i.range → 8 * length es + weight ≡ i.shift + 15 → interval_of_window es low range weight ≡ i
window_is es low range weight i a b c = let d : 8 * length es + weight - 15 ≡ i.shift = omega arith in λ k. record { low = a k; range = b k; shift = d k }

-- an encoder starts with no entry and a window of 15 bits
pub window_start : interval_of_window [] 0 32768 15 ≡ whole
window_start = refl

pub start_valid : IsWindow [] 0 32768 15
start_valid = record { least = omega arith; most = omega arith; room = omega arith; valid = whole_valid }
