-- What a writer of bits holds after a number, and after bytes.
use Rattle.std.proofs.Common.{◌≡◌, ℕ, zero, suc, ◌+◌, ◌-◌, ◌*◌, ◌/◌, ◌%◌, ◌^◌, ◌<◌, ◌≤◌, List, [], ◌∷◌, ◌++◌, Bool, true, false, nat_eq, length, get_or, take, drop, replicate, bit_and, slice_set, inl, inr, sym, ◌∙◌, ap, arith, append_assoc, length-append}
use Rattle.std.specs.Int.{bytes_high_first}
use Rattle.std.proofs.lemmas.List.{append-nil, take_more, take_more_set, take_all}
use Rattle.std.proofs.lemmas.Nat.{pow_pos, pow_below, pow-add, div-mul-add, and_mask}
use Rattle.std.proofs.Math.Nat.{div-eq_of_lt, mod-eq_of_lt, mul-le-mul_right}
use Rattle.std.proofs.lemmas.Bool.{cases_lt}
use mir.Val.{bool_byte}
use Rattle.av1_model.specs.Bits.{has_bit, bits_of, bits_of_bytes, byte_aligned}
use Rattle.av1_model.specs.Codes.{leb128}
use Rattle.av1_model.proofs.CodesLeb128.{leb128-last, leb128-more}
use Rattle.av1_model.proofs.BitsNumbers.{bits_of-zero, bits_of-suc, length-bits_of, bits_of-split, bits_of-join, bits_of-mod}
use Rattle.av1_model.proofs.BitsBytes.{bits_of_bytes-append, length-bytes_high_first, length-bits_of_bytes, drop-bytes_high_first, whole_bytes}

-- a writer's bits behind a number of n bits
pub bits_after : (items new whole : List ℕ) (p last n v count rest joined : ℕ) → v < 2 ^ n → joined ≡ last * 2 ^ n + v → 8 * count + rest ≡ p + n → count ≤ 16
    → whole ≡ bytes_high_first 16 (joined / 2 ^ rest) → new ≡ items ++ take (16 - (16 - count)) (drop (16 - count) whole)
    → bits_of_bytes new ++ bits_of rest (joined % 2 ^ rest) ≡ (bits_of_bytes items ++ bits_of p last) ++ bits_of n v
bits_after items new whole p last n v count rest joined below is size few bytes grown =
    let tail : List Bool = bits_of rest (joined % 2 ^ rest) in
    let out : List ℕ = bytes_high_first count (joined / 2 ^ rest) in
    let all : 16 ≡ 16 - count + count = omega arith in
    let cut : drop (16 - count) whole ≡ out =
    ap (λ (l : List ℕ). drop (16 - count) l) (bytes ∙ ap (λ k. bytes_high_first k (joined / 2 ^ rest)) all) ∙ drop-bytes_high_first (16 - count) count (joined / 2 ^ rest) in
    let size_of_out : length out ≤ 16 - (16 - count) = omega (arith, length-bytes_high_first count (joined / 2 ^ rest)) in
    ap (λ (l : List ℕ). bits_of_bytes l ++ tail) (grown ∙ ap (λ (l : List ℕ). items ++ l) (ap (λ (l : List ℕ). take (16 - (16 - count)) l) cut ∙ take_all _ _ size_of_out))
    ∙ ap (λ (l : List Bool). l ++ tail) (bits_of_bytes-append items out)
    ∙ append_assoc (bits_of_bytes items) (bits_of_bytes out) tail
    ∙ ap (λ (l : List Bool). bits_of_bytes items ++ l) (sym (whole_bytes p n last v count rest joined below is size))
    ∙ sym (append_assoc (bits_of_bytes items) (bits_of p last) (bits_of n v))

-- one bit
pub bits_of-one : (bit : Bool) (v : ℕ) → v ≡ bool_byte bit → bits_of 1 v ≡ bit ∷ []
bits_of-one true v is = ap (bits_of 1) is ∙ bits_of-suc 0 1 ∙ ap (λ (l : List Bool). true ∷ l) (bits_of-zero 1)
bits_of-one false v is = ap (bits_of 1) is ∙ bits_of-suc 0 0 ∙ ap (λ (l : List Bool). false ∷ l) (bits_of-zero 0)

-- zero bits
pub bits_of-nothing : (n : ℕ) → bits_of n 0 ≡ replicate n false
bits_of-nothing zero = bits_of-zero 0
bits_of-nothing (suc n) =
    let unset : has_bit 0 n ≡ false = ap (λ q. nat_eq (q % 2) 1) (div-eq_of_lt (pow_pos n)) in
    bits_of-suc n 0 ∙ ap (λ (b : Bool). b ∷ bits_of n 0) unset ∙ ap (λ (l : List Bool). false ∷ l) (bits_of-nothing n)

-- zero bits up to a whole byte
pub aligned_after : (items : List ℕ) (p last : ℕ) (bits : List Bool) → p < 8 → bits_of_bytes items ++ bits_of p last ≡ bits → bits ++ bits_of ((8 - p) % 8) 0 ≡ byte_aligned bits
aligned_after items p last bits few is =
    let size : length bits ≡ 8 * length items + p = ap length (sym is) ∙ simp length-append (omega (arith, length-bits_of_bytes items, length-bits_of p last)) in
    let same : (8 - p) % 8 ≡ (8 - length bits % 8) % 8 = ap (λ k. (8 - k) % 8) (let e : p ≡ length bits % 8 = omega arith in e) in
    ap (λ (l : List Bool). bits ++ l) (bits_of-nothing ((8 - p) % 8) ∙ ap (λ k. replicate k false) same)

-- a writer's bits behind a byte
pub byte_after : (items new : List ℕ) (p last byte joined : ℕ) → byte < 256 → joined ≡ last * 256 + byte → new ≡ items ++ joined / 2 ^ p ∷ []
    → bits_of_bytes new ++ bits_of p (joined % 2 ^ p) ≡ (bits_of_bytes items ++ bits_of p last) ++ bits_of 8 byte
byte_after items new p last byte joined small is grown =
    let high = joined / 2 ^ p in
    let low : List Bool = bits_of p (joined % 2 ^ p) in
    let swap : p + 8 ≡ 8 + p = omega arith in
    let moved : bits_of p last ++ bits_of 8 byte ≡ bits_of 8 high ++ low =
    bits_of-join p 8 last byte small ∙ ap (bits_of (p + 8)) (sym is) ∙ ap (λ k. bits_of k joined) swap ∙ bits_of-split 8 p joined ∙ ap (λ (l : List Bool). bits_of 8 high ++ l) (sym (bits_of-mod p joined)) in
    ap (λ (l : List ℕ). bits_of_bytes l ++ low) grown
    ∙ ap (λ (l : List Bool). l ++ low) (bits_of_bytes-append items (high ∷ []) ∙ ap (λ (l : List Bool). bits_of_bytes items ++ l) (append-nil (bits_of 8 high)))
    ∙ append_assoc (bits_of_bytes items) (bits_of 8 high) low
    ∙ ap (λ (l : List Bool). bits_of_bytes items ++ l) (sym moved)
    ∙ sym (append_assoc (bits_of_bytes items) (bits_of p last) (bits_of 8 byte))

-- one byte more
pub bits_more : (before : List Bool) (more : List ℕ) (i : ℕ) → i < length more → (before ++ bits_of_bytes (take i more)) ++ bits_of 8 (get_or more i 0) ≡ before ++ bits_of_bytes (take (i + 1) more)
bits_more before more i within =
    let byte : List Bool = bits_of 8 (get_or more i 0) in
    append_assoc before (bits_of_bytes (take i more)) byte
    ∙ ap (λ (l : List Bool). before ++ l) (ap (λ (l : List Bool). bits_of_bytes (take i more) ++ l) (sym (append-nil byte)) ∙ sym (bits_of_bytes-append (take i more) (get_or more i 0 ∷ [])) ∙ ap bits_of_bytes (sym (take_more more i 0 within)))

-- a beginning of a byte is below a byte
pub begun_small : (p last : ℕ) → p < 8 → last < 2 ^ p → last < 256
begun_small p last few below = let h : 2 ^ p < 2 ^ 8 = pow_below p 8 few in omega arith

-- shifts that lose nothing
pub shift_fits : (last n : ℕ) → last < 256 → n ≤ 64 → last * 2 ^ n % 2 ^ 128 ≡ last * 2 ^ n
shift_fits last n small few =
    let most : 2 ^ n < 2 ^ 65 = pow_below n 65 (omega arith) in
    let product : last * 2 ^ n ≤ 255 * 2 ^ n = mul-le-mul_right (2 ^ n) (let h : last ≤ 255 = omega arith in h) in
    mod-eq_of_lt (let h : last * 2 ^ n < 2 ^ 128 = omega arith in h)

pub one_fits : (n k : ℕ) → n < k → 1 * 2 ^ n % 2 ^ k ≡ 2 ^ n
one_fits n k few =
    let small : 2 ^ n < 2 ^ k = pow_below n k few in
    ap (λ x. x % 2 ^ k) (let e : 1 * 2 ^ n ≡ 2 ^ n = omega arith in e) ∙ mod-eq_of_lt small

-- aligned bits have no beginning of a byte behind them
pub all_whole : (items : List ℕ) (p last : ℕ) → p < 8 → length (bits_of_bytes items ++ bits_of p last) % 8 ≡ 0 → bits_of_bytes items ≡ bits_of_bytes items ++ bits_of p last
all_whole items p last few aligned =
    let size : length (bits_of_bytes items ++ bits_of p last) ≡ 8 * length items + p = simp length-append (omega (arith, length-bits_of_bytes items, length-bits_of p last)) in
    let none : p ≡ 0 = omega arith in
    sym (append-nil (bits_of_bytes items)) ∙ ap (λ (l : List Bool). bits_of_bytes items ++ l) (sym (bits_of-zero last) ∙ ap (λ k. bits_of k last) (sym none))

-- whole bytes behind whole bytes
pub bytes_behind_whole : (items new more : List ℕ) (p last : ℕ) → p ≡ 0 → new ≡ items ++ more → bits_of_bytes new ++ bits_of p last ≡ (bits_of_bytes items ++ bits_of p last) ++ bits_of_bytes more
bytes_behind_whole items new more p last none grown =
    let nothing : bits_of p last ≡ [] = ap (λ k. bits_of k last) none ∙ bits_of-zero last in
    ap (λ (l : List Bool). bits_of_bytes new ++ l) nothing ∙ append-nil (bits_of_bytes new) ∙ ap bits_of_bytes grown ∙ bits_of_bytes-append items more
    ∙ ap (λ (l : List Bool). l ++ bits_of_bytes more) (sym (append-nil (bits_of_bytes items)) ∙ ap (λ (l : List Bool). bits_of_bytes items ++ l) (sym nothing))

split_mask : (a p : ℕ) → 0 < a → 0 < p → 2 ^ 64 ≡ a * p → 18446744073709551615 ≡ (a - 1) * p + (p - 1)
split_mask zero p some positive is = omega arith
split_mask (suc a) p some positive is =
    let e : suc a - 1 ≡ a = omega arith in
    let product : suc a * p ≡ a * p + p = omega arith in
    rw e (omega (arith, is, product, positive))

-- a mask of the n lowest of 64 bits
pub low_mask : (x n : ℕ) → n ≤ 64 → bit_and x (18446744073709551615 / 2 ^ (64 - n)) ≡ x % 2 ^ n
low_mask x n few =
    let p = 2 ^ (64 - n) in
    let whole : 2 ^ 64 ≡ 2 ^ n * p = ap (λ k. 2 ^ k) (let e : 64 ≡ n + (64 - n) = omega arith in e) ∙ pow-add 2 n (64 - n) in
    let parts : 18446744073709551615 ≡ (2 ^ n - 1) * p + (p - 1) = split_mask (2 ^ n) p (pow_pos n) (pow_pos (64 - n)) whole in
    let high : 18446744073709551615 / p ≡ 2 ^ n - 1 = ap (λ y. y / p) parts ∙ div-mul-add (2 ^ n - 1) p (p - 1) (omega (arith, pow_pos (64 - n))) in
    ap (bit_and x) high ∙ and_mask x n

-- how far a number that more than one byte is left of has come
pub leb_step : (count value : ℕ) → count ≤ 4 → value < 2 ^ (32 - 7 * count) → 128 ≤ value → (count + 1 ≤ 4) × (value / 128 < 2 ^ (32 - 7 * (count + 1)))
leb_step count value few below high = elim (cases_lt count 4) [
  | inl less ↦
      let e : 32 - 7 * count ≡ 32 - 7 * (count + 1) + 7 = omega (arith, less) in
      let p : 2 ^ (32 - 7 * count) ≡ 2 ^ (32 - 7 * (count + 1)) * 128 = ap (λ k. 2 ^ k) e ∙ pow-add 2 (32 - 7 * (count + 1)) 7 in
      (omega (arith, less), omega (arith, below, p))
  | inr four ↦
      let e : count ≡ 4 = omega (arith, few, four) in
      let p : 2 ^ (32 - 7 * count) ≡ 16 = ap (λ k. 2 ^ (32 - 7 * k)) e in
      absurd (omega (arith, below, p, high))
]

-- a byte more of a number
pub leb_more : (coded : List ℕ) (count value payload : ℕ) → count < length coded → 128 ≤ value → take count coded ++ leb128 value ≡ leb128 payload
    → take (count + 1) (slice_set coded count (128 + value % 128)) ++ leb128 (value / 128) ≡ leb128 payload
leb_more coded count value payload within high so_far =
    ap (λ (l : List ℕ). l ++ leb128 (value / 128)) (take_more_set coded count (128 + value % 128) within)
    ∙ append_assoc (take count coded) ((128 + value % 128) ∷ []) (leb128 (value / 128))
    ∙ ap (λ (l : List ℕ). take count coded ++ l) (sym (leb128-more value high))
    ∙ so_far

-- the last byte of a number
pub leb_last : (coded : List ℕ) (count value payload : ℕ) → count < length coded → value < 128 → take count coded ++ leb128 value ≡ leb128 payload
    → take (count + 1) (slice_set coded count value) ≡ leb128 payload
leb_last coded count value payload within low so_far = take_more_set coded count value within ∙ ap (λ (l : List ℕ). take count coded ++ l) (sym (leb128-last value low)) ∙ so_far
