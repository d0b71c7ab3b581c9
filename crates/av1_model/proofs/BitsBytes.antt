-- The bits of bytes.
use Rattle.std.proofs.Common.{◌≡◌, ℕ, zero, suc, ◌+◌, ◌*◌, ◌/◌, ◌%◌, ◌^◌, ◌<◌, ◌≤◌, List, [], ◌∷◌, ◌++◌, Bool, length, drop, take, refl, sym, ◌∙◌, ap, arith, append_assoc, length-append}
use Rattle.std.specs.Int.{byte_at, bytes_high_first, bytes_low_first}
use Rattle.std.proofs.lemmas.Nat.{pow-add}
use Rattle.av1_model.specs.Bits.{bits_of, bits_of_bytes}
use Rattle.av1_model.proofs.BitsNumbers.{bits_of-zero, bits_of-split, bits_of-mod, bits_of-join, length-bits_of}

pub bits_of_bytes-append : (xs ys : List ℕ) → bits_of_bytes (xs ++ ys) ≡ bits_of_bytes xs ++ bits_of_bytes ys
bits_of_bytes-append [] ys = refl
bits_of_bytes-append (x ∷ xs) ys = ap (λ (l : List Bool). bits_of 8 x ++ l) (bits_of_bytes-append xs ys) ∙ sym (append_assoc (bits_of 8 x) (bits_of_bytes xs) (bits_of_bytes ys))

pub length-bits_of_bytes : (bytes : List ℕ) → length (bits_of_bytes bytes) ≡ 8 * length bytes
length-bits_of_bytes [] = omega arith
length-bits_of_bytes (b ∷ bytes) = simp length-append (omega (arith, length-bits_of 8 b, length-bits_of_bytes bytes))

pow-256 : (k : ℕ) → 256 ^ k ≡ 2 ^ (8 * k)
pow-256 zero = refl
pow-256 (suc k) =
    let one : suc k ≡ k + 1 = omega arith in
    let eight : 8 * suc k ≡ 8 * k + 8 = omega arith in
    ap (λ j. 256 ^ j) one ∙ pow-add 256 k 1 ∙ ap (λ x. x * 256) (pow-256 k) ∙ sym (pow-add 2 (8 * k) 8) ∙ ap (λ j. 2 ^ j) (sym eight)

bits_of-byte_at : (k n : ℕ) → bits_of 8 (byte_at k n) ≡ bits_of 8 (n / 2 ^ (8 * k))
bits_of-byte_at zero n = bits_of-mod 8 n ∙ ap (bits_of 8) (let e : n ≡ n / 1 = omega arith in e)
bits_of-byte_at (suc k) n = bits_of-mod 8 (n / 256 ^ suc k) ∙ ap (λ d. bits_of 8 (n / d)) (pow-256 (suc k))

-- the lowest bytes of a number have its lowest bits
pub bits_of-bytes_high_first : (k n : ℕ) → bits_of_bytes (bytes_high_first k n) ≡ bits_of (8 * k) n
bits_of-bytes_high_first zero n = sym (bits_of-zero n)
bits_of-bytes_high_first (suc k) n =
    let e : 8 * suc k ≡ 8 + 8 * k = omega arith in
    ap (λ (l : List Bool). l ++ bits_of_bytes (bytes_high_first k n)) (bits_of-byte_at k n) ∙ ap (λ (l : List Bool). bits_of 8 (n / 2 ^ (8 * k)) ++ l) (bits_of-bytes_high_first k n)
    ∙ sym (bits_of-split 8 (8 * k) n) ∙ ap (λ m. bits_of m n) (sym e)

pub length-bytes_high_first : (k n : ℕ) → length (bytes_high_first k n) ≡ k
length-bytes_high_first zero n = refl
length-bytes_high_first (suc k) n = ap suc (length-bytes_high_first k n)

-- without the upper bytes
pub drop-bytes_high_first : (m k n : ℕ) → drop m (bytes_high_first (m + k) n) ≡ bytes_high_first k n
drop-bytes_high_first zero k n = ap (λ j. bytes_high_first j n) (omega arith)
drop-bytes_high_first (suc m) k n = let e : suc m + k ≡ suc (m + k) = omega arith in ap (λ j. drop (suc m) (bytes_high_first j n)) e ∙ drop-bytes_high_first m k n

-- bits behind a beginning of a byte, as whole bytes and a beginning of a byte
pub whole_bytes : (p n last v count rest all : ℕ) → v < 2 ^ n → all ≡ last * 2 ^ n + v → 8 * count + rest ≡ p + n
    → bits_of p last ++ bits_of n v ≡ bits_of_bytes (bytes_high_first count (all / 2 ^ rest)) ++ bits_of rest (all % 2 ^ rest)
whole_bytes p n last v count rest all below is size =
    bits_of-join p n last v below ∙ ap (bits_of (p + n)) (sym is) ∙ ap (λ k. bits_of k all) (sym size) ∙ bits_of-split (8 * count) rest all
    ∙ ap (λ (l : List Bool). l ++ bits_of rest all) (sym (bits_of-bytes_high_first count (all / 2 ^ rest)))
    ∙ ap (λ (l : List Bool). bits_of_bytes (bytes_high_first count (all / 2 ^ rest)) ++ l) (sym (bits_of-mod rest all))

-- the first bytes of a number with the lowest byte first
pub take-bytes_low_first : (k i m n : ℕ) → k ≤ m → take k (bytes_low_first i m n) ≡ bytes_low_first i k n
take-bytes_low_first zero i m n few = refl
take-bytes_low_first (suc k) i zero n few = absurd (omega (arith, few))
take-bytes_low_first (suc k) i (suc m) n few = ap (λ (l : List ℕ). byte_at i n ∷ l) (take-bytes_low_first k (suc i) m n (omega (arith, few)))
