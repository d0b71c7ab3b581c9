-- The bits of a number: what they depend on, and how they split.
use Rattle.std.proofs.Common.{◌≡◌, ℕ, zero, suc, ◌+◌, ◌-◌, ◌*◌, ◌/◌, ◌%◌, ◌^◌, ◌<◌, ◌≤◌, List, [], ◌∷◌, ◌++◌, Bool, true, false, nat_eq, if◌then◌else◌, length, refl, sym, ◌∙◌, ap, arith}
use Rattle.std.proofs.lemmas.Nat.{pow_pos, pow-add, mod-pow-add, div-mul-add, div-add-mod'}
use Rattle.std.proofs.Math.Nat.{div-div-eq-div-mul, add-mul-div_right, mod-eq_of_lt}
use Rattle.std.proofs.lemmas.Bool.Decides.{nat_tests}
use Rattle.av1_model.specs.Bits.{has_bit, bits_of, number_of}

pub bits_of-zero : (v : ℕ) → bits_of 0 v ≡ []
unfolding bits_of
bits_of-zero v = refl

pub bits_of-suc : (n v : ℕ) → bits_of (suc n) v ≡ has_bit v n ∷ bits_of n v
unfolding bits_of
bits_of-suc n v = refl

pub length-bits_of : (n v : ℕ) → length (bits_of n v) ≡ n
unfolding bits_of
length-bits_of zero v = refl
length-bits_of (suc n) v = ap suc (length-bits_of n v)

-- a shift drops the lowest bits
pub has_bit-shift : (v n k : ℕ) → has_bit (v / 2 ^ n) k ≡ has_bit v (k + n)
has_bit-shift v n k =
    let e : v / 2 ^ n / 2 ^ k ≡ v / 2 ^ (k + n) = div-div-eq-div-mul v (2 ^ n) (2 ^ k) ∙ ap (λ d. v / d) (omega (arith, pow-add 2 k n)) in
    ap (λ q. nat_eq (q % 2) 1) e

-- the bits of m + n places are those of the upper m, and then those of the lower n
pub bits_of-split : (m n v : ℕ) → bits_of (m + n) v ≡ bits_of m (v / 2 ^ n) ++ bits_of n v
unfolding bits_of
bits_of-split zero n v = ap (λ k. bits_of k v) (omega arith)
bits_of-split (suc m) n v =
    let e : suc m + n ≡ suc (m + n) = omega arith in
    ap (λ k. bits_of k v) e ∙ ap (λ (l : List Bool). has_bit v (m + n) ∷ l) (bits_of-split m n v) ∙ ap (λ (b : Bool). b ∷ (bits_of m (v / 2 ^ n) ++ bits_of n v)) (sym (has_bit-shift v n m))

-- what stands above the lowest n bits doesn't matter
pub has_bit-above : (n k a v : ℕ) → k < n → has_bit (a * 2 ^ n + v) k ≡ has_bit v k
has_bit-above n k a v h =
    let j = n - k - 1 in
    let p : 2 ^ n ≡ 2 ^ j * 2 * 2 ^ k = ap (λ m. 2 ^ m) (let e : n ≡ j + 1 + k = omega arith in e) ∙ pow-add 2 (j + 1) k ∙ ap (λ x. x * 2 ^ k) (omega (arith, pow-add 2 j 1)) in
    let q : (a * 2 ^ n + v) / 2 ^ k ≡ v / 2 ^ k + a * 2 ^ j * 2 =
    ap (λ x. x / 2 ^ k) (let e : a * 2 ^ n + v ≡ v + a * 2 ^ j * 2 * 2 ^ k = rw p (omega arith) in e) ∙ add-mul-div_right (v) (a * 2 ^ j * 2) (pow_pos k) in
    let r : (v / 2 ^ k + a * 2 ^ j * 2) % 2 ≡ v / 2 ^ k % 2 = omega arith in
    ap (λ x. nat_eq x 1) (ap (λ x. x % 2) q ∙ r)

pub bits_of-within : (m k a v : ℕ) → m ≤ k → bits_of m (a * 2 ^ k + v) ≡ bits_of m v
unfolding bits_of
bits_of-within zero k a v h = refl
bits_of-within (suc m) k a v h =
    ap (λ (b : Bool). b ∷ bits_of m (a * 2 ^ k + v)) (has_bit-above k m a v (omega arith)) ∙ ap (λ (l : List Bool). has_bit v m ∷ l) (bits_of-within m k a v (omega arith))

pub bits_of-above : (n a v : ℕ) → bits_of n (a * 2 ^ n + v) ≡ bits_of n v
bits_of-above n a v = bits_of-within n n a v (omega arith)

pub bits_of-mod : (n v : ℕ) → bits_of n (v % 2 ^ n) ≡ bits_of n v
bits_of-mod n v = sym (bits_of-above n (v / 2 ^ n) (v % 2 ^ n)) ∙ ap (bits_of n) (div-add-mod' v (2 ^ n))

-- a number of n bits behind another
pub bits_of-join : (m n a v : ℕ) → v < 2 ^ n → bits_of m a ++ bits_of n v ≡ bits_of (m + n) (a * 2 ^ n + v)
bits_of-join m n a v h =
    sym (bits_of-split m n (a * 2 ^ n + v) ∙ ap (λ x. bits_of m x ++ bits_of n (a * 2 ^ n + v)) (div-mul-add a (2 ^ n) v h) ∙ ap (λ (l : List Bool). bits_of m a ++ l) (bits_of-above n a v))

-- what a bit is worth
worth : (q p : ℕ) → q < 2 → (if nat_eq q 1 then p else 0) ≡ q * p
worth q p h = grind (arith, nat_tests)

-- the number that n bits stand for
pub number_of-bits_of : (n v : ℕ) → number_of (bits_of n v) ≡ v % 2 ^ n
unfolding bits_of
number_of-bits_of zero v = omega arith
number_of-bits_of (suc n) v =
    let more : v % 2 ^ (1 + n) ≡ (v / 2 ^ n % 2 ^ 1) * 2 ^ n + v % 2 ^ n = mod-pow-add v 1 n in
    let rest : number_of (bits_of n v) ≡ v % 2 ^ n = number_of-bits_of n v in
    let size : length (bits_of n v) ≡ n = length-bits_of n v in
    let bit : (if has_bit v n then 2 ^ n else 0) ≡ v / 2 ^ n % 2 * 2 ^ n = worth (v / 2 ^ n % 2) (2 ^ n) (omega arith) in
    let all : v % 2 ^ suc n ≡ v / 2 ^ n % 2 * 2 ^ n + v % 2 ^ n = ap (λ k. v % 2 ^ k) (let e : suc n ≡ 1 + n = omega arith in e) ∙ more in
    rw (size, rest) (ap (λ x. x + v % 2 ^ n) bit ∙ sym all)

-- a number of n bits is told by them
pub bits_of-same : (n v w : ℕ) → v < 2 ^ n → w < 2 ^ n → bits_of n v ≡ bits_of n w → v ≡ w
bits_of-same n v w p q e =
    let e' : v % 2 ^ n ≡ w % 2 ^ n = sym (number_of-bits_of n v) ∙ ap number_of e ∙ number_of-bits_of n w in
    sym (mod-eq_of_lt p) ∙ e' ∙ mod-eq_of_lt q

-- a one before a number, and a zero
pub bits_of-one_before : (n v : ℕ) → v < 2 ^ n → bits_of (n + 1) (2 ^ n + v) ≡ true ∷ bits_of n v
bits_of-one_before n v below =
    let swap : n + 1 ≡ 1 + n = omega arith in
    let sum : 2 ^ n + v ≡ 1 * 2 ^ n + v = omega arith in
    ap (λ k. bits_of k (2 ^ n + v)) swap ∙ ap (bits_of (1 + n)) sum ∙ sym (bits_of-join 1 n 1 v below) ∙ ap (λ (l : List Bool). l ++ bits_of n v) (bits_of-suc 0 1 ∙ ap (λ (l : List Bool). true ∷ l) (bits_of-zero 1))

pub bits_of-zero_before : (n v : ℕ) → v < 2 ^ n → bits_of (n + 1) v ≡ false ∷ bits_of n v
bits_of-zero_before n v below =
    let swap : n + 1 ≡ 1 + n = omega arith in
    let sum : v ≡ 0 * 2 ^ n + v = omega arith in
    ap (λ k. bits_of k v) swap ∙ ap (bits_of (1 + n)) sum ∙ sym (bits_of-join 1 n 0 v below) ∙ ap (λ (l : List Bool). l ++ bits_of n v) (bits_of-suc 0 0 ∙ ap (λ (l : List Bool). false ∷ l) (bits_of-zero 0))
