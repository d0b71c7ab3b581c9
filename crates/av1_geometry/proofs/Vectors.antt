-- Powers of two and the classes of motion vectors.
use Rattle.std.proofs.Common.{◌≡◌, ◌≢◌, ℕ, zero, suc, ◌+◌, ◌*◌, ◌/◌, ◌%◌, ◌^◌, ◌<◌, ◌≤◌, refl, arith}
use Rattle.std.proofs.Math.Nat.{mod-eq_of_lt, mul-div-le, lt_of_not-le, pow-suc}
use Rattle.std.proofs.Math.Pow.{pow_mono}
use Rattle.std.proofs.lemmas.Nat.{pow-add}
use Rattle.av1_geometry.specs.MotionVector.{class_base}

pub eightfold : (k : ℕ) → 2 ^ (k + 4) ≡ 8 * 2 ^ suc k
eightfold k = let e : 2 ^ (k + 4) ≡ 2 ^ k * 2 ^ 4 = pow-add 2 k 4 in let f : 2 ^ suc k ≡ 2 ^ k * 2 = pow-suc 2 k in omega (arith, e, f)

pub power_bound : (c : ℕ) → c ≤ 10 → 8 * 2 ^ c ≤ 8192
power_bound c h = let p : 2 ^ c ≤ 2 ^ 10 = pow_mono h in omega (arith, p)

pub shifted : (c : ℕ) → c ≤ 10 → 8 * 2 ^ c % 4294967296 ≡ 8 * 2 ^ c
shifted c h = mod-eq_of_lt (let b : 8 * 2 ^ c ≤ 8192 = power_bound c h in omega (arith, b))

pub class_base_above : (c : ℕ) → c ≢ 0 → class_base c ≡ 8 * 2 ^ c
class_base_above zero n = absurd (n refl)
class_base_above (suc k) n = eightfold k

-- the class of a small size, where n is the size in whole samples and c its logarithm
pub class_within : (n c : ℕ) → n < 1024 → (0 < n → 2 ^ c ≤ n) → (n ≡ 0 → c ≡ 0) → c ≤ 10
class_within zero c b h z = let e : c ≡ 0 = z refl in omega (arith, e)
class_within (suc m) c b h z =
    let far : 10 ≤ c → ⊥ = λ t. (let p : 2 ^ 10 ≤ 2 ^ c = pow_mono t in let q : 2 ^ c ≤ suc m = h (omega arith) in omega (arith, p, q, b)) in
    let near : c < 10 = lt_of_not-le far in
    omega (arith, near)

pub class_reached : (z c : ℕ) → (0 < z / 8 → 2 ^ c ≤ z / 8) → (z / 8 ≡ 0 → c ≡ 0) → class_base c ≤ z
class_reached z zero h e = omega arith
class_reached z (suc k) h e =
    let none : 0 < z / 8 = lt_of_not-le (λ t. (let n : suc k ≡ 0 = e (omega (arith, t)) in omega (arith, n))) in
    let p : 2 ^ suc k ≤ z / 8 = h none in
    let q : 8 * (z / 8) ≤ z = mul-div-le z 8 in
    let r : 2 ^ (k + 4) ≡ 8 * 2 ^ suc k = eightfold k in
    omega (arith, p, q, r)

pub class_greatest : (z c d : ℕ) → z / 8 < 2 * 2 ^ c → class_base d ≤ z → d ≤ c
class_greatest z c zero h b = omega arith
class_greatest z c (suc k) h b =
    lt_of_not-le (λ (t : c ≤ k).
    (let p : 2 ^ (c + 4) ≤ 2 ^ (k + 4) = pow_mono (omega (arith, t)) in
    let q : 2 ^ (c + 4) ≡ 8 * 2 ^ suc c = eightfold c in
    let r : 2 ^ suc c ≡ 2 ^ c * 2 = pow-suc 2 c in
    let s : 2 ^ (k + 4) ≤ z = b in
    omega (arith, p, q, r, s, h)))
