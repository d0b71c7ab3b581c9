-- Distributions whose numbers fall.
use Rattle.std.proofs.Common.{◌≡◌, ℕ, zero, suc, ◌+◌, ◌-◌, ◌<◌, ◌≤◌, List, [], ◌∷◌, length, get_or, arith, lit≤}
use Rattle.av1_model.specs.Cdf.{IsCdf}

-- numbers that fall from at most `most`, and a count
abbrev Falls : ℕ → List ℕ → Type 0
Falls most [] = ⊥
Falls most (x ∷ []) = x ≤ 32
Falls most (x ∷ y ∷ ys) = (x ≤ most) × Falls x (y ∷ ys)

at_most : (most : ℕ) (l : List ℕ) → Falls most l → (k : ℕ) → k + 1 < length l → get_or l k 0 ≤ most
at_most most [] f k b = absurd f
at_most most (x ∷ []) f k b = absurd (omega (arith, b))
at_most most (x ∷ y ∷ ys) f zero b = f.0
at_most most (x ∷ y ∷ ys) f (suc k) b = omega (arith, f.0, at_most x (y ∷ ys) f.1 k (omega (arith, b)))

fall : (most : ℕ) (l : List ℕ) → Falls most l → (j k : ℕ) → j ≤ k → k + 1 < length l → get_or l k 0 ≤ get_or l j 0
fall most [] f j k m b = absurd f
fall most (x ∷ []) f j k m b = absurd (omega (arith, b))
fall most (x ∷ y ∷ ys) f zero zero m b = omega arith
fall most (x ∷ y ∷ ys) f zero (suc k) m b = at_most x (y ∷ ys) f.1 k (omega (arith, b))
fall most (x ∷ y ∷ ys) f (suc j) zero m b = absurd (omega (arith, m))
fall most (x ∷ y ∷ ys) f (suc j) (suc k) m b = fall x (y ∷ ys) f.1 j k (omega (arith, m)) (omega (arith, b))

last_few : (most : ℕ) (l : List ℕ) → Falls most l → get_or l (length l - 1) 0 ≤ 32
last_few most [] f = absurd f
last_few most (x ∷ []) f = f
last_few most (x ∷ y ∷ ys) f = let e : length (x ∷ y ∷ ys) - 1 ≡ suc (length (y ∷ ys) - 1) = omega arith in rw e (last_few x (y ∷ ys) f.1)

falling : (l : List ℕ) → 2 ≤ length l → length l ≤ 16 → Falls 32767 l → IsCdf l
falling l a b f = record { two = a; few = b; below = λ k h. omega (arith, at_most 32767 l f k h); falls = λ j k m h. fall 32767 l f j k m h; count = last_few 32767 l f }

pub skew_13 : IsCdf (27920 ∷ 23461 ∷ 19389 ∷ 15705 ∷ 12409 ∷ 9500 ∷ 6980 ∷ 4847 ∷ 3102 ∷ 1745 ∷ 775 ∷ 193 ∷ 0 ∷ [])
skew_13 = falling (27920 ∷ 23461 ∷ 19389 ∷ 15705 ∷ 12409 ∷ 9500 ∷ 6980 ∷ 4847 ∷ 3102 ∷ 1745 ∷ 775 ∷ 193 ∷ 0 ∷ []) (lit≤ tt) (lit≤ tt) (lit≤ tt, (lit≤ tt, (lit≤ tt, (lit≤ tt, (lit≤ tt, (lit≤ tt, (lit≤ tt, (lit≤ tt, (lit≤ tt, (lit≤ tt, (lit≤ tt, (lit≤ tt, lit≤ tt))))))))))))

pub skew_14 : IsCdf (28254 ∷ 24074 ∷ 20229 ∷ 16718 ∷ 13541 ∷ 10699 ∷ 8192 ∷ 6018 ∷ 4179 ∷ 2674 ∷ 1504 ∷ 668 ∷ 167 ∷ 0 ∷ [])
skew_14 = falling (28254 ∷ 24074 ∷ 20229 ∷ 16718 ∷ 13541 ∷ 10699 ∷ 8192 ∷ 6018 ∷ 4179 ∷ 2674 ∷ 1504 ∷ 668 ∷ 167 ∷ 0 ∷ []) (lit≤ tt) (lit≤ tt) (lit≤ tt, (lit≤ tt, (lit≤ tt, (lit≤ tt, (lit≤ tt, (lit≤ tt, (lit≤ tt, (lit≤ tt, (lit≤ tt, (lit≤ tt, (lit≤ tt, (lit≤ tt, (lit≤ tt, lit≤ tt)))))))))))))

pub skew_15 : IsCdf (28544 ∷ 24612 ∷ 20971 ∷ 17621 ∷ 14563 ∷ 11796 ∷ 9320 ∷ 7136 ∷ 5242 ∷ 3640 ∷ 2330 ∷ 1310 ∷ 582 ∷ 145 ∷ 0 ∷ [])
skew_15 = falling (28544 ∷ 24612 ∷ 20971 ∷ 17621 ∷ 14563 ∷ 11796 ∷ 9320 ∷ 7136 ∷ 5242 ∷ 3640 ∷ 2330 ∷ 1310 ∷ 582 ∷ 145 ∷ 0 ∷ []) (lit≤ tt) (lit≤ tt) (lit≤ tt, (lit≤ tt, (lit≤ tt, (lit≤ tt, (lit≤ tt, (lit≤ tt, (lit≤ tt, (lit≤ tt, (lit≤ tt, (lit≤ tt, (lit≤ tt, (lit≤ tt, (lit≤ tt, (lit≤ tt, lit≤ tt))))))))))))))

pub skew_16 : IsCdf (28800 ∷ 25088 ∷ 21632 ∷ 18432 ∷ 15488 ∷ 12800 ∷ 10368 ∷ 8192 ∷ 6272 ∷ 4608 ∷ 3200 ∷ 2048 ∷ 1152 ∷ 512 ∷ 128 ∷ 0 ∷ [])
skew_16 = falling (28800 ∷ 25088 ∷ 21632 ∷ 18432 ∷ 15488 ∷ 12800 ∷ 10368 ∷ 8192 ∷ 6272 ∷ 4608 ∷ 3200 ∷ 2048 ∷ 1152 ∷ 512 ∷ 128 ∷ 0 ∷ []) (lit≤ tt) (lit≤ tt) (lit≤ tt, (lit≤ tt, (lit≤ tt, (lit≤ tt, (lit≤ tt, (lit≤ tt, (lit≤ tt, (lit≤ tt, (lit≤ tt, (lit≤ tt, (lit≤ tt, (lit≤ tt, (lit≤ tt, (lit≤ tt, (lit≤ tt, lit≤ tt)))))))))))))))
