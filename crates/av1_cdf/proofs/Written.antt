-- A list that is written from its first place on.
use Rattle.std.proofs.Common.{◌≡◌, ◌≢◌, ℕ, ◌+◌, ◌<◌, List, length, get_or, set, below_more, get_or-set_other, get_or-set_same, arith}

pub written_more : (f : ℕ → ℕ) (xs : List ℕ) (k v : ℕ) → k < length xs → ((j : ℕ) → j < k → get_or xs j 0 ≡ f j) → v ≡ f k →
    (j : ℕ) → j < k + 1 → get_or (set xs k v) j 0 ≡ f j
written_more f xs k v l h e =
    below_more (λ j. get_or (set xs k v) j 0 ≡ f j) k
    (λ j b. let ne : j ≢ k = omega arith in rw get_or-set_other (h j b))
    (rw get_or-set_same e)

pub kept_more : (f : ℕ → ℕ) (xs : List ℕ) (k : ℕ) → ((j : ℕ) → j < k → get_or xs j 0 ≡ f j) → get_or xs k 0 ≡ f k →
    (j : ℕ) → j < k + 1 → get_or xs j 0 ≡ f j
kept_more f xs k h e = below_more (λ j. get_or xs j 0 ≡ f j) k h e
