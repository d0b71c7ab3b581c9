-- A list of which the first items are changed.
use Rattle.std.proofs.Common.{◌≡◌, ℕ, zero, suc, ◌<◌, List, [], ◌∷◌, ◌++◌, length, get_or, set, take, drop, map, refl, ap, arith}

abbrev pub up_to : {A : Type 0} → (A → A) → ℕ → List A → List A
up_to f k xs = map f (take k xs) ++ drop k xs

pub up_to-more : {A : Type 0} (f : A → A) (xs : List A) (k : ℕ) (d : A) → k < length xs → set (up_to f k xs) k (f (get_or xs k d)) ≡ up_to f (suc k) xs
up_to-more f [] k d h = absurd (omega arith)
up_to-more f (x ∷ xs) zero d h = refl
up_to-more f (x ∷ xs) (suc k) d h = ap (λ ys. f x ∷ ys) (up_to-more f xs k d (omega arith))

pub get_or-up_to : {A : Type 0} (f : A → A) (xs : List A) (k : ℕ) (d : A) → k < length xs → get_or (up_to f k xs) k d ≡ get_or xs k d
get_or-up_to f [] k d h = absurd (omega arith)
get_or-up_to f (x ∷ xs) zero d h = refl
get_or-up_to f (x ∷ xs) (suc k) d h = get_or-up_to f xs k d (omega arith)

pub up_to-all : {A : Type 0} (f : A → A) (xs : List A) (k : ℕ) → k ≡ length xs → up_to f k xs ≡ map f xs
up_to-all f [] zero h = refl
up_to-all f [] (suc k) h = absurd (omega arith)
up_to-all f (x ∷ xs) zero h = absurd (omega arith)
up_to-all f (x ∷ xs) (suc k) h = ap (λ ys. f x ∷ ys) (up_to-all f xs k (omega arith))
