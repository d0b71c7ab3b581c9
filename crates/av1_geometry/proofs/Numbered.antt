-- A list of all values of a type in the order of their numbers has at each place the value with that number.
use Rattle.std.proofs.Common.{◌≡◌, ℕ, zero, suc, ◌+◌, List, [], ◌∷◌, Bool, true, false, ◌&&◌, nat_eq, IsTrue, eqb-true, refl, subst, zero-add, arith}
use Rattle.std.specs.Prelude.{slice_get, IfSome}

pub both_true : (a b : Bool) → IsTrue (a && b) → IsTrue a × IsTrue b
both_true true b h = (refl, h)
both_true false b h = cc

-- the numbers of the elements count up from k
abbrev pub counts_from : {X : Type 0} → (X → ℕ) → List X → ℕ → Bool
counts_from f [] k = true
counts_from f (x ∷ xs) k = nat_eq (f x) k && counts_from f xs (k + 1)

pub numbered : {X : Type 0} (f : X → ℕ) (xs : List X) (k n : ℕ) → IsTrue (counts_from f xs k) → IfSome (slice_get xs n) (λ x. f x ≡ k + n)
numbered f [] k n h = tt
numbered f (x ∷ xs) k zero h = let e : f x ≡ k = eqb-true (f x) k (both_true _ _ h).0 in omega (arith, e)
numbered {X} f (x ∷ xs) k (suc n) h =
    let e : k + 1 + n ≡ k + suc n = omega arith in
    subst (λ m. IfSome (slice_get xs n) (λ y. f y ≡ m)) e (numbered f xs (k + 1) n (both_true _ _ h).1)

pub numbered_from_0 : {X : Type 0} (f : X → ℕ) (xs : List X) (n : ℕ) → IsTrue (counts_from f xs 0) → IfSome (slice_get xs n) (λ x. f x ≡ n)
numbered_from_0 f xs n h = subst (λ m. IfSome (slice_get xs n) (λ x. f x ≡ m)) (zero-add n) (numbered f xs 0 n h)
