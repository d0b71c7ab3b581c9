-- Coding along a path of one element after another.
use Rattle.std.proofs.Common.{◌≡◌, ℕ, ◌++◌, ◌∷◌, [], List, ap, subst, refl}
use Rattle.av1_model.specs.Syntax.{Syntax, Leads, bind, follow}
use Rattle.av1_model.specs.Syntax.Syntax.{Bad, Done, Ask}
use Rattle.av1_model.specs.Reading.{Coding, coded, along, Fits}

module _ {Q C : Type 0} (contents : C → Q → List ℕ) (adapted : C → Q → ℕ → C) where
  pub along-append : {A : Type 0} (t : Syntax Q A) (xs ys : List ℕ) (at : Coding C) → along contents adapted t (xs ++ ys) at ≡ along contents adapted (follow t xs) ys (along contents adapted t xs at)
  along-append t [] ys at = refl
  along-append Bad (x ∷ xs) [] at = refl
  along-append Bad (x ∷ xs) (y ∷ ys) at = refl
  along-append (Done a) (x ∷ xs) [] at = refl
  along-append (Done a) (x ∷ xs) (y ∷ ys) at = refl
  along-append (Ask q k) (x ∷ xs) ys at = along-append (k x) xs ys (coded contents adapted at q x)

  -- a path of the first element, and then one of the second
  pub along_then : {A B : Type 0} (t : Syntax Q A) (f : A → Syntax Q B) (xs ys : List ℕ) (a : A) (at : Coding C) → Leads t xs a → along contents adapted (bind t f) (xs ++ ys) at ≡ along contents adapted (f a) ys (along contents adapted t xs at)
  along_then Bad f [] ys a at h = cc
  along_then Bad f (x ∷ xs) ys a at h = cc
  along_then (Done b) f [] ys a at h = cc
  along_then (Done b) f (x ∷ xs) ys a at h = cc
  along_then (Ask q k) f [] ys a at h = cc
  along_then (Ask q k) f (x ∷ xs) ys a at h = along_then (k x) f xs ys a (coded contents adapted at q x) h

  pub fits-append : {A : Type 0} (t : Syntax Q A) (xs ys : List ℕ) (at : Coding C) → Fits contents adapted t xs at.context → Fits contents adapted (follow t xs) ys (along contents adapted t xs at).context → Fits contents adapted t (xs ++ ys) at.context
  fits-append t [] ys at g h = h
  fits-append Bad (x ∷ xs) ys at g h = g
  fits-append (Done a) (x ∷ xs) ys at g h = g
  fits-append (Ask q k) (x ∷ xs) ys at g h = (g.0, g.1, fits-append (k x) xs ys (coded contents adapted at q x) g.2 h)

  pub fits_then : {A B : Type 0} (t : Syntax Q A) (f : A → Syntax Q B) (xs ys : List ℕ) (a : A) (at : Coding C) → Leads t xs a → Fits contents adapted t xs at.context → Fits contents adapted (f a) ys (along contents adapted t xs at).context → Fits contents adapted (bind t f) (xs ++ ys) at.context
  fits_then Bad f [] ys a at l g h = absurd cc
  fits_then Bad f (x ∷ xs) ys a at l g h = absurd g
  fits_then (Done b) f [] ys a at l g h = let e : a ≡ b = cc in subst (λ c. Fits contents adapted (f c) ys at.context) e h
  fits_then (Done b) f (x ∷ xs) ys a at l g h = absurd g
  fits_then (Ask q k) f [] ys a at l g h = absurd cc
  fits_then (Ask q k) f (x ∷ xs) ys a at l g h = (g.0, g.1, fits_then (k x) f xs ys a (coded contents adapted at q x) l g.2 h)

  -- where each symbol of both fits, each of the first does
  pub fits_first : {A B : Type 0} (t : Syntax Q A) (f : A → Syntax Q B) (xs ys : List ℕ) (a : A) (at : Coding C) → Leads t xs a → Fits contents adapted (bind t f) (xs ++ ys) at.context → Fits contents adapted t xs at.context
  fits_first Bad f [] ys a at l g = tt
  fits_first Bad f (x ∷ xs) ys a at l g = absurd cc
  fits_first (Done b) f [] ys a at l g = tt
  fits_first (Done b) f (x ∷ xs) ys a at l g = absurd cc
  fits_first (Ask q k) f [] ys a at l g = tt
  fits_first (Ask q k) f (x ∷ xs) ys a at l g = (g.0, g.1, fits_first (k x) f xs ys a (coded contents adapted at q x) l g.2)

  -- and each of the second
  pub fits_second : {A B : Type 0} (t : Syntax Q A) (f : A → Syntax Q B) (xs ys : List ℕ) (a : A) (at : Coding C) → Leads t xs a → Fits contents adapted (bind t f) (xs ++ ys) at.context → Fits contents adapted (f a) ys (along contents adapted t xs at).context
  fits_second Bad f [] ys a at l g = absurd cc
  fits_second Bad f (x ∷ xs) ys a at l g = absurd cc
  fits_second (Done b) f [] ys a at l g = let e : b ≡ a = cc in subst (λ c. Fits contents adapted (f c) ys at.context) e g
  fits_second (Done b) f (x ∷ xs) ys a at l g = absurd cc
  fits_second (Ask q k) f [] ys a at l g = absurd cc
  fits_second (Ask q k) f (x ∷ xs) ys a at l g = fits_second (k x) f xs ys a (coded contents adapted at q x) l g.2

  -- the context after a path doesn't depend on the interval
  pub context_along : {A : Type 0} (t : Syntax Q A) (ss : List ℕ) (at from : Coding C) → at.context ≡ from.context → (along contents adapted t ss at).context ≡ (along contents adapted t ss from).context
  context_along t [] at from e = e
  context_along Bad (s ∷ ss) at from e = e
  context_along (Done a) (s ∷ ss) at from e = e
  context_along (Ask q k) (s ∷ ss) at from e = context_along (k s) ss (coded contents adapted at q s) (coded contents adapted from q s) (ap (λ c. adapted c q s) e)
