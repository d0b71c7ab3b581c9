-- Paths of a syntax tree: put together, and apart from one another.
use Rattle.std.proofs.Common.{◌≡◌, ℕ, ◌++◌, ◌∷◌, [], List, ap, refl}
use Rattle.av1_model.specs.Syntax.{Syntax, Leads, bind, follow}
use Rattle.av1_model.specs.Syntax.Syntax.{Bad, Done, Ask}

pub follow-append : {Q A : Type 0} (t : Syntax Q A) (xs ys : List ℕ) → follow t (xs ++ ys) ≡ follow (follow t xs) ys
follow-append t [] ys = refl
follow-append Bad (x ∷ xs) [] = refl
follow-append Bad (x ∷ xs) (y ∷ ys) = refl
follow-append (Done a) (x ∷ xs) [] = refl
follow-append (Done a) (x ∷ xs) (y ∷ ys) = refl
follow-append (Ask q n) (x ∷ xs) ys = follow-append (n x) xs ys

-- a path of the first element and a path of the second make a path of both
pub leads_then : {Q A B : Type 0} (t : Syntax Q A) (f : A → Syntax Q B) (xs ys : List ℕ) (a : A) (b : B) → Leads t xs a → Leads (f a) ys b → Leads (bind t f) (xs ++ ys) b
leads_then Bad f [] ys a b h k = cc
leads_then Bad f (x ∷ xs) ys a b h k = cc
leads_then (Done a') f [] ys a b h k = cc
leads_then (Done a') f (x ∷ xs) ys a b h k = cc
leads_then (Ask q n) f [] ys a b h k = cc
leads_then (Ask q n) f (x ∷ xs) ys a b h k = leads_then (n x) f xs ys a b h k

-- what is left of both after a path of the first is what is left of the second
pub follow_then : {Q A B : Type 0} (t : Syntax Q A) (f : A → Syntax Q B) (xs ys : List ℕ) (a : A) → Leads t xs a → follow (bind t f) (xs ++ ys) ≡ follow (f a) ys
follow_then Bad f [] ys a h = cc
follow_then Bad f (x ∷ xs) ys a h = cc
follow_then (Done a') f [] ys a h = cc
follow_then (Done a') f (x ∷ xs) ys a h = cc
follow_then (Ask q n) f [] ys a h = cc
follow_then (Ask q n) f (x ∷ xs) ys a h = follow_then (n x) f xs ys a h

-- a path of both is a path of the first and then one of the second
pub leads_apart : {Q A B : Type 0} (t : Syntax Q A) (f : A → Syntax Q B) (zs : List ℕ) (b : B) → Leads (bind t f) zs b →
    (a : A) × (xs : List ℕ) × (ys : List ℕ) × (zs ≡ xs ++ ys) × Leads t xs a × Leads (f a) ys b
leads_apart Bad f [] b h = absurd cc
leads_apart Bad f (z ∷ zs) b h = absurd cc
leads_apart (Done a) f zs b h = (a, [], zs, refl, refl, h)
leads_apart (Ask q n) f [] b h = absurd cc
leads_apart (Ask q n) f (z ∷ zs) b h = let r = leads_apart (n z) f zs b h in (r.0, z ∷ r.1, r.2, ap (λ l. z ∷ l) r.3, r.4, r.5)

-- no path is a proper beginning of another
pub no_prefix : {Q A : Type 0} (t : Syntax Q A) (xs : List ℕ) (y : ℕ) (ys : List ℕ) (a b : A) → Leads t xs a → Leads t (xs ++ y ∷ ys) b → ⊥
no_prefix Bad [] y ys a b h k = cc
no_prefix Bad (x ∷ xs) y ys a b h k = cc
no_prefix (Done a') [] y ys a b h k = cc
no_prefix (Done a') (x ∷ xs) y ys a b h k = cc
no_prefix (Ask q n) [] y ys a b h k = cc
no_prefix (Ask q n) (x ∷ xs) y ys a b h k = no_prefix (n x) xs y ys a b h k

-- a path has one answer
pub one_answer : {Q A : Type 0} (t : Syntax Q A) (xs : List ℕ) (a b : A) → Leads t xs a → Leads t xs b → a ≡ b
one_answer t xs a b h k = cc

-- one element after another may be put together in either order
pub bind_assoc : {Q A B C : Type 0} (t : Syntax Q A) (f : A → Syntax Q B) (g : B → Syntax Q C) → bind (bind t f) g ≡ bind t (λ a. bind (f a) g)
bind_assoc Bad f g = refl
bind_assoc (Done a) f g = refl
bind_assoc (Ask q n) f g = λ i. Ask q (λ s. bind_assoc (n s) f g i)
