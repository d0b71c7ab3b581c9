-- What a reader does in a step, as a tree: it asks for a symbol, is done with an answer, or nothing fits.
use Rattle.std.specs.Prelude.{◌≡◌, ℕ, List, [], ◌∷◌}

-- Q is what codes a symbol, A an answer
pub data Syntax (Q A : Type 0) : Type 0 where
  Bad : Syntax Q A
  Done : A → Syntax Q A
  Ask : Q → (ℕ → Syntax Q A) → Syntax Q A

-- what is left after these symbols
abbrev pub follow : {Q A : Type 0} → Syntax Q A → List ℕ → Syntax Q A
follow t [] = t
follow Bad (s ∷ ss) = Bad
follow (Done a) (s ∷ ss) = Bad
follow (Ask q k) (s ∷ ss) = follow (k s) ss

-- one syntax element after another
abbrev pub bind : {Q A B : Type 0} → Syntax Q A → (A → Syntax Q B) → Syntax Q B
bind Bad f = Bad
bind (Done a) f = f a
bind (Ask q k) f = Ask q (λ s. bind (k s) f)

-- these symbols lead to this answer
abbrev pub Leads : {Q A : Type 0} → Syntax Q A → List ℕ → A → Type 0
Leads t ss a = follow t ss ≡ Done a
