-- A writer on its way down a syntax tree: what is left of the tree, where the writer stands, and what has been learnt.
use Rattle.std.specs.Prelude.{◌≡◌, ℕ, ◌<◌, List, [], ◌∷◌, length, Result, Ok, Err}
use Rattle.av1_model.specs.Cdf.{IsCdf, token_of}
use Rattle.av1_model.specs.Position.{Position, advance}
use Rattle.av1_model.specs.Reading.{Fits}
use Rattle.av1_model.specs.Syntax.{Syntax, Leads, bind, follow}
use Rattle.av1_model.specs.Syntax.Syntax.{Bad, Done, Ask}

-- where a writer stands, and the context of adaptive distributions
pub record Standing (C : Type 0) : Type 0 where
  pub position : Position
  pub context : C

abbrev pub standing : {C : Type 0} → Position → C → Standing C
standing position context = record { position = position; context = context }

module _ {Q C : Type 0} (contents : C → Q → List ℕ) (adapted : C → Q → ℕ → C) where
  -- after one symbol
  abbrev pub stored : Standing C → Q → ℕ → Standing C
  stored at q s = record { position = advance at.position (token_of (contents at.context q) s); context = adapted at.context q s }

  -- after the symbols of a path
  abbrev pub stored_along : {A : Type 0} → Syntax Q A → List ℕ → Standing C → Standing C
  stored_along t [] at = at
  stored_along Bad (s ∷ ss) at = at
  stored_along (Done a) (s ∷ ss) at = at
  stored_along (Ask q k) (s ∷ ss) at = stored_along (k s) ss (stored at q s)

  -- a symbol of a valid distribution is stored
  pub record Stores (q : Q) (s : ℕ) (old new : Standing C) : Type 0 where
    pub valid : IsCdf (contents old.context q)
    pub one_of : s < length (contents old.context q)
    pub wrote : new ≡ stored old q s

  -- symbols lead from one tree to the other, each is one of a valid distribution, and they are stored
  pub record Comes {A : Type 0} (tree left : Syntax Q A) (old new : Standing C) : Type 0 where
    pub symbols : List ℕ
    pub follows : follow tree symbols ≡ left
    pub fits : Fits contents adapted tree symbols old.context
    pub wrote : new ≡ stored_along tree symbols old

  -- a whole path of an answer is stored
  abbrev pub Writes : {A : Type 0} → Syntax Q A → A → Standing C → Standing C → Type 0
  Writes tree a old new = Comes tree (Done a) old new

  -- the first symbols of a path of an answer are stored
  pub record Begins {A : Type 0} (tree : Syntax Q A) (a : A) (old new : Standing C) : Type 0 where
    pub left : Syntax Q A
    pub comes : Comes tree left old new
    pub rest : List ℕ
    pub leads : Leads left rest a

  -- a beginning within the first of two elements is one of both, where the second can lead to the answer
  abbrev pub BeginsInFirst : {A B : Type 0} → Syntax Q A → (A → Syntax Q B) → A → B → Type 0
  BeginsInFirst tree f a b =
      (symbols : List ℕ) (old new : Standing C) → Leads (f a) symbols b → Begins tree a old new → Begins (bind tree f) b old new

  -- all of it, or its beginning where a call is refused
  abbrev pub Wrote : {A U E : Type 0} → Result U E → Syntax Q A → A → Standing C → Standing C → Type 0
  Wrote (Ok u) tree a old new = Writes tree a old new
  Wrote (Err e) tree a old new = Begins tree a old new
