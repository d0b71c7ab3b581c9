-- A path of a syntax tree as what a writer stores: its tokens, and the context after it.
use Rattle.std.specs.Prelude.{ℕ, List, [], ◌∷◌}
use Rattle.av1_model.specs.Syntax.{Syntax}
use Rattle.av1_model.specs.Syntax.Syntax.{Bad, Done, Ask}
use Rattle.av1_model.specs.Interval.{Token}
use Rattle.av1_model.specs.Cdf.{token_of}

module _ {Q C : Type 0} (contents : C → Q → List ℕ) (adapted : C → Q → ℕ → C) where
  -- the tokens of a path, each of a distribution as the symbols before left it
  abbrev pub tokens_along : {A : Type 0} → Syntax Q A → List ℕ → C → List Token
  tokens_along t [] c = []
  tokens_along Bad (s ∷ ss) c = []
  tokens_along (Done a) (s ∷ ss) c = []
  tokens_along (Ask q k) (s ∷ ss) c = token_of (contents c q) s ∷ tokens_along (k s) ss (adapted c q s)

  -- the context after a path
  abbrev pub context_along : {A : Type 0} → Syntax Q A → List ℕ → C → C
  context_along t [] c = c
  context_along Bad (s ∷ ss) c = c
  context_along (Done a) (s ∷ ss) c = c
  context_along (Ask q k) (s ∷ ss) c = context_along (k s) ss (adapted c q s)
