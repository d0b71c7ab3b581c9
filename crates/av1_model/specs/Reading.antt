-- Coding along a path of a syntax tree, and reading by the tree.
use Rattle.std.specs.Prelude.{ℕ, ◌<◌, List, [], ◌∷◌, Option, Some, None, option_and_then, length}
use Rattle.av1_model.specs.Syntax.{Syntax}
use Rattle.av1_model.specs.Syntax.Syntax.{Bad, Done, Ask}
use Rattle.av1_model.specs.Interval.{Interval, narrow}
use Rattle.av1_model.specs.Cdf.{IsCdf, token_of, decoded_symbol}

-- what is coded so far: the interval, and the context of adaptive distributions
pub record Coding (C : Type 0) : Type 0 where
  pub interval : Interval
  pub context : C

-- `contents` is the distribution that codes a symbol, `adapted` the context after it
module _ {Q C : Type 0} (contents : C → Q → List ℕ) (adapted : C → Q → ℕ → C) where
  -- after one symbol
  abbrev pub coded : Coding C → Q → ℕ → Coding C
  coded at q s = record { interval = narrow at.interval (token_of (contents at.context q) s); context = adapted at.context q s }

  -- after the symbols of a path
  abbrev pub along : {A : Type 0} → Syntax Q A → List ℕ → Coding C → Coding C
  along t [] at = at
  along Bad (s ∷ ss) at = at
  along (Done a) (s ∷ ss) at = at
  along (Ask q k) (s ∷ ss) at = along (k s) ss (coded at q s)

  -- what a reader takes from bytes: the answer, and what is coded then
  abbrev pub read : {A : Type 0} → Syntax Q A → List ℕ → Coding C → Option (A × Coding C)
  read Bad bytes at = None
  read (Done a) bytes at = Some (a, at)
  read (Ask q k) bytes at = option_and_then (λ s. read (k s) bytes (coded at q s)) (decoded_symbol bytes at.interval (contents at.context q))

  -- each symbol of a path is one of a valid distribution
  abbrev pub Fits : {A : Type 0} → Syntax Q A → List ℕ → C → Type 0
  Fits t [] c = Unit {0}
  Fits Bad (s ∷ ss) c = ⊥
  Fits (Done a) (s ∷ ss) c = ⊥
  Fits (Ask q k) (s ∷ ss) c = IsCdf (contents c q) × (s < length (contents c q)) × Fits (k s) ss (adapted c q s)
