-- What a writer stores along a path is what the path codes.
use Rattle.std.proofs.Common.{◌≡◌, ℕ, ◌+◌, ◌*◌, ◌≤◌, List, [], ◌∷◌, length, refl, arith}
use Rattle.std.specs.List.{AllByRecursion}
use Rattle.av1_model.specs.Syntax.{Syntax}
use Rattle.av1_model.specs.Syntax.Syntax.{Bad, Done, Ask}
use Rattle.av1_model.specs.Interval.{IsInterval, IsToken}
use Rattle.av1_model.specs.Cdf.{token_of}
use Rattle.av1_model.proofs.Tokens.{narrow_valid, narrow_shift}
use Rattle.av1_model.proofs.Symbols.{token_valid}
use Rattle.av1_model.specs.Reading.{Coding, coded, along, Fits}
use Rattle.av1_model.specs.Position.{advance_all, encoder_at}
use Rattle.av1_model.specs.Paths.{tokens_along, context_along}

module _ {Q C : Type 0} (contents : C → Q → List ℕ) (adapted : C → Q → ℕ → C) where
  -- an encoder that stores the tokens of a path stands at the interval after it
  pub encoder_along : {A : Type 0} (t : Syntax Q A) (ss : List ℕ) (at : Coding C) → advance_all (encoder_at at.interval) (tokens_along contents adapted t ss at.context) ≡ encoder_at (along contents adapted t ss at).interval
  encoder_along t [] at = refl
  encoder_along Bad (s ∷ ss) at = refl
  encoder_along (Done a) (s ∷ ss) at = refl
  encoder_along (Ask q k) (s ∷ ss) at = encoder_along (k s) ss (coded contents adapted at q s)

  pub context-along : {A : Type 0} (t : Syntax Q A) (ss : List ℕ) (at : Coding C) → (along contents adapted t ss at).context ≡ context_along contents adapted t ss at.context
  context-along t [] at = refl
  context-along Bad (s ∷ ss) at = refl
  context-along (Done a) (s ∷ ss) at = refl
  context-along (Ask q k) (s ∷ ss) at = context-along (k s) ss (coded contents adapted at q s)

  -- each symbol of a path that fits has a valid token
  pub tokens_valid : {A : Type 0} (t : Syntax Q A) (ss : List ℕ) (at : Coding C) → Fits contents adapted t ss at.context → AllByRecursion IsToken (tokens_along contents adapted t ss at.context)
  tokens_valid t [] at f = tt
  tokens_valid Bad (s ∷ ss) at f = absurd f
  tokens_valid (Done a) (s ∷ ss) at f = absurd f
  tokens_valid (Ask q k) (s ∷ ss) at f = (token_valid (contents at.context q) s f.0 f.1, tokens_valid (k s) ss (coded contents adapted at q s) f.2)

  -- a symbol adds at most 13 bits
  pub along_shift : {A : Type 0} (t : Syntax Q A) (ss : List ℕ) (at : Coding C) → IsInterval at.interval → Fits contents adapted t ss at.context → (along contents adapted t ss at).interval.shift ≤ at.interval.shift + 13 * length ss
  along_shift t [] at v f = omega arith
  along_shift Bad (s ∷ ss) at v f = absurd f
  along_shift (Done a) (s ∷ ss) at v f = absurd f
  along_shift (Ask q k) (s ∷ ss) at v f =
      let w = token_valid (contents at.context q) s f.0 f.1 in
      omega (arith, along_shift (k s) ss (coded contents adapted at q s) (narrow_valid at.interval (token_of (contents at.context q) s) v w) f.2, narrow_shift at.interval (token_of (contents at.context q) s) v w)
