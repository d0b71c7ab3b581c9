-- Reading back, for every syntax tree at once.
use Rattle.std.proofs.Common.{◌≡◌, ℕ, ◌∷◌, [], List, ◌∙◌, ap, length, ◌<◌, Some, option_and_then}
use Rattle.av1_model.specs.Syntax.{Syntax, Leads}
use Rattle.av1_model.specs.Syntax.Syntax.{Bad, Done, Ask}
use Rattle.av1_model.specs.Interval.{IsInterval, Holds, final_bytes}
use Rattle.av1_model.specs.Cdf.{IsCdf}
use Rattle.av1_model.specs.Reading.{Coding, coded, along, read, Fits}
use Rattle.av1_model.proofs.Tokens.{narrow_valid}
use Rattle.av1_model.proofs.Symbols.{token_valid, decodes}
use Rattle.av1_model.proofs.Bytes.{unnarrowed, held_by_earlier}
use Rattle.av1_model.proofs.Final.{holds_final}

module _ {Q C : Type 0} (contents : C → Q → List ℕ) (adapted : C → Q → ℕ → C) where
  pub coded_valid : (at : Coding C) (q : Q) (s : ℕ) → IsInterval at.interval → IsCdf (contents at.context q) → s < length (contents at.context q) → IsInterval (coded contents adapted at q s).interval
  coded_valid at q s v c h = narrow_valid at.interval _ v (token_valid _ s c h)

  -- coding keeps an interval an interval
  pub along_valid : {A : Type 0} (t : Syntax Q A) (ss : List ℕ) (at : Coding C) → IsInterval at.interval → Fits contents adapted t ss at.context → IsInterval (along contents adapted t ss at).interval
  along_valid t [] at v f = v
  along_valid Bad (s ∷ ss) at v f = v
  along_valid (Done a) (s ∷ ss) at v f = v
  along_valid (Ask q k) (s ∷ ss) at v f = along_valid (k s) ss (coded contents adapted at q s) (coded_valid at q s v f.0 f.1) f.2

  -- bytes that the end of a path holds, its start holds
  pub held_before : {A : Type 0} (bytes : List ℕ) (t : Syntax Q A) (ss : List ℕ) (at : Coding C) → IsInterval at.interval → Fits contents adapted t ss at.context → Holds bytes (along contents adapted t ss at).interval → Holds bytes at.interval
  held_before bytes t [] at v f h = h
  held_before bytes Bad (s ∷ ss) at v f h = h
  held_before bytes (Done a) (s ∷ ss) at v f h = h
  held_before bytes (Ask q k) (s ∷ ss) at v f h =
      held_by_earlier bytes at.interval _ v (token_valid (contents at.context q) s f.0 f.1)
      (held_before bytes (k s) ss (coded contents adapted at q s) (coded_valid at q s v f.0 f.1) f.2 h)

  -- a reader of such bytes takes this path
  pub read_back : {A : Type 0} (bytes : List ℕ) (t : Syntax Q A) (ss : List ℕ) (a : A) (at : Coding C) → IsInterval at.interval → Leads t ss a → Fits contents adapted t ss at.context → Holds bytes (along contents adapted t ss at).interval → read contents adapted t bytes at ≡ Some (a, along contents adapted t ss at)
  read_back bytes Bad [] a at v l f h = cc
  read_back bytes (Done b) [] a at v l f h = cc
  read_back bytes (Ask q k) [] a at v l f h = cc
  read_back bytes Bad (s ∷ ss) a at v l f h = cc
  read_back bytes (Done b) (s ∷ ss) a at v l f h = cc
  read_back bytes (Ask q k) (s ∷ ss) a at v l f h =
      let n = coded_valid at q s v f.0 f.1 in
      ap (option_and_then (λ s. read contents adapted (k s) bytes (coded contents adapted at q s))) (decodes bytes at.interval (contents at.context q) s v f.0 f.1 (unnarrowed bytes at.interval _ (held_before bytes (k s) ss (coded contents adapted at q s) n f.2 h)))
      ∙ read_back bytes (k s) ss a (coded contents adapted at q s) n l f.2 h

  -- so the final bytes of the end give the answer
  pub read_final : {A : Type 0} (t : Syntax Q A) (ss : List ℕ) (a : A) (at : Coding C) → IsInterval at.interval → Leads t ss a → Fits contents adapted t ss at.context → read contents adapted t (final_bytes (along contents adapted t ss at).interval) at ≡ Some (a, along contents adapted t ss at)
  read_final t ss a at v l f = read_back _ t ss a at v l f (holds_final _ (along_valid t ss at v f))
