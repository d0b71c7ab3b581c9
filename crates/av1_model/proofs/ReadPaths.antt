-- From a reading to the path that was read.
use Rattle.std.proofs.Common.{◌≡◌, ℕ, ◌∷◌, [], List, ◌∙◌, ap, refl, sym, Option, Some, None, option_and_then}
use Rattle.av1_model.specs.Cdf.{token_of, decoded_symbol}
use Rattle.av1_model.specs.Element.{Element, Reads}
use Rattle.av1_model.specs.Interval.{Holds, part}
use Rattle.av1_model.specs.Reading.{Coding, coded, along, read}
use Rattle.av1_model.specs.Syntax.{Syntax, Leads}
use Rattle.av1_model.specs.Syntax.Syntax.{Bad, Done, Ask}
use Rattle.av1_model.proofs.Bytes.{holds_doubled}
use Rattle.av1_model.proofs.Symbols.{decoded_tells}

pub and_then_some : {A B : Type 0} (o : Option A) (f : A → Option B) (b : B) → option_and_then f o ≡ Some b → (a : A) × (o ≡ Some a) × (f a ≡ Some b)
and_then_some None f b h = absurd cc
and_then_some (Some a) f b h = (a, refl, h)

pub done_is : {A B : Type 0} (a b : A) (x y : B) → ◌≡◌ {A = Option (A × B)} (Some (a, x)) (Some (b, y)) → (a ≡ b) × (x ≡ y)
done_is {A} {B} a b x y h = let e : ◌≡◌ {A = A × B} (a, x) (b, y) = cc in (ap (λ (p : A × B). p.0) e, ap (λ (p : A × B). p.1) e)

module _ {Q C : Type 0} (contents : C → Q → List ℕ) (adapted : C → Q → ℕ → C) where
  -- what is read is read along a path of it
  pub read_path : {A : Type 0} (bytes : List ℕ) (t : Syntax Q A) (a : A) (at end : Coding C) → read contents adapted t bytes at ≡ Some (a, end) →
      (ss : List ℕ) × Leads t ss a × (end ≡ along contents adapted t ss at) × (Holds bytes at.interval → Holds bytes end.interval)
  read_path bytes Bad a at end h = absurd cc
  read_path bytes (Done b) a at end h = let e = done_is b a at end h in ([], ap Done e.0, sym e.1, λ g. rw (sym e.1) g)
  read_path bytes (Ask q k) a at end h =
      let d = and_then_some (decoded_symbol bytes at.interval (contents at.context q)) (λ s. read contents adapted (k s) bytes (coded contents adapted at q s)) (a, end) h in
      let r = read_path bytes (k d.0) a (coded contents adapted at q d.0) end d.2 in
      let t = decoded_tells bytes at.interval (contents at.context q) d.0 d.1 in
      (d.0 ∷ r.0, r.1, r.2, λ g. r.3 (holds_doubled bytes _ (part at.interval (token_of (contents at.context q) d.0)) t.1))

  -- what is read of an element is one of its values, along the value's own path
  pub read_value : {A : Type 0} (IsOne : Q → ℕ → Type 0) (e : Element Q A) (P : A → Type 0) (most : ℕ) → Reads IsOne e P most → (bytes : List ℕ) (a : A) (at end : Coding C) → read contents adapted e.tree bytes at ≡ Some (a, end) →
      P a × (end ≡ along contents adapted e.tree (e.symbols a) at)
  read_value IsOne e P most r bytes a at end h =
      let p = read_path bytes e.tree a at end h in
      let one = r.one_path a p.0 p.1 in
      (one.0, p.2 ∙ ap (λ ss. along contents adapted e.tree ss at) one.1)
