-- A writer goes down a tree, symbol by symbol and element by element.
use Rattle.std.proofs.Common.{◌≡◌, ℕ, ◌++◌, ◌∷◌, [], List, ◌∙◌, sym, ap, subst, refl, Result, Ok, Err, Option, Some}
use Rattle.std.specs.Option.{option_map_or}
use Rattle.std.specs.Prelude.{IsErr}
use Rattle.av1_model.specs.Element.{nothing, known, symbol}
use Rattle.av1_model.specs.Comes.{Standing, standing, stored, stored_along, Stores, Comes, Writes, Begins, Wrote}
use Rattle.av1_model.specs.Paths.{tokens_along, context_along}
use Rattle.av1_model.specs.Position.{advance_all, encoder_at}
use Rattle.av1_model.specs.Reading.{Coding, coded, along, Fits}
use Rattle.av1_model.specs.Syntax.{Syntax, Leads, bind, follow}
use Rattle.av1_model.specs.Syntax.Syntax.{Bad, Done, Ask}
use Rattle.av1_model.proofs.TreeLaws.{follow-append, leads_then}

module _ {Q C : Type 0} (contents : C → Q → List ℕ) (adapted : C → Q → ℕ → C) where
  pub stored-append : {A : Type 0} (t : Syntax Q A) (xs ys : List ℕ) (at : Standing C) → stored_along contents adapted t (xs ++ ys) at ≡ stored_along contents adapted (follow t xs) ys (stored_along contents adapted t xs at)
  stored-append t [] ys at = refl
  stored-append Bad (x ∷ xs) [] at = refl
  stored-append Bad (x ∷ xs) (y ∷ ys) at = refl
  stored-append (Done a) (x ∷ xs) [] at = refl
  stored-append (Done a) (x ∷ xs) (y ∷ ys) at = refl
  stored-append (Ask q k) (x ∷ xs) ys at = stored-append (k x) xs ys (stored contents adapted at q x)

  -- the tokens of a path are stored, and the context is the one after it
  pub stored_is : {A : Type 0} (t : Syntax Q A) (ss : List ℕ) (at : Standing C) → stored_along contents adapted t ss at ≡ standing (advance_all at.position (tokens_along contents adapted t ss at.context)) (context_along contents adapted t ss at.context)
  stored_is t [] at = refl
  stored_is Bad (s ∷ ss) at = refl
  stored_is (Done a) (s ∷ ss) at = refl
  stored_is (Ask q k) (s ∷ ss) at = stored_is (k s) ss (stored contents adapted at q s)

  -- an encoder comes to where coding along the path does
  pub encoder_stored : {A : Type 0} (t : Syntax Q A) (ss : List ℕ) (at : Coding C) → stored_along contents adapted t ss (standing (encoder_at at.interval) at.context) ≡ standing (encoder_at (along contents adapted t ss at).interval) (along contents adapted t ss at).context
  encoder_stored t [] at = refl
  encoder_stored Bad (s ∷ ss) at = refl
  encoder_stored (Done a) (s ∷ ss) at = refl
  encoder_stored (Ask q k) (s ∷ ss) at = encoder_stored (k s) ss (coded contents adapted at q s)

  -- where each symbol fits, none comes after an end: so one element after another
  follow-bind : {A B : Type 0} (t : Syntax Q A) (f : A → Syntax Q B) (xs : List ℕ) (c : C) → Fits contents adapted t xs c → follow (bind t f) xs ≡ bind (follow t xs) f
  follow-bind t f [] c h = refl
  follow-bind Bad f (x ∷ xs) c h = absurd h
  follow-bind (Done b) f (x ∷ xs) c h = absurd h
  follow-bind (Ask q k) f (x ∷ xs) c h = follow-bind (k x) f xs (adapted c q x) h.2

  fits-bind : {A B : Type 0} (t : Syntax Q A) (f : A → Syntax Q B) (xs : List ℕ) (c : C) → Fits contents adapted t xs c → Fits contents adapted (bind t f) xs c
  fits-bind t f [] c h = tt
  fits-bind Bad f (x ∷ xs) c h = absurd h
  fits-bind (Done b) f (x ∷ xs) c h = absurd h
  fits-bind (Ask q k) f (x ∷ xs) c h = (h.0, h.1, fits-bind (k x) f xs (adapted c q x) h.2)

  stored-bind : {A B : Type 0} (t : Syntax Q A) (f : A → Syntax Q B) (xs : List ℕ) (at : Standing C) → Fits contents adapted t xs at.context → stored_along contents adapted (bind t f) xs at ≡ stored_along contents adapted t xs at
  stored-bind t f [] at h = refl
  stored-bind Bad f (x ∷ xs) at h = absurd h
  stored-bind (Done b) f (x ∷ xs) at h = absurd h
  stored-bind (Ask q k) f (x ∷ xs) at h = stored-bind (k x) f xs (stored contents adapted at q x) h.2

  fits_both : {A : Type 0} (t : Syntax Q A) (xs ys : List ℕ) (at : Standing C) → Fits contents adapted t xs at.context → Fits contents adapted (follow t xs) ys (stored_along contents adapted t xs at).context → Fits contents adapted t (xs ++ ys) at.context
  fits_both t [] ys at g h = h
  fits_both Bad (x ∷ xs) ys at g h = absurd g
  fits_both (Done a) (x ∷ xs) ys at g h = absurd g
  fits_both (Ask q k) (x ∷ xs) ys at g h = (g.0, g.1, fits_both (k x) xs ys (stored contents adapted at q x) g.2 h)

  -- nothing is stored
  pub stays : {A : Type 0} (t : Syntax Q A) (at : Standing C) → Comes contents adapted t t at at
  stays t at = record { symbols = []; follows = refl; fits = tt; wrote = refl }

  -- one symbol
  pub comes_by : {A : Type 0} (u : Syntax Q A) (q : Q) (k : ℕ → Syntax Q A) (s : ℕ) (old new : Standing C) → k s ≡ u → Stores contents adapted q s old new → Comes contents adapted (Ask q k) u old new
  comes_by u q k s old new e h = record { symbols = s ∷ []; follows = e; fits = (h.valid, h.one_of, tt); wrote = h.wrote }

  pub comes_then : {A : Type 0} (t u v : Syntax Q A) (old mid new : Standing C) → Comes contents adapted t u old mid → Comes contents adapted u v mid new → Comes contents adapted t v old new
  comes_then t u v old mid new h k = record {
    symbols = h.symbols ++ k.symbols;
    follows = follow-append t h.symbols k.symbols ∙ ap (λ x. follow x k.symbols) h.follows ∙ k.follows;
    fits = fits_both t h.symbols k.symbols old h.fits
        (subst (λ (m : Standing C). Fits contents adapted (follow t h.symbols) k.symbols m.context) h.wrote (subst (λ x. Fits contents adapted x k.symbols mid.context) (sym h.follows) k.fits));
    wrote = k.wrote ∙ ap (λ x. stored_along contents adapted x k.symbols mid) (sym h.follows) ∙ ap (stored_along contents adapted (follow t h.symbols) k.symbols) h.wrote
        ∙ sym (stored-append t h.symbols k.symbols old);
  }

  -- one symbol more
  pub comes_one : {A : Type 0} (t u : Syntax Q A) (q : Q) (k : ℕ → Syntax Q A) (s : ℕ) (old mid new : Standing C) → Comes contents adapted t (Ask q k) old mid → k s ≡ u → Stores contents adapted q s mid new →
      Comes contents adapted t u old new
  comes_one t u q k s old mid new h e w = comes_then t (Ask q k) u old mid new h (comes_by u q k s mid new e w)

  -- equal trees and places
  pub comes_as : {A : Type 0} (t u v : Syntax Q A) (old mid new : Standing C) → Comes contents adapted t u old mid → u ≡ v → new ≡ mid → Comes contents adapted t v old new
  comes_as t u v old mid new h e f = record { symbols = h.symbols; follows = h.follows ∙ e; fits = h.fits; wrote = f ∙ h.wrote }

  -- the tree that is left of the first of two elements goes on with the second
  pub comes_within : {A B : Type 0} (t u : Syntax Q A) (f : A → Syntax Q B) (old new : Standing C) → Comes contents adapted t u old new → Comes contents adapted (bind t f) (bind u f) old new
  comes_within t u f old new h = record {
    symbols = h.symbols;
    follows = follow-bind t f h.symbols old.context h.fits ∙ ap (λ x. bind x f) h.follows;
    fits = fits-bind t f h.symbols old.context h.fits;
    wrote = h.wrote ∙ sym (stored-bind t f h.symbols old h.fits);
  }

  -- the first of two elements is written
  pub writes_first : {A B : Type 0} (t : Syntax Q A) (f : A → Syntax Q B) (a : A) (old new : Standing C) → Writes contents adapted t a old new → Comes contents adapted (bind t f) (f a) old new
  writes_first t f a old new h = comes_within t (Done a) f old new h

  -- a writer that has come some way is refused on the way from there
  pub begins_then : {A : Type 0} (t u : Syntax Q A) (a : A) (old mid new : Standing C) → Comes contents adapted t u old mid → Begins contents adapted u a mid new → Begins contents adapted t a old new
  begins_then t u a old mid new h b = record { left = b.left; comes = comes_then t u b.left old mid new h b.comes; rest = b.rest; leads = b.leads }

  -- it is refused in the first of two elements, where the second can follow
  pub begins_first : {A B : Type 0} (t : Syntax Q A) (f : A → Syntax Q B) (a : A) (b : B) (ys : List ℕ) (old new : Standing C) → Leads (f a) ys b → Begins contents adapted t a old new → Begins contents adapted (bind t f) b old new
  begins_first t f a b ys old new l h = record {
    left = bind h.left f;
    comes = comes_within t h.left f old new h.comes;
    rest = h.rest ++ ys;
    leads = leads_then h.left f h.rest ys a b h.leads l;
  }

  -- nothing is stored yet
  pub begins_none : {A : Type 0} (t : Syntax Q A) (ss : List ℕ) (a : A) (old new : Standing C) → Leads t ss a → new ≡ old → Begins contents adapted t a old new
  begins_none t ss a old new l e = record { left = t; comes = comes_as t t t old old new (stays t old) refl e; rest = ss; leads = l }

  -- what is written is the whole path, and what is begun is a front of one
  pub begins_front : {A : Type 0} (t : Syntax Q A) (a : A) (old new : Standing C) → (h : Begins contents adapted t a old new) → Leads t (h.comes.symbols ++ h.rest) a
  begins_front t a old new h = follow-append t h.comes.symbols h.rest ∙ ap (λ x. follow x h.rest) h.comes.follows ∙ h.leads

  -- a call after one that came some way
  pub wrote_then : {A U E : Type 0} (r : Result U E) (t u : Syntax Q A) (a : A) (old mid new : Standing C) → Comes contents adapted t u old mid → Wrote contents adapted r u a mid new → Wrote contents adapted r t a old new
  wrote_then (Ok x) t u a old mid new h w = comes_then t u (Done a) old mid new h w
  wrote_then (Err e) t u a old mid new h w = begins_then t u a old mid new h w

  -- a call of an element, where the values go by other names
  pub wrote_as : {A B U E : Type 0} (r : Result U E) (t : Syntax Q A) (f : A → Syntax Q B) (a : A) (b : B) (old new : Standing C) → f a ≡ Done b → Wrote contents adapted r t a old new → Wrote contents adapted r (bind t f) b old new
  wrote_as (Ok x) t f a b old new e w = comes_as (bind t f) (f a) (Done b) old new new (writes_first t f a old new w) e refl
  wrote_as (Err x) t f a b old new e w = begins_first t f a b [] old new e w

  -- a call that was refused
  pub wrote_err : {A U E : Type 0} (r : Result U E) (t : Syntax Q A) (a : A) (old new : Standing C) → IsErr r → Begins contents adapted t a old new → Wrote contents adapted r t a old new
  wrote_err (Ok x) t a old new is b = absurd cc
  wrote_err (Err x) t a old new is b = b

  told : {A : Type 0} (o : Option A) (a : A) → o ≡ Some a → (option_map_or (known {Q = Q}) o nothing).tree ≡ Done a
  told o a e = ap (λ (o : Option _). (option_map_or (known {Q = Q}) o nothing).tree) e

  -- one symbol, which stands for a value
  pub writes_symbol : {A : Type 0} (q : Q) (value : ℕ → Option A) (number : A → ℕ) (a : A) (old new : Standing C) → value (number a) ≡ Some a → Stores contents adapted q (number a) old new →
      Writes contents adapted (symbol q value number).tree a old new
  writes_symbol q value number a old new e w = comes_by (Done a) q (λ s. (option_map_or known (value s) nothing).tree) (number a) old new (told (value (number a)) a e) w

  pub begins_symbol : {A : Type 0} (q : Q) (value : ℕ → Option A) (number : A → ℕ) (a : A) (old new : Standing C) → value (number a) ≡ Some a → new ≡ old → Begins contents adapted (symbol q value number).tree a old new
  begins_symbol q value number a old new e w = begins_none (symbol q value number).tree (number a ∷ []) a old new (told (value (number a)) a e) w
