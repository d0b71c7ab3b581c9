-- What calls leave that write headers, one after another.
use Rattle.std.proofs.Common.{◌≡◌, ℕ, suc, ℤ, pos, ◌++◌, ◌∷◌, [], List, ◌∙◌, sym, ap, subst, refl, Bool, true, false, if◌then◌else◌, append_assoc}
use Rattle.std.proofs.lemmas.List.{append-nil}
use Rattle.av1_model.specs.Bits.{signed_bits_of}
use Rattle.av1_header.specs.Rows.{Rows, Code, Fits, HasWord, HasSignedWord, ◌>>=◌, words, word_if, told, joined, Began, Grew, Wrote, WroteFlag, WroteNumber, WroteSigned, signed_if, on, each, flag_or, number_or}
use Rattle.av1_header.specs.Rows.Rows.{Done, Flag, Number, Signed}

-- the words of two headers, one after another
pub words-bind : {S A B : Type 0} (t : Rows S A) (g : A → Rows S B) (s : S) → words (t >>= g) s ≡ words t s ++ words (g (told t s)) s
unfolding ◌>>=◌
words-bind (Done a) g s = refl
words-bind (Flag name there other value next) g s = ap (λ (ws : List (List Bool)). word_if there (value s ∷ []) ∷ ws) (words-bind (next (if there then value s else other)) g s)
words-bind (Number name there other code value next) g s = ap (λ (ws : List (List Bool)). word_if there (code.word (value s)) ∷ ws) (words-bind (next (if there then value s else other)) g s)
words-bind (Signed name there other n value next) g s = ap (λ (ws : List (List Bool)). word_if there (signed_bits_of n (value s)) ∷ ws) (words-bind (next (if there then value s else other)) g s)

pub told-bind : {S A B : Type 0} (t : Rows S A) (g : A → Rows S B) (s : S) → told (t >>= g) s ≡ told (g (told t s)) s
unfolding ◌>>=◌
told-bind (Done a) g s = refl
told-bind (Flag name there other value next) g s = told-bind (next (if there then value s else other)) g s
told-bind (Number name there other code value next) g s = told-bind (next (if there then value s else other)) g s
told-bind (Signed name there other n value next) g s = told-bind (next (if there then value s else other)) g s

fits-bind : {S A B : Type 0} (t : Rows S A) (g : A → Rows S B) (s : S) → Fits t s → Fits (g (told t s)) s → Fits (t >>= g) s
unfolding ◌>>=◌
fits-bind (Done a) g s h k = k
fits-bind (Flag name true other value next) g s h k = fits-bind (next (value s)) g s h k
fits-bind (Flag name false other value next) g s h k = fits-bind (next other) g s h k
fits-bind (Number name true other code value next) g s h k = (h.0, fits-bind (next (value s)) g s h.1 k)
fits-bind (Number name false other code value next) g s h k = fits-bind (next other) g s h k
fits-bind (Signed name true other n value next) g s h k = (h.0, fits-bind (next (value s)) g s h.1 k)
fits-bind (Signed name false other n value next) g s h k = fits-bind (next other) g s h k

fits-on : {S T A : Type 0} (part : S → T) (t : Rows T A) (s : S) → Fits t (part s) → Fits (on part t) s
unfolding on
fits-on part (Done a) s h = h
fits-on part (Flag name true other value next) s h = fits-on part (next (value (part s))) s h
fits-on part (Flag name false other value next) s h = fits-on part (next other) s h
fits-on part (Number name true other code value next) s h = (h.0, fits-on part (next (value (part s))) s h.1)
fits-on part (Number name false other code value next) s h = fits-on part (next other) s h
fits-on part (Signed name true other n value next) s h = (h.0, fits-on part (next (value (part s))) s h.1)
fits-on part (Signed name false other n value next) s h = fits-on part (next other) s h

-- a row alone fits, whether it is there or not
fits_flag_row : {S : Type 0} (there other : Bool) (name : List ℕ) (value : S → Bool) (s : S) → Fits (flag_or there other name value) s
unfolding flag_or
fits_flag_row true other name value s = tt
fits_flag_row false other name value s = tt

fits_number_row : {S : Type 0} (there : Bool) (other : ℕ) (name : List ℕ) (code : Code) (value : S → ℕ) (s : S) → (there ≡ true → HasWord code (value s)) → Fits (number_or there other name code value) s
unfolding number_or
fits_number_row true other name code value s h = (h refl, tt)
fits_number_row false other name code value s h = tt

fits_signed_row : {S : Type 0} (there : Bool) (name : List ℕ) (n : ℕ) (value : S → ℤ) (s : S) → (there ≡ true → HasSignedWord n (value s)) → Fits (signed_if there name n value) s
unfolding signed_if
fits_signed_row true name n value s h = (h refl, tt)
fits_signed_row false name n value s h = tt

joined-append : (xs ys : List (List Bool)) → joined (xs ++ ys) ≡ joined xs ++ joined ys
joined-append [] ys = refl
joined-append (x ∷ xs) ys = ap (λ (l : List Bool). x ++ l) (joined-append xs ys) ∙ sym (append_assoc x (joined xs) (joined ys))

grew_append : (ws vs : List (List Bool)) (p q r : Bool) (old mid new : List Bool) → Grew ws p q old mid → Grew vs q r mid new → Grew (ws ++ vs) p r old new
grew_append ws vs false false false old mid new x y = y ∙ ap (λ (l : List Bool). l ++ joined vs) x ∙ append_assoc old (joined ws) (joined vs) ∙ ap (λ (l : List Bool). old ++ l) (sym (joined-append ws vs))
grew_append ws vs false false true old mid new x y = record {
  front = ws ++ y.front;
  rest = y.rest;
  split = ap (λ (l : List (List Bool)). ws ++ l) y.split ∙ sym (append_assoc ws y.front y.rest);
  grown = y.grown ∙ ap (λ (l : List Bool). l ++ joined y.front) x ∙ append_assoc old (joined ws) (joined y.front) ∙ ap (λ (l : List Bool). old ++ l) (sym (joined-append ws y.front));
}
grew_append ws vs false true true old mid new x y = record {
  front = x.front;
  rest = x.rest ++ vs;
  split = ap (λ (l : List (List Bool)). l ++ vs) x.split ∙ append_assoc x.front x.rest vs;
  grown = y ∙ x.grown;
}
grew_append ws vs true true true old mid new x y = y ∙ x
grew_append ws vs p true false old mid new x y = absurd y
grew_append ws vs true false r old mid new x y = absurd x

-- nothing more is written
grew_none : (p : Bool) (old : List Bool) → Grew [] p p old old
grew_none false old = sym (append-nil old)
grew_none true old = refl

-- a header that is done has no more rows
pub wrote_done : {S A : Type 0} (s : S) (a b : A) (p : Bool) (old : List Bool) → b ≡ a → Wrote (Done a) s b p p old old
wrote_done s a b p old e = record { grown = grew_none p old; fits = tt; told = sym e }

-- one of two headers
pub wrote_if : {S A : Type 0} (test : Bool) (t u : Rows S A) (s : S) (a : A) (p q : Bool) (old new : List Bool) →
    test ≡ true → Wrote t s a p q old new → Wrote (if test then t else u) s a p q old new
wrote_if test t u s a p q old new e x = subst (λ b. Wrote (if b then t else u) s a p q old new) (sym e) x

pub wrote_else : {S A : Type 0} (test : Bool) (t u : Rows S A) (s : S) (a : A) (p q : Bool) (old new : List Bool) →
    test ≡ false → Wrote u s a p q old new → Wrote (if test then t else u) s a p q old new
wrote_else test t u s a p q old new e x = subst (λ b. Wrote (if b then t else u) s a p q old new) (sym e) x

-- a row alone
pub wrote_flag : {S : Type 0} (there other : Bool) (name : List ℕ) (value : S → Bool) (s : S) (there' other' value' a : Bool) (p q : Bool) (old new : List Bool) →
    WroteFlag there' other' value' a p q old new → there' ≡ there → other' ≡ other → value' ≡ value s → Wrote (flag_or there other name value) s a p q old new
unfolding flag_or
wrote_flag there other name value s there' other' value' a p q old new r e1 e2 e3 = record {
  grown = subst (λ b. Grew (word_if there (b ∷ []) ∷ []) p q old new) e3 (subst (λ b. Grew (word_if b (value' ∷ []) ∷ []) p q old new) e1 r.grown);
  fits = fits_flag_row there other name value s;
  told = sym (ap (λ b. if there then b else other) e3) ∙ sym (ap (λ b. if there then value' else b) e2) ∙ sym (ap (λ b. if b then value' else other') e1) ∙ r.told;
}

pub wrote_number : {S : Type 0} (there : Bool) (other : ℕ) (name : List ℕ) (code : Code) (value : S → ℕ) (s : S) (there' : Bool) (other' : ℕ) (code' : Code) (value' a : ℕ) (p q : Bool) (old new : List Bool) →
    WroteNumber there' other' code' value' a p q old new → there' ≡ there → other' ≡ other → code' ≡ code → value' ≡ value s → Wrote (number_or there other name code value) s a p q old new
unfolding number_or
wrote_number there other name code value s there' other' code' value' a p q old new r e1 e2 e3 e4 = record {
  grown = subst (λ n. Grew (word_if there (code.word n) ∷ []) p q old new) e4
      (subst (λ (k : Code). Grew (word_if there (k.word value') ∷ []) p q old new) e3 (subst (λ b. Grew (word_if b (code'.word value') ∷ []) p q old new) e1 r.grown));
  fits = fits_number_row there other name code value s (λ is. subst (λ n. HasWord code n) e4 (subst (λ (k : Code). HasWord k value') e3 (r.fits (e1 ∙ is))));
  told = sym (ap (λ n. if there then n else other) e4) ∙ sym (ap (λ n. if there then value' else n) e2) ∙ sym (ap (λ b. if b then value' else other') e1) ∙ r.told;
}

-- one header and then the other
pub wrote_then : {S A B : Type 0} (t : Rows S A) (g : A → Rows S B) (s : S) (a : A) (b : B) (p q r : Bool) (old mid new : List Bool) →
    Wrote t s a p q old mid → Wrote (g a) s b q r mid new → Wrote (t >>= g) s b p r old new
wrote_then t g s a b p q r old mid new x y = record {
  grown =
      let e : words t s ++ words (g a) s ≡ words (t >>= g) s = ap (λ v. words t s ++ words (g v) s) (sym x.told) ∙ sym (words-bind t g s) in
      subst (λ ws. Grew ws p r old new) e (grew_append (words t s) (words (g a) s) p q r old mid new x.grown y.grown);
  fits = fits-bind t g s x.fits (subst (λ v. Fits (g v) s) (sym x.told) y.fits);
  told = told-bind t g s ∙ ap (λ v. told (g v) s) x.told ∙ y.told;
}

pub wrote_signed : {S : Type 0} (there : Bool) (name : List ℕ) (n : ℕ) (value : S → ℤ) (s : S) (there' : Bool) (n' : ℕ) (value' a : ℤ) (p q : Bool) (old new : List Bool) →
    WroteSigned there' n' value' a p q old new → there' ≡ there → n' ≡ n → value' ≡ value s → Wrote (signed_if there name n value) s a p q old new
unfolding signed_if
wrote_signed there name n value s there' n' value' a p q old new r e1 e3 e4 = record {
  grown = subst (λ z. Grew (word_if there (signed_bits_of n z) ∷ []) p q old new) e4
      (subst (λ k. Grew (word_if there (signed_bits_of k value') ∷ []) p q old new) e3 (subst (λ b. Grew (word_if b (signed_bits_of n' value') ∷ []) p q old new) e1 r.grown));
  fits = fits_signed_row there name n value s (λ is. subst (λ z. HasSignedWord n z) e4 (subst (λ k. HasSignedWord k value') e3 (r.fits (e1 ∙ is))));
  told = sym (ap (λ z. if there then z else pos 0) e4) ∙ sym (ap (λ b. if b then value' else pos 0) e1) ∙ r.told;
}

words-on : {S T A : Type 0} (part : S → T) (t : Rows T A) (s : S) → words (on part t) s ≡ words t (part s)
unfolding on
words-on part (Done a) s = refl
words-on part (Flag name there other value next) s = ap (λ (ws : List (List Bool)). word_if there (value (part s) ∷ []) ∷ ws) (words-on part (next (if there then value (part s) else other)) s)
words-on part (Number name there other code value next) s = ap (λ (ws : List (List Bool)). word_if there (code.word (value (part s))) ∷ ws) (words-on part (next (if there then value (part s) else other)) s)
words-on part (Signed name there other n value next) s = ap (λ (ws : List (List Bool)). word_if there (signed_bits_of n (value (part s))) ∷ ws) (words-on part (next (if there then value (part s) else other)) s)

pub told-on : {S T A : Type 0} (part : S → T) (t : Rows T A) (s : S) → told (on part t) s ≡ told t (part s)
unfolding on
told-on part (Done a) s = refl
told-on part (Flag name there other value next) s = told-on part (next (if there then value (part s) else other)) s
told-on part (Number name there other code value next) s = told-on part (next (if there then value (part s) else other)) s
told-on part (Signed name there other n value next) s = told-on part (next (if there then value (part s) else other)) s

-- rows over a part
pub wrote_on : {S T A : Type 0} (part : S → T) (t : Rows T A) (s : S) (x : T) (a : A) (p q : Bool) (old new : List Bool) →
    Wrote t x a p q old new → x ≡ part s → Wrote (on part t) s a p q old new
wrote_on part t s x a p q old new w e = record {
  grown = subst (λ ws. Grew ws p q old new) (ap (words t) e ∙ sym (words-on part t s)) w.grown;
  fits = fits-on part t s (subst (λ y. Fits t y) e w.fits);
  told = told-on part t s ∙ sym (ap (told t) e) ∙ w.told;
}

pub on_then : {S T A B : Type 0} (part : S → T) (t : Rows T A) (g : A → Rows S B) (s : S) (x : T) (a : A) (b : B) (p q r : Bool) (old mid new : List Bool) →
    Wrote t x a p q old mid → x ≡ part s → Wrote (g a) s b q r mid new → Wrote (on part t >>= g) s b p r old new
on_then part t g s x a b p q r old mid new w e y = wrote_then (on part t) g s a b p q r old mid new (wrote_on part t s x a p q old mid w e) y

-- one more of several headers, and none
pub each_next : {S : Type 0} (m n i j : ℕ) (rows : ℕ → Rows S (Unit {0})) (s : S) (p q r : Bool) (old mid new : List Bool) →
    n ≡ suc m → j ≡ suc i → Wrote (rows i) s tt p q old mid → Wrote (each m j rows) s tt q r mid new → Wrote (each n i rows) s tt p r old new
unfolding each
each_next m n i j rows s p q r old mid new e f x y =
    let z : Wrote (each m (suc i) rows) s tt q r mid new = subst (λ k. Wrote (each m k rows) s tt q r mid new) f y in
    subst (λ k. Wrote (each k i rows) s tt p r old new) (sym e) (wrote_then (rows i) (λ _. each m (suc i) rows) s tt tt p q r old mid new x z)

pub each_done : {S : Type 0} (n i : ℕ) (rows : ℕ → Rows S (Unit {0})) (s : S) (p : Bool) (old : List Bool) → n ≡ 0 → Wrote (each n i rows) s tt p p old old
unfolding each
each_done n i rows s p old e = subst (λ k. Wrote (each k i rows) s tt p p old old) (sym e) (wrote_done s tt tt p old refl)

-- a row and then the other rows
pub flag_then : {S B : Type 0} (there other : Bool) (name : List ℕ) (value : S → Bool) (g : Bool → Rows S B) (s : S) (there' other' value' a : Bool) (b : B) (p q r : Bool) (old mid new : List Bool) →
    WroteFlag there' other' value' a p q old mid → there' ≡ there → other' ≡ other → value' ≡ value s → Wrote (g a) s b q r mid new → Wrote (flag_or there other name value >>= g) s b p r old new
flag_then there other name value g s there' other' value' a b p q r old mid new x e1 e2 e3 y =
    wrote_then (flag_or there other name value) g s a b p q r old mid new (wrote_flag there other name value s there' other' value' a p q old mid x e1 e2 e3) y

pub signed_then : {S B : Type 0} (there : Bool) (name : List ℕ) (n : ℕ) (value : S → ℤ) (g : ℤ → Rows S B) (s : S) (there' : Bool) (n' : ℕ) (value' a : ℤ) (b : B) (p q r : Bool) (old mid new : List Bool) →
    WroteSigned there' n' value' a p q old mid → there' ≡ there → n' ≡ n → value' ≡ value s → Wrote (g a) s b q r mid new → Wrote (signed_if there name n value >>= g) s b p r old new
signed_then there name n value g s there' n' value' a b p q r old mid new x e1 e2 e3 y =
    wrote_then (signed_if there name n value) g s a b p q r old mid new (wrote_signed there name n value s there' n' value' a p q old mid x e1 e2 e3) y

pub number_then : {S B : Type 0} (there : Bool) (other : ℕ) (name : List ℕ) (code : Code) (value : S → ℕ) (g : ℕ → Rows S B) (s : S) (there' : Bool) (other' : ℕ) (code' : Code) (value' a : ℕ) (b : B) (p q r : Bool) (old mid new : List Bool) →
    WroteNumber there' other' code' value' a p q old mid → there' ≡ there → other' ≡ other → code' ≡ code → value' ≡ value s → Wrote (g a) s b q r mid new → Wrote (number_or there other name code value >>= g) s b p r old new
number_then there other name code value g s there' other' code' value' a b p q r old mid new x e1 e2 e3 e4 y =
    wrote_then (number_or there other name code value) g s a b p q r old mid new (wrote_number there other name code value s there' other' code' value' a p q old mid x e1 e2 e3 e4) y

pub ruleset writing = (wrote_done, wrote_if, wrote_else, wrote_flag, wrote_number, flag_then, number_then, wrote_then, wrote_signed, signed_then, wrote_on, on_then)

-- what a header has written where memory didn't run out, and where it did
pub grew_whole : {S A : Type 0} (t : Rows S A) (s : S) (a : A) (p q : Bool) (old new : List Bool) → Wrote t s a p q old new → p ≡ false → q ≡ false → new ≡ old ++ joined (words t s)
grew_whole t s a p q old new w e k = subst (λ b. Grew (words t s) b false old new) e (subst (λ b. Grew (words t s) p b old new) k w.grown)

pub grew_front : {S A : Type 0} (t : Rows S A) (s : S) (a : A) (p q : Bool) (old new : List Bool) → Wrote t s a p q old new → p ≡ false → q ≡ true → Began (words t s) old new
grew_front t s a p q old new w e k = subst (λ b. Grew (words t s) b true old new) e (subst (λ b. Grew (words t s) p b old new) k w.grown)
