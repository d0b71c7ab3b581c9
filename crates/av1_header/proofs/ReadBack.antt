-- A header is read back from its bits, whatever follows them.
use Rattle.std.proofs.Common.{◌≡◌, ℕ, zero, suc, ◌<◌, ◌++◌, ◌∷◌, [], List, ◌∙◌, sym, ap, subst, refl, Bool, true, false, Option, Some, None, arith, append_assoc, inl, inr, ◌⊎◌, ◌^◌}
use Rattle.std.specs.Prelude.{option_and_then}
use Rattle.std.proofs.lemmas.Bool.{cases_lt}
use Rattle.std.proofs.lemmas.List.{append-nil}
use Rattle.av1_model.specs.Codes.{IsPrefixCode}
use Rattle.av1_model.specs.Bits.{signed_bits_of}
use Rattle.av1_header.specs.Rows.{Rows, su, counted, uncounted, words, told, joined, Fits}
use Rattle.av1_header.specs.Rows.Rows.{Done, Flag, Number, Signed}
use Rattle.av1_header.specs.RowReading.{after_word, found, decoded_below, Taken, with_value, read, values, Value}
use Rattle.av1_header.specs.RowReading.Value.{IsFlag, IsNumber, IsSigned}

after_word-append : (word rest : List Bool) → after_word word (word ++ rest) ≡ Some rest
after_word-append [] rest = refl
after_word-append (true ∷ word) rest = after_word-append word rest
after_word-append (false ∷ word) rest = after_word-append word rest

after_word-is : (word bits rest : List Bool) → after_word word bits ≡ Some rest → bits ≡ word ++ rest
after_word-is [] bits rest e = cc
after_word-is (b ∷ word) [] rest e = absurd cc
after_word-is (true ∷ word) (true ∷ bits) rest e = ap (λ (l : List Bool). true ∷ l) (after_word-is word bits rest e)
after_word-is (false ∷ word) (false ∷ bits) rest e = ap (λ (l : List Bool). false ∷ l) (after_word-is word bits rest e)
after_word-is (true ∷ word) (false ∷ bits) rest e = absurd cc
after_word-is (false ∷ word) (true ∷ bits) rest e = absurd cc

lt_or_eq : (v n : ℕ) → v < suc n → (v < n) ⊎ (v ≡ n)
lt_or_eq v n h = elim (cases_lt v n) [ inl l ↦ inl l | inr g ↦ inr (omega (arith, h, g)) ]

-- the word of v is found as that of v
found_word : (n v : ℕ) (word : ℕ → List Bool) (rest : List Bool) (o : Option (List Bool)) (other : Option (ℕ × List Bool)) → after_word (word n) (word v ++ rest) ≡ o →
    ((xs : List Bool) → word v ++ rest ≡ word n ++ xs → n ≡ v) → v < suc n → (v < n → other ≡ Some (v, rest)) → found n o other ≡ Some (v, rest)
found_word n v word rest (Some r) other e unique below before =
    let same : n ≡ v = unique r (after_word-is (word n) (word v ++ rest) r e) in
    let both : Some r ≡ Some rest = sym (subst (λ k. after_word (word k) (word v ++ rest) ≡ Some r) same e) ∙ after_word-append (word v) rest in
    let left : r ≡ rest = cc in
    ap (λ k. Some (k, r)) same ∙ ap (λ (l : List Bool). Some (v, l)) left
found_word n v word rest None other e unique below before =
    before (elim (lt_or_eq v n below) [
      | inl l ↦ l
      | inr same ↦ let clash : Some rest ≡ None = sym (after_word-append (word v) rest) ∙ subst (λ k. after_word (word k) (word v ++ rest) ≡ None) (sym same) e in absurd cc
    ])

decoded_back : (n v : ℕ) (word : ℕ → List Bool) (rest : List Bool) → ((k : ℕ) (xs : List Bool) → k < n → word v ++ rest ≡ word k ++ xs → k ≡ v) → v < n → decoded_below n word (word v ++ rest) ≡ Some (v, rest)
unfolding decoded_below
decoded_back zero v word rest unique below = absurd (omega arith)
decoded_back (suc n) v word rest unique below =
    found_word n v word rest (after_word (word n) (word v ++ rest)) (decoded_below n word (word v ++ rest)) refl (λ xs e. unique n xs (omega arith) e) below
    (λ less. decoded_back n v word rest (λ k xs l e. unique k xs (omega arith) e) less)

-- each word of a prefix code is read as its value
pub decoded_word : (n v : ℕ) (word : ℕ → List Bool) (rest : List Bool) → IsPrefixCode n word → v < n → decoded_below n word (word v ++ rest) ≡ Some (v, rest)
decoded_word n v word rest code below = decoded_back n v word rest (λ k xs l e. sym (code v k rest xs below l e)) below

-- reading gives the values, what they tell, and what follows
pub read_back : {S A : Type 0} (t : Rows S A) (s : S) (rest : List Bool) → Fits t s →
    read t (joined (words t s) ++ rest) ≡ Some (record { values = values t s; told = told t s; rest = rest })
read_back (Done a) s rest h = refl
read_back (Flag name true other value next) s rest h = ap (with_value (IsFlag (value s))) (read_back (next (value s)) s rest h)
read_back (Flag name false other value next) s rest h = read_back (next other) s rest h
read_back (Number name true other code value next) s rest h =
    let more = joined (words (next (value s)) s) in
    ap (read (Number name true other code value next)) (append_assoc (code.word (value s)) more rest)
    ∙ ap (option_and_then (λ r. with_value (IsNumber r.0) (read (next r.0) r.1))) (decoded_word code.count (value s) code.word (more ++ rest) h.0.prefix h.0.among)
    ∙ ap (with_value (IsNumber (value s))) (read_back (next (value s)) s rest h.1)
read_back (Number name false other code value next) s rest h = read_back (next other) s rest h
read_back (Signed name true other n value next) s rest h =
    let more = joined (words (next (value s)) s) in
    let k = counted n (value s) in
    let z : uncounted n k ≡ value s = h.0.back in
    ap (read (Signed name true other n value next)) (append_assoc (signed_bits_of n (value s)) more rest)
    ∙ ap (λ v. read (Signed name true other n value next) (signed_bits_of n v ++ (more ++ rest))) (sym z)
    ∙ ap (option_and_then (λ r. with_value (IsSigned (uncounted n r.0)) (read (next (uncounted n r.0)) r.1))) (decoded_word (2 ^ n) k (su n).word (more ++ rest) h.0.word.prefix h.0.word.among)
    ∙ ap (λ v. with_value (IsSigned v) (read (next v) (more ++ rest))) z
    ∙ ap (with_value (IsSigned (value s))) (read_back (next (value s)) s rest h.1)
read_back (Signed name false other n value next) s rest h = read_back (next other) s rest h

-- reading the same bits by the same rows gives the same
two_readings : {S A : Type 0} (t : Rows S A) (s u : S) (xs ys : List Bool) → Fits t s → Fits t u → joined (words t s) ++ xs ≡ joined (words t u) ++ ys →
    let one : Taken A = record { values = values t s; told = told t s; rest = xs } in
    let other : Taken A = record { values = values t u; told = told t u; rest = ys } in
    Some one ≡ Some other
two_readings t s u xs ys h k e = sym (read_back t s xs h) ∙ ap (read t) e ∙ read_back t u ys k

values_or : {A : Type 0} → Taken A → Option (Taken A) → List Value
values_or other None = other.values
values_or other (Some t) = t.values

told_or : {A : Type 0} → Taken A → Option (Taken A) → A
told_or other None = other.told
told_or other (Some t) = t.told

rest_or : {A : Type 0} → Taken A → Option (Taken A) → List Bool
rest_or other None = other.rest
rest_or other (Some t) = t.rest

pub same_values : {S A : Type 0} (t : Rows S A) (s u : S) (xs ys : List Bool) → Fits t s → Fits t u → joined (words t s) ++ xs ≡ joined (words t u) ++ ys → values t s ≡ values t u
unfolding values_or
same_values t s u xs ys h k e = ap (values_or (record { values = []; told = told t s; rest = [] })) (two_readings t s u xs ys h k e)

pub same_told : {S A : Type 0} (t : Rows S A) (s u : S) (xs ys : List Bool) → Fits t s → Fits t u → joined (words t s) ++ xs ≡ joined (words t u) ++ ys → told t s ≡ told t u
unfolding told_or
same_told t s u xs ys h k e = ap (told_or (record { values = []; told = told t s; rest = [] })) (two_readings t s u xs ys h k e)

pub same_rest : {S A : Type 0} (t : Rows S A) (s u : S) (xs ys : List Bool) → Fits t s → Fits t u → joined (words t s) ++ xs ≡ joined (words t u) ++ ys → xs ≡ ys
unfolding rest_or
same_rest t s u xs ys h k e = ap (rest_or (record { values = []; told = told t s; rest = [] })) (two_readings t s u xs ys h k e)

pub no_beginning : {S A : Type 0} (t : Rows S A) (s u : S) (xs : List Bool) → Fits t s → Fits t u → joined (words t s) ++ xs ≡ joined (words t u) → xs ≡ []
no_beginning t s u xs h k e = same_rest t s u xs [] h k (e ∙ sym (append-nil (joined (words t u))))
