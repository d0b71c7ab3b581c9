-- Rows read in turn, with the first error kept.
use Rattle.std.proofs.Common.{◌≡◌, ℕ, List, [], ◌∷◌, ◌++◌, Option, Some, None, Result, Err, refl, ◌∙◌, sym, ap, subst}
use Rattle.serde_json.specs.Data.{Data, Members as Left}
use Rattle.serde_json.specs.Find.{get_member}
use Rattle.av1_input.specs.declared.error.ShapeError.{ShapeError}
use Rattle.av1_input.specs.declared.error.ShapeError.TheVariants.{BadText, BadShape, OutOfMemory}
use Rattle.av1_input.specs.declared.members.Members.{Members}
use Rattle.av1_input.specs.Fitted.{Fitted, Fits, Unfit, ◌>>=◌}
use Rattle.av1_input.specs.Kinds.{Kind}
use Rattle.av1_input.specs.Rows.{Row, row, fit_member, fit_then, members_of, pour, then_of, without}
use Rattle.av1_input.specs.Taking.{Begins, Finishes, Follows, Pours, Takes, Tells, left_of}
use Rattle.av1_input.specs.Why.{Answers, IsWhy}

-- where reading stands: the rows that are left, what was made so far, and what the whole comes to
pub record Stands {S W : Type 0} (next : S → Left → Fitted W) (rows : List (Row S)) (s : S) (first : Option ShapeError) (object : Members) (whole : Fitted W) : Type 0 where
  pub kept : (e : ShapeError) → first ≡ Some e → object.error ≡ Some e
  pub told : first ≡ None → Follows object.error whole (then_of rows next s (left_of object))

-- ---- outcomes in turn

in_turn : {A B C : Type 0} (m : Fitted A) (f : A → Fitted B) (g : B → Fitted C) → (m >>= f >>= g) ≡ (m >>= λ x. f x >>= g)
in_turn (Fits x) f g = refl
in_turn (Unfit path) f g = refl

by_each : {A B : Type 0} (m : Fitted A) (f g : A → Fitted B) → ((x : A) → f x ≡ g x) → (m >>= f) ≡ (m >>= g)
by_each (Fits x) f g h = h x
by_each (Unfit path) f g h = refl

itself : {A B : Type 0} (m : Fitted (A × B)) → (m >>= λ p. Fits (p.0, p.1)) ≡ m
itself (Fits p) = refl
itself (Unfit path) = refl

-- the rows of two tables are the one's and then the other's
pour-append : {S : Type 0} (a b : List (Row S)) (s : S) (ms : Left) → pour (a ++ b) s ms ≡ (pour a s ms >>= λ p. pour b p.0 p.1)
pour-append [] b s ms = refl
pour-append (row name kind absent set ∷ a) b s ms =
    let found = fit_member name kind (absent s) (get_member name ms) in
    by_each found (λ x. pour (a ++ b) (set s x) (without name ms)) (λ x. pour a (set s x) (without name ms) >>= λ p. pour b p.0 p.1) (λ x. pour-append a b (set s x) (without name ms))
    ∙ sym (in_turn found (λ x. pour a (set s x) (without name ms)) (λ p. pour b p.0 p.1))

-- ---- errors

pub why_first : {A W : Type 0} (e : ShapeError) (found : Fitted A) (next : A → Fitted W) → IsWhy e found → IsWhy e (found >>= next)
why_first BadText found next h = absurd h
why_first (BadShape path) found next h = ap (λ m. m >>= next) h
why_first OutOfMemory found next h = tt

first_then : {A W : Type 0} (error : Option ShapeError) (x : A) (found : Fitted A) (next : A → Fitted W) → Tells error x found → Follows error (found >>= next) (next x)
first_then None x found next h = ap (λ m. m >>= next) h
first_then (Some e) x found next h = why_first e found next h

follows_as : {W : Type 0} (error : Option ShapeError) (whole rest other : Fitted W) → rest ≡ other → Follows error whole rest → Follows error whole other
follows_as error whole rest other e h = let P : Fitted _ → Type 0 = λ r. Follows error whole r in subst P e h

whole_as : {W : Type 0} (error : Option ShapeError) (whole other rest : Fitted W) → whole ≡ other → Follows error other rest → Follows error whole rest
whole_as error whole other rest e h = let P : Fitted _ → Type 0 = λ w. Follows error w rest in subst P (sym e) h

error_as : {W : Type 0} (old new : Option ShapeError) (whole rest : Fitted W) → new ≡ old → Follows old whole rest → Follows new whole rest
error_as old new whole rest e h = let P : Option ShapeError → Type 0 = λ o. Follows o whole rest in subst P (sym e) h

-- one more outcome is found
pub along : {A W : Type 0} (old new : Option ShapeError) (x : A) (found : Fitted A) (whole : Fitted W) (next : A → Fitted W) → Follows old whole (found >>= next)
    → ((e : ShapeError) → old ≡ Some e → new ≡ Some e) → (old ≡ None → Tells new x found) → Follows new whole (next x)
along None new x found whole next told_before kept told = whole_as new whole (found >>= next) (next x) told_before (first_then new x found next (told refl))
along (Some e) new x found whole next told_before kept told = error_as (Some e) new whole (next x) (kept e refl) told_before

-- ---- the rows

follows_itself : {W : Type 0} (error : Option ShapeError) (whole : Fitted W) → error ≡ None → Follows error whole whole
follows_itself error whole is = error_as None error whole whole is refl

-- rows are read from here on
pub here : {S W : Type 0} (next : S → Left → Fitted W) (rows : List (Row S)) (s : S) (object : Members) → Stands next rows s object.error object (then_of rows next s (left_of object))
here next rows s object = record {
  kept = λ e h. h;
  told = λ is. follows_itself object.error (then_of rows next s (left_of object)) is;
}

-- an object is read
pub begin : {S W : Type 0} (next : S → Left → Fitted W) (rows : List (Row S)) (start : S) (d : Data) {object : Members} → Begins d object → Stands next rows start None object (fit_then rows next start d)
unfolding fit_then
begin next rows start d {object = object} b = record {
  kept = λ e h. absurd cc;
  told = λ is. first_then object.error (left_of object) (members_of d) (then_of rows next start) b;
}

infixl 5 ◌▸◌
pub ◌▸◌ : {A S W : Type 0} {next : S → Left → Fitted W} {name : List ℕ} {kind : Kind A} {absent : S → Fitted A} {set : S → A → S} {rows : List (Row S)} {s : S} {first : Option ShapeError} {old new : Members} {whole : Fitted W} {x : A}
    → Stands next (row name kind absent set ∷ rows) s first old whole → Takes name kind (absent s) old new x → Stands next rows (set s x) first new whole
◌▸◌ {next = next} {name = name} {kind = kind} {absent = absent} {set = set} {rows = rows} {s = s} {old = old} {new = new} {whole = whole} {x = x} at takes =
    let found = fit_member name kind (absent s) (get_member name (left_of old)) in
    let left = without name (left_of old) in
    record {
      kept = λ e h. takes.kept e (at.kept e h);
      told = λ is.
          follows_as new.error whole (then_of rows next (set s x) left) (then_of rows next (set s x) (left_of new)) (ap (λ ms. then_of rows next (set s x) ms) (sym takes.left))
          (along old.error new.error x found whole (λ y. then_of rows next (set s y) left)
          (follows_as old.error whole _ _ (in_turn found (λ y. pour rows (set s y) left) (λ p. next p.0 p.1)) (at.told is))
          takes.kept takes.told);
    }

-- a default that was computed
pub by_default : {A : Type 0} {name : List ℕ} {kind : Kind A} {a b : A} {old new : Members} {x : A} → a ≡ b → Takes name kind (Fits a) old new x → Takes name kind (Fits b) old new x
by_default {name = name} {kind = kind} {old = old} {new = new} {x = x} e takes = let P : _ → Type 0 = λ c. Takes name kind (Fits c) old new x in subst P e takes

-- the rows of a part of the table
pub part : {S W : Type 0} (rows rest : List (Row S)) {next : S → Left → Fitted W} {s t : S} {first : Option ShapeError} {old new : Members} {whole : Fitted W}
    → Stands next (rows ++ rest) s first old whole → Pours rows old new s t → Stands next rest t first new whole
part rows rest {next = next} {s = s} {t = t} {old = old} {new = new} {whole = whole} at pours =
    let found = pour rows s (left_of old) in
    record {
      kept = λ e h. pours.kept e (at.kept e h);
      told = λ is.
          along old.error new.error (t, left_of new) found whole (λ p. then_of rest next p.0 p.1)
          (follows_as old.error whole _ _
          (ap (λ m. m >>= λ p. next p.0 p.1) (pour-append rows rest s (left_of old)) ∙ in_turn found (λ p. pour rest p.0 p.1) (λ p. next p.0 p.1))
          (at.told is))
          pours.kept pours.told;
    }

-- the whole so far, and the members that are left
abbrev pub so_far : {S : Type 0} → S → Left → Fitted (S × Left)
so_far s ms = Fits (s, ms)

-- the end of a part
pub poured : {S : Type 0} {rows : List (Row S)} {s t : S} {old new : Members}
    → Stands so_far [] t old.error new (then_of rows so_far s (left_of old)) → Pours rows old new s t
poured {rows = rows} {s = s} {t = t} {old = old} {new = new} at = record {
  kept = at.kept;
  told = λ is. whole_as new.error (pour rows s (left_of old)) (then_of rows so_far s (left_of old)) (Fits (t, left_of new)) (sym (itself (pour rows s (left_of old)))) (at.told is);
}

-- the rows of a second table follow
pub second : {S T W : Type 0} (next : S → T → Left → Fitted W) (rows : List (Row T)) (start : T) {s : S} {first : Option ShapeError} {object : Members} {whole : Fitted W}
    → Stands (λ u ms. then_of rows (next u) start ms) [] s first object whole → Stands (next s) rows start first object whole
second next rows start at = record { kept = at.kept; told = at.told }

ended : {W : Type 0} (error : Option ShapeError) (whole outcome : Fitted W) (answer : Result W ShapeError) → Follows error whole outcome
    → ((e : ShapeError) → error ≡ Some e → answer ≡ Err e) → (error ≡ None → Answers answer outcome) → Answers answer whole
ended None whole outcome answer told_before kept told = let P : Fitted _ → Type 0 = λ w. Answers answer w in subst P (sym told_before) (told refl)
ended (Some e) whole outcome answer told_before kept told = let P : Result _ ShapeError → Type 0 = λ r. Answers r whole in subst P (sym (kept e refl)) told_before

-- the end of an object
pub end : {S W : Type 0} {next : S → Left → Fitted W} {s : S} {object : Members} {whole : Fitted W} (answer : Result W ShapeError)
    → Stands next [] s None object whole → Finishes (next s (left_of object)) object answer → Answers answer whole
end {next = next} {s = s} {object = object} {whole = whole} answer at finishes = ended object.error whole (next s (left_of object)) answer (at.told refl) finishes.kept finishes.told

-- the end of the rows of a kind of object
pub rest : {S W : Type 0} {next : S → Left → Fitted W} {s : S} {begun object : Members} {whole : Fitted W} (answer : Result W ShapeError)
    → Stands next [] s begun.error object whole → Finishes (next s (left_of object)) object answer → Finishes whole begun answer
rest {next = next} {s = s} {object = object} {whole = whole} answer at finishes = record {
  kept = λ e h. finishes.kept e (at.kept e h);
  told = λ is. ended object.error whole (next s (left_of object)) answer (at.told is) finishes.kept finishes.told;
}

-- a part that begins at what was computed
pub from : {S : Type 0} {rows : List (Row S)} {old new : Members} {r s t : S} → r ≡ s → Pours rows old new r t → Pours rows old new s t
from {rows = rows} {old = old} {new = new} {t = t} e pours = let P : _ → Type 0 = λ s. Pours rows old new s t in subst P e pours

-- the table of a part is the whole table
pub whole_table : {S W : Type 0} {next : S → Left → Fitted W} {rows : List (Row S)} {s t : S} {first : Option ShapeError} {old new : Members} {whole : Fitted W}
    → Stands next rows s first old whole → Pours rows old new s t → Stands next [] t first new whole
whole_table {next = next} {rows = rows} {s = s} {t = t} {old = old} {new = new} {whole = whole} at pours =
    let found = pour rows s (left_of old) in
    record {
      kept = λ e h. pours.kept e (at.kept e h);
      told = λ is. along old.error new.error (t, left_of new) found whole (λ p. next p.0 p.1) (at.told is) pours.kept pours.told;
    }

-- what is next is said of a value that a call computed
pub computed : {S W : Type 0} (next : S → Left → Fitted W) {s t : S} {object : Members} {answer : Result W ShapeError} → s ≡ t → Finishes (next s (left_of object)) object answer → Finishes (next t (left_of object)) object answer
computed next {object = object} {answer = answer} e finishes = let P : _ → Type 0 = λ s. Finishes (next s (left_of object)) object answer in subst P e finishes
