-- What a call leaves that has written rows.
use Rattle.std.proofs.Common.{◌≡◌, [], List, ◌∙◌, sym, ap, subst, Bool, true, false}
use Rattle.std.specs.Prelude.{Result, Ok, Err, OnOk, OnErr}
use Rattle.std.proofs.lemmas.List.{append-nil}
use Rattle.av1_model.specs.Bits.{byte_aligned}
use Rattle.av1_header.specs.Rows.{Rows, Wrote, Grew, Began, words}
use Rattle.av1_header.specs.RowReading.{Writes, WritesWhole}
use Rattle.av1_header.proofs.ReadBack.{read_back}

pub all_rows : {X E S A : Type 0} (r : Result X E) (t : Rows S A) (s : S) (a : A) (p q : Bool) (old new : List Bool) →
    Wrote t s a p q old new → p ≡ false → OnOk r (q ≡ false) → OnErr r (q ≡ true) → Writes r t s old new
all_rows (Ok x) t s a p q old new w none ok err = record {
  grown = subst (λ b. Grew (words t s) b false old new) none (subst (λ b. Grew (words t s) p b old new) ok w.grown);
  back = λ rest. read_back t s rest w.fits;
}
all_rows (Err e) t s a p q old new w none ok err = subst (λ b. Grew (words t s) b true old new) none (subst (λ b. Grew (words t s) p b old new) err w.grown)

-- rows that were written or begun are a front of the rows
front_of : (ws : List (List Bool)) (q : Bool) (old new : List Bool) → Grew ws false q old new → Began ws old new
front_of ws false old new g = record { front = ws; rest = []; split = sym (append-nil ws); grown = g }
front_of ws true old new g = g

pub whole_rows : {X E S A : Type 0} (r : Result X E) (t : Rows S A) (s : S) (a : A) (p q : Bool) (old mid new : List Bool) →
    Wrote t s a p q old mid → p ≡ false → OnOk r (q ≡ false) → OnOk r (new ≡ byte_aligned mid) → OnErr r (new ≡ mid) → WritesWhole r t s old new
whole_rows (Ok x) t s a p q old mid new w none ok grown err = record {
  grown = grown ∙ ap byte_aligned (subst (λ b. Grew (words t s) b false old mid) none (subst (λ b. Grew (words t s) p b old mid) ok w.grown));
  back = λ rest. read_back t s rest w.fits;
}
whole_rows (Err e) t s a p q old mid new w none ok grown err =
    subst (λ (l : List Bool). Began (words t s) old l) (sym err) (front_of (words t s) q old mid (subst (λ b. Grew (words t s) b q old mid) none w.grown))

-- the same rows, and the same values
pub by_rows : {S A : Type 0} (t u : Rows S A) (s : S) (a : A) (p q : Bool) (old new : List Bool) → Wrote t s a p q old new → t ≡ u → Wrote u s a p q old new
by_rows t u s a p q old new w e = subst (λ r. Wrote r s a p q old new) e w

pub by_values : {S A : Type 0} (t : Rows S A) (s u : S) (a : A) (p q : Bool) (old new : List Bool) → Wrote t s a p q old new → s ≡ u → Wrote t u a p q old new
by_values t s u a p q old new w e = subst (λ r. Wrote t r a p q old new) e w
