-- Saves are undone newest first, and what a checkpoint stands for stays.
use Rattle.std.proofs.Common.{◌≡◌, ℕ, zero, suc, ◌+◌, ◌-◌, ◌<◌, ◌≤◌, List, [], ◌∷◌, ◌++◌, Bool, true, false, ◌&&◌, ◌⊎◌, inl, inr, IsTrue, length, get_or, take, drop, cond, nat_le, refl, sym, ap, subst, zero-add, ◌∙◌, take-append-drop, arith}
use Rattle.std.proofs.lemmas.List.{ext_get_or, drop-append-le, drop_all, take_more, length-append, length-take}
use Rattle.std.proofs.lemmas.List.FromFn.{get_or-map-range_with_len, length-map-range_with_len}
use Rattle.std.specs.List.{list_all, slice_range}
use Rattle.av1_cdf.specs.declared.part.Save.{Save}
use Rattle.av1_cdf.specs.declared.log.CDFContextLog.{CDFContextLog}
use Rattle.av1_cdf.specs.declared.log.CDFContextCheckpoint.{CDFContextCheckpoint}
use Rattle.av1_cdf.specs.Context.{written_between}
use Rattle.av1_cdf.specs.Part.{all_fit, has, undone_number, undone_part}
use Rattle.av1_cdf.specs.Windows.{is_short, short_windows, long_windows, all_short, all_long}
use Rattle.av1_cdf.specs.Log.{small_saves, large_saves, saves_of, IsReached, IsWithin, undone, KeepsUndone}
use Rattle.av1_cdf.proofs.Cells.{both_true, is_le, le_is, lt_or_not}
use Rattle.av1_cdf.proofs.Parts.{written_length, written_stays, written_there, outside, inside, part_at}
use Rattle.av1_cdf.proofs.Windows.{short_fits, long_fits, short_place, long_place}

undone_length : (n : ℕ) (ss : List (Save n)) (context : List ℕ) → length (undone_part n ss context) ≡ length context
unfolding undone_part
undone_length n ss context = length-map-range_with_len _ 0 (length context)

undone_at : (n : ℕ) (ss : List (Save n)) (context : List ℕ) (k : ℕ) → k < length context →
    get_or (undone_part n ss context) k 0 ≡ undone_number n ss k (get_or context k 0)
unfolding undone_part
undone_at n ss context k h = get_or-map-range_with_len (λ j. undone_number n ss j (get_or context j 0)) 0 (length context) k k 0 h (zero-add k)

-- two contexts are the same where each number is
same_undone : (n : ℕ) (ss ts : List (Save n)) (a b : List ℕ) → length a ≡ length b →
    ((k : ℕ) → k < length a → undone_number n ss k (get_or a k 0) ≡ undone_number n ts k (get_or b k 0)) → undone_part n ss a ≡ undone_part n ts b
same_undone n ss ts a b e h =
    ext_get_or 0 _ _ (undone_length n ss a ∙ e ∙ sym (undone_length n ts b)) (λ k l.
    let in_a : k < length a = omega (arith, undone_length n ss a) in
    undone_at n ss a k in_a ∙ h k in_a ∙ sym (undone_at n ts b k (omega (arith, e))))

-- the later saves count where no earlier one has the number
number_append : (n : ℕ) (ss ts : List (Save n)) (k v : ℕ) → undone_number n (ss ++ ts) k v ≡ undone_number n ss k (undone_number n ts k v)
number_append n [] ts k v = refl
number_append n (x ∷ ss) ts k v = ap (λ m. cond (has n x k) (get_or x.numbers (k - x.place) 0) m) (number_append n ss ts k v)

there : (n : ℕ) (s : Save n) (k v : ℕ) → s.place ≤ k → k < s.place + n → undone_number n (s ∷ []) k v ≡ get_or s.numbers (k - s.place) 0
there n s k v a b = ap (λ t. cond t (get_or s.numbers (k - s.place) 0) v) (inside s.place (s.place + n) k a b)

elsewhere : (n : ℕ) (s : Save n) (k v : ℕ) → (k < s.place) ⊎ (s.place + n ≤ k) → undone_number n (s ∷ []) k v ≡ v
elsewhere n s k v o = ap (λ t. cond t (get_or s.numbers (k - s.place) 0) v) (outside s.place (s.place + n) k o)

where_is : (n : ℕ) (s : Save n) (k : ℕ) → ((s.place ≤ k) × (k < s.place + n)) ⊎ ((k < s.place) ⊎ (s.place + n ≤ k))
where_is n s k = elim (lt_or_not k s.place) [
  | inl a ↦ inr (inl a)
  | inr a ↦ elim (lt_or_not k (s.place + n)) [
    | inl b ↦ inl (a, b)
    | inr b ↦ inr (inr b)
  ]
]

-- to put the newest save back is to undo it
undo_one : (n : ℕ) (ss : List (Save n)) (s : Save n) (context : List ℕ) →
    undone_part n (ss ++ s ∷ []) context ≡ undone_part n ss (written_between context s.place (s.place + n) s.numbers)
undo_one n ss s context =
    let from = s.place in
    let to = s.place + n in
    let back = written_between context from to s.numbers in
    same_undone n (ss ++ s ∷ []) ss context back (sym (written_length context from to s.numbers)) (λ k h.
    number_append n ss (s ∷ []) k (get_or context k 0) ∙ ap (undone_number n ss k) (elim (where_is n s k) [
      | inl w ↦ there n s k (get_or context k 0) w.0 w.1 ∙ sym (written_there context from to s.numbers k h w.0 w.1)
      | inr o ↦ elsewhere n s k (get_or context k 0) o ∙ sym (written_stays context from to s.numbers k h o)
    ]))

pub undo_step : (n : ℕ) (saves : List (Save n)) (context : List ℕ) (at : ℕ) (s : Save n) → at < length saves → get_or saves at s ≡ s → (left : ℕ) → left ≤ at →
    undone_part n (drop left (take (at + 1) saves)) context ≡ undone_part n (drop left (take at saves)) (written_between context s.place (s.place + n) s.numbers)
undo_step n saves context at s l e left h =
    let more : take (at + 1) saves ≡ take at saves ++ s ∷ [] = take_more saves at s l ∙ ap (λ x. take at saves ++ x ∷ []) e in
    let long : length (take at saves) ≡ at = omega (arith, length-take at saves) in
    let cut : drop left (take at saves ++ s ∷ []) ≡ drop left (take at saves) ++ s ∷ [] = drop-append-le left (take at saves) (s ∷ []) (omega arith) in
    ap (λ x. undone_part n (drop left x) context) more ∙ ap (λ x. undone_part n x context) cut ∙ undo_one n (drop left (take at saves)) s context

undone_none : (n : ℕ) (context : List ℕ) → undone_part n [] context ≡ context
undone_none n context = ext_get_or 0 _ _ (undone_length n [] context) (λ k h. undone_at n [] context k (omega (arith, undone_length n [] context)))

pub undone_all : (n : ℕ) (saves : List (Save n)) (context : List ℕ) (left : ℕ) → length saves ≤ left → undone_part n (drop left saves) context ≡ context
undone_all n saves context left h = ap (λ x. undone_part n x context) (drop_all left saves h) ∙ undone_none n context

all_at : {n : ℕ} (p : Save n → Bool) (ss : List (Save n)) (i : ℕ) (d : Save n) → IsTrue (list_all p ss) → i < length ss → IsTrue (p (get_or ss i d))
all_at p [] i d h l = absurd (omega arith)
all_at p (x ∷ ss) zero d h l = (both_true (p x) (list_all p ss) h).0
all_at p (x ∷ ss) (suc i) d h l = all_at p ss i d (both_true (p x) (list_all p ss) h).1 (omega arith)

all_drop : {n : ℕ} (p : Save n → Bool) (i : ℕ) (ss : List (Save n)) → IsTrue (list_all p ss) → IsTrue (list_all p (drop i ss))
all_drop p zero ss h = h
all_drop p (suc i) [] h = refl
all_drop p (suc i) (x ∷ ss) h = all_drop p i ss (both_true (p x) (list_all p ss) h).1

pub all_take : {n : ℕ} (p : Save n → Bool) (i : ℕ) (ss : List (Save n)) → IsTrue (list_all p ss) → IsTrue (list_all p (take i ss))
all_take p zero ss h = refl
all_take p (suc i) [] h = refl
all_take p (suc i) (x ∷ ss) h =
    let b = both_true (p x) (list_all p ss) h in
    λ j. b.0 j && all_take p i ss b.1 j

pub all_push : {n : ℕ} (p : Save n → Bool) (ss : List (Save n)) (s : Save n) → IsTrue (list_all p ss) → IsTrue (p s) → IsTrue (list_all p (ss ++ s ∷ []))
all_push p [] s h k = λ j. k j && true
all_push p (x ∷ ss) s h k =
    let b = both_true (p x) (list_all p ss) h in
    λ j. b.0 j && all_push p ss s b.1 k j

all_weaker : {n : ℕ} (p q : Save n → Bool) → ((s : Save n) → IsTrue (p s) → IsTrue (q s)) → (ss : List (Save n)) → IsTrue (list_all p ss) → IsTrue (list_all q ss)
all_weaker p q f [] h = refl
all_weaker p q f (x ∷ ss) h =
    let b = both_true (p x) (list_all p ss) h in
    λ j. f x b.0 j && all_weaker p q f ss b.1 j

-- a save lies in the context
pub save_fits : (n : ℕ) (saves : List (Save n)) (at : ℕ) (d : Save n) → IsTrue (all_fit n saves) → at < length saves → (get_or saves at d).place + n ≤ 5528
save_fits n saves at d h l = is_le _ 5528 (all_at (λ s. nat_le (s.place + n) 5528) saves at d h l)

pub short_fit : (saves : List (Save 4)) → IsTrue (all_short saves) → IsTrue (all_fit 4 saves)
short_fit saves h = all_weaker (λ s. short_windows s.place s.place) (λ s. nat_le (s.place + 4) 5528) (λ s k. le_is _ 5528 (short_fits s.place k)) saves h

pub long_fit : (saves : List (Save 16)) → IsTrue (all_long saves) → IsTrue (all_fit 16 saves)
long_fit saves h = all_weaker (λ s. long_windows s.place s.place) (λ s. nat_le (s.place + 16) 5528) (λ s k. le_is _ 5528 (long_fits s.place k)) saves h

-- what a save has is undone, whatever stands in its place
save_undone : (n : ℕ) (ss : List (Save n)) (s : Save n) (after before : List ℕ) → length after ≡ length before →
    ((k : ℕ) → k < length before → (k < s.place) ⊎ (s.place + n ≤ k) → get_or after k 0 ≡ get_or before k 0) →
    ((k : ℕ) → k < length before → s.place ≤ k → k < s.place + n → get_or s.numbers (k - s.place) 0 ≡ get_or before k 0) →
    undone_part n (ss ++ s ∷ []) after ≡ undone_part n ss before
save_undone n ss s after before long stays has_it =
    same_undone n (ss ++ s ∷ []) ss after before long (λ k h.
    let l : k < length before = omega (arith, long) in
    number_append n ss (s ∷ []) k _ ∙ ap (undone_number n ss k) (elim (where_is n s k) [
      | inl w ↦ there n s k _ w.0 w.1 ∙ has_it k l w.0 w.1
      | inr o ↦ elsewhere n s k _ o ∙ stays k l o
    ]))

clash : {A : Type 0} (b : Bool) → b ≡ true → b ≡ false → A
clash true h e = cc
clash false h e = cc

-- a number that none of these saves has
number_stays : (n : ℕ) (p : ℕ → Bool) (ss : List (Save n)) (k v : ℕ) → IsTrue (list_all (λ s. p s.place) ss) →
    ((q : ℕ) → IsTrue (p q) → (k < q) ⊎ (q + n ≤ k)) → undone_number n ss k v ≡ v
number_stays n p [] k v h away = refl
number_stays n p (x ∷ ss) k v h away =
    let b = both_true (p x.place) (list_all (λ s. p s.place) ss) h in
    ap (λ t. cond t (get_or x.numbers (k - x.place) 0) (undone_number n ss k v)) (outside x.place (x.place + n) k (away x.place b.0)) ∙ number_stays n p ss k v b.1 away

-- the small part saves no number of a region of long CDFs
short_stays : (ss : List (Save 4)) (k v : ℕ) → IsTrue (all_short ss) → is_short k ≡ false → undone_number 4 ss k v ≡ v
short_stays ss k v h e = number_stays 4 (λ q. short_windows q q) ss k v h (λ q w.
    elim (lt_or_not k q) [
      | inl a ↦ inl a
      | inr a ↦ elim (lt_or_not k (q + 4)) [
        | inl b ↦ clash (is_short k) (short_place q k w a b) e
        | inr b ↦ inr b
      ]
    ])

-- and the large part none of the others
long_stays : (ss : List (Save 16)) (k v : ℕ) → IsTrue (all_long ss) → is_short k ≡ true → undone_number 16 ss k v ≡ v
long_stays ss k v h e = number_stays 16 (λ q. long_windows q q) ss k v h (λ q w.
    elim (lt_or_not k q) [
      | inl a ↦ inl a
      | inr a ↦ elim (lt_or_not k (q + 16)) [
        | inl b ↦ clash (is_short k) e (long_place q k w a b)
        | inr b ↦ inr b
      ]
    ])

-- so it doesn't matter which part is undone first
one_order : (b : Bool) (ss : List (Save 4)) (ls : List (Save 16)) (k v : ℕ) → is_short k ≡ b → IsTrue (all_short ss) → IsTrue (all_long ls) →
    undone_number 4 ss k (undone_number 16 ls k v) ≡ undone_number 16 ls k (undone_number 4 ss k v)
one_order true ss ls k v e h g = ap (undone_number 4 ss k) (long_stays ls k v g e) ∙ sym (long_stays ls k (undone_number 4 ss k v) g e)
one_order false ss ls k v e h g = short_stays ss k (undone_number 16 ls k v) h e ∙ ap (undone_number 16 ls k) (sym (short_stays ss k v h e))

parts_commute : (ss : List (Save 4)) (ls : List (Save 16)) (context : List ℕ) → IsTrue (all_short ss) → IsTrue (all_long ls) →
    undone_part 4 ss (undone_part 16 ls context) ≡ undone_part 16 ls (undone_part 4 ss context)
parts_commute ss ls context h g =
    let long = undone_length 16 ls context in
    let short = undone_length 4 ss context in
    ext_get_or 0 _ _ (undone_length 4 ss _ ∙ long ∙ sym (undone_length 16 ls _ ∙ short)) (λ k l.
    let i : k < length context = omega (arith, undone_length 4 ss (undone_part 16 ls context), long) in
    undone_at 4 ss (undone_part 16 ls context) k (omega (arith, long)) ∙ ap (undone_number 4 ss k) (undone_at 16 ls context k i)
    ∙ one_order (is_short k) ss ls k (get_or context k 0) refl h g
    ∙ sym (undone_at 16 ls (undone_part 4 ss context) k (omega (arith, short)) ∙ ap (undone_number 16 ls k) (undone_at 4 ss context k i)))

part_append : (n : ℕ) (ss ts : List (Save n)) (context : List ℕ) → undone_part n ss (undone_part n ts context) ≡ undone_part n (ss ++ ts) context
part_append n ss ts context =
    let long = undone_length n ts context in
    ext_get_or 0 _ _ (undone_length n ss _ ∙ long ∙ sym (undone_length n (ss ++ ts) context)) (λ k l.
    let i : k < length context = omega (arith, undone_length n ss (undone_part n ts context), long) in
    undone_at n ss (undone_part n ts context) k (omega (arith, long)) ∙ ap (undone_number n ss k) (undone_at n ts context k i)
    ∙ sym (number_append n ss ts k (get_or context k 0)) ∙ sym (undone_at n (ss ++ ts) context k i))

-- the saves past a first checkpoint, up to a later one and then past it
cut_at : {A : Type 0} (ss : List A) (c d : ℕ) → c ≤ d → d ≤ length ss → drop c (take d ss) ++ drop d ss ≡ drop c ss
cut_at ss c d h l =
    let long : length (take d ss) ≡ d = omega (arith, length-take d ss) in
    sym (drop-append-le c (take d ss) (drop d ss) (omega arith)) ∙ ap (drop c) (take-append-drop d ss)

-- what goes back to a checkpoint keeps what an earlier one stands for
pub rolled_back : (log : CDFContextLog) (context : List ℕ) (c d : CDFContextCheckpoint) → IsWithin c d → IsReached log d →
    undone_part 16 (drop c.large (take d.large (large_saves log))) (undone_part 4 (drop c.small (take d.small (small_saves log))) (undone log context d)) ≡ undone log context c
rolled_back log context c d w r =
    let S = small_saves log in
    let L = large_saves log in
    let ss = drop c.small (take d.small S) in
    let ls = drop c.large (take d.large L) in
    let short : IsTrue (all_short ss) = all_drop _ c.small (take d.small S) (all_take _ d.small S log.short) in
    let long : IsTrue (all_long (drop d.large L)) = all_drop _ d.large L log.long in
    let x = undone_part 4 (drop d.small S) context in
    ap (undone_part 16 ls) (parts_commute ss (drop d.large L) x short long ∙ ap (undone_part 16 (drop d.large L)) (part_append 4 ss (drop d.small S) context ∙ ap (λ y. undone_part 4 y context) (cut_at S c.small d.small w.0 r.0)))
    ∙ part_append 16 ls (drop d.large L) _ ∙ ap (λ y. undone_part 16 y (undone_part 4 (drop c.small S) context)) (cut_at L c.large d.large w.1 r.1)

-- a save as it is made
saved_number : (context : List ℕ) (p n k : ℕ) → p ≤ k → k < p + n → get_or (slice_range context p (p + n)) (k - p) 0 ≡ get_or context k 0
saved_number context p n k u v =
    part_at context p (p + n) (k - p) (omega arith) ∙ ap (λ j. get_or context j 0) {x = p + (k - p)} (omega arith)

past : (k p l n : ℕ) → l ≤ n → (k < p) ⊎ (p + n ≤ k) → (k < p) ⊎ (p + l ≤ k)
past k p l n h (inl a) = inl a
past k p l n h (inr b) = inr (omega arith)

-- what a CDF is changed to doesn't matter where it was saved first
pub small_keeps : (old new : CDFContextLog) (context ws : List ℕ) (p l : ℕ) → l ≤ 4 →
    (let save : Save 4 = record { place = p; numbers = slice_range context p (p + 4) } in saves_of new ≡ (small_saves old ++ save ∷ [], large_saves old)) →
    KeepsUndone old new context (written_between context p (p + l) ws)
small_keeps old new context ws p l h e =
    let s : Save 4 = record { place = p; numbers = slice_range context p (p + 4) } in
    let written = written_between context p (p + l) ws in
    let small : small_saves new ≡ small_saves old ++ s ∷ [] = ap (λ (x : List (Save 4) × List (Save 16)). x.0) e in
    let large : large_saves new ≡ large_saves old = ap (λ (x : List (Save 4) × List (Save 16)). x.1) e in
    let long : length (small_saves new) ≡ length (small_saves old) + 1 = omega (arith, ap length small, length-append (small_saves old) (s ∷ [])) in
    let equal : length (large_saves new) ≡ length (large_saves old) = ap length large in
    let one : (ss : List (Save 4)) → undone_part 4 (ss ++ s ∷ []) written ≡ undone_part 4 ss context =
    λ ss. save_undone 4 ss s written context (written_length context p (p + l) ws)
    (λ k i o. written_stays context p (p + l) ws k i (past k p l 4 h o))
    (λ k i u v. saved_number context p 4 k u v) in
    record {
      small = omega (arith, long);
      large = omega (arith, equal);
      reached = λ c r. (omega (arith, long, r.0), omega (arith, equal, r.1));
      same = λ c r. ap (λ x. undone_part 16 (drop c.large x) (undone_part 4 (drop c.small (small_saves new)) written)) large
          ∙ ap (λ x. undone_part 16 (drop c.large (large_saves old)) (undone_part 4 (drop c.small x) written)) small
          ∙ ap (λ x. undone_part 16 (drop c.large (large_saves old)) (undone_part 4 x written)) (drop-append-le c.small (small_saves old) (s ∷ []) r.0)
          ∙ ap (undone_part 16 (drop c.large (large_saves old))) (one (drop c.small (small_saves old)));
    }

pub large_keeps : (old new : CDFContextLog) (context ws : List ℕ) (p l : ℕ) → l ≤ 16 → IsTrue (long_windows p p) →
    (let save : Save 16 = record { place = p; numbers = slice_range context p (p + 16) } in saves_of new ≡ (small_saves old, large_saves old ++ save ∷ [])) →
    KeepsUndone old new context (written_between context p (p + l) ws)
large_keeps old new context ws p l h w e =
    let s : Save 16 = record { place = p; numbers = slice_range context p (p + 16) } in
    let written = written_between context p (p + l) ws in
    let small : small_saves new ≡ small_saves old = ap (λ (x : List (Save 4) × List (Save 16)). x.0) e in
    let large : large_saves new ≡ large_saves old ++ s ∷ [] = ap (λ (x : List (Save 4) × List (Save 16)). x.1) e in
    let long : length (large_saves new) ≡ length (large_saves old) + 1 = omega (arith, ap length large, length-append (large_saves old) (s ∷ [])) in
    let equal : length (small_saves new) ≡ length (small_saves old) = ap length small in
    let same_size : length written ≡ length context = written_length context p (p + l) ws in
    let one : (ts : List (Save 4)) (ss : List (Save 16)) → IsTrue (all_short ts) → undone_part 16 (ss ++ s ∷ []) (undone_part 4 ts written) ≡ undone_part 16 ss (undone_part 4 ts context) =
    λ ts ss t. save_undone 16 ss s (undone_part 4 ts written) (undone_part 4 ts context) (undone_length 4 ts written ∙ same_size ∙ sym (undone_length 4 ts context))
    (λ k i o.
    let j : k < length context = omega (arith, undone_length 4 ts context) in
    undone_at 4 ts written k (omega (arith, same_size)) ∙ ap (undone_number 4 ts k) (written_stays context p (p + l) ws k j (past k p l 16 h o)) ∙ sym (undone_at 4 ts context k j))
    (λ k i u v.
    let j : k < length context = omega (arith, undone_length 4 ts context) in
    saved_number context p 16 k u v ∙ sym (undone_at 4 ts context k j ∙ short_stays ts k (get_or context k 0) t (long_place p k w u v))) in
    record {
      small = omega (arith, equal);
      large = omega (arith, long);
      reached = λ c r. (omega (arith, equal, r.0), omega (arith, long, r.1));
      same = λ c r. ap (λ x. undone_part 16 (drop c.large (large_saves new)) (undone_part 4 (drop c.small x) written)) small
          ∙ ap (λ x. undone_part 16 (drop c.large x) (undone_part 4 (drop c.small (small_saves old)) written)) large
          ∙ ap (λ x. undone_part 16 x (undone_part 4 (drop c.small (small_saves old)) written)) (drop-append-le c.large (large_saves old) (s ∷ []) r.1)
          ∙ one (drop c.small (small_saves old)) (drop c.large (large_saves old)) (all_drop _ c.small (small_saves old) old.short);
    }

-- a log with the same saves stands for the same contexts
pub keeps_from : (a b new : CDFContextLog) (before after : List ℕ) → saves_of b ≡ saves_of a → KeepsUndone b new before after → KeepsUndone a new before after
keeps_from a b new before after e h =
    let P : List (Save 4) × List (Save 16) → Type 0 = λ x. (c : CDFContextCheckpoint) → (c.small ≤ length x.0) × (c.large ≤ length x.1) →
    undone new after c ≡ undone_part 16 (drop c.large x.1) (undone_part 4 (drop c.small x.0) before) in
    let small : length (small_saves b) ≡ length (small_saves a) = ap (λ (x : List (Save 4) × List (Save 16)). length x.0) e in
    let large : length (large_saves b) ≡ length (large_saves a) = ap (λ (x : List (Save 4) × List (Save 16)). length x.1) e in
    record {
      small = omega (arith, small, h.small);
      large = omega (arith, large, h.large);
      reached = λ c r. h.reached c (omega (arith, small, r.0), omega (arith, large, r.1));
      same = subst P e h.same;
    }

pub keeps_both : (a b new : CDFContextLog) (x y z : List ℕ) → KeepsUndone a b x y → KeepsUndone b new y z → KeepsUndone a new x z
keeps_both a b new x y z h k = record {
  small = omega (arith, h.small, k.small);
  large = omega (arith, h.large, k.large);
  reached = λ c r. k.reached c (h.reached c r);
  same = λ c r. k.same c (h.reached c r) ∙ h.same c r;
}
