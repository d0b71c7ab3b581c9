-- The layout covers all places without a gap, and each place belongs to one CDF or is padding.
use Rattle.std.proofs.Common.{◌≡◌, ℕ, zero, suc, ◌+◌, ◌-◌, ◌*◌, ◌/◌, ◌%◌, ◌<◌, ◌≤◌, List, [], ◌∷◌, length, map, get_or, Bool, true, false, ◌&&◌, ◌||◌, ◌⊎◌, inl, inr, nat_eq, nat_lt, nat_le, cond, IsTrue, eqb-true, eq-eqb, refl, sym, ap, lit<, lit≤, subst, ◌∙◌, arith}
use Rattle.std.proofs.lemmas.Nat.{div-mul-add, div-add-mod'}
use Rattle.std.proofs.lemmas.Bool.Decides.{nat_tests, leb_tells}
use Rattle.std.proofs.Math.Nat.{mul-le-mul_right, suc-mul, div-lt_iff_lt-mul, mod-lt}
use Rattle.std.specs.List.{list_all, list_any}
use Rattle.av1_cdf.specs.declared.run.Cell.{Cell}
use Rattle.av1_cdf.specs.declared.run.Run.{Run}
use Rattle.av1_cdf.specs.Slots.{cell_of}
use Rattle.av1_cdf.specs.Layout.{Field, Slot, layout, count_in, length_in, cell_among, cell, is_slot, rises, size_of_context}
use Rattle.av1_cdf.specs.Runs.{run_of, runs, is_run, has_run, run_at, Has, HasOrEnds, IsBefore}

pub both_true : (a b : Bool) → IsTrue (a && b) → IsTrue a × IsTrue b
both_true true b h = (refl, h)
both_true false b h = cc

pub is_lt : (a b : ℕ) → IsTrue (nat_lt a b) → a < b
is_lt a b h = grind (arith, nat_tests)

pub is_le : (a b : ℕ) → IsTrue (nat_le a b) → a ≤ b
is_le a b h = grind (arith, nat_tests)

pub lt_is : (a b : ℕ) → a < b → nat_lt a b ≡ true
lt_is a b h = grind (arith, nat_tests)

pub lt_not : (a b : ℕ) → b ≤ a → nat_lt a b ≡ false
lt_not a b h = grind (arith, nat_tests)

pub le_is : (a b : ℕ) → a ≤ b → nat_le a b ≡ true
le_is a b h = grind (arith, nat_tests)

pub lt_or_not : (a b : ℕ) → (a < b) ⊎ (b ≤ a)
lt_or_not a b = grind (arith, nat_tests, leb_tells)

-- number m of CDF j of c, each of n numbers
pub within : (j c n m : ℕ) → j < c → m < n → j * n + m < c * n
within j c n m h k =
    let e : suc j * n ≤ c * n = mul-le-mul_right n (omega arith) in
    let s : suc j * n ≡ j * n + n = suc-mul j n in
    omega arith

-- what a field says of the next ones
rises_cons : (start : ℕ) (f : Field) (fs : List Field) (end : ℕ) → IsTrue (rises start (f ∷ fs) end) →
    (f.place ≡ start) × (0 < length_in f.dimensions) × IsTrue (rises (f.place + count_in f.dimensions * length_in f.dimensions) fs end) × (0 < count_in f.dimensions)
rises_cons start f fs end h =
    let n = length_in f.dimensions in
    let c = count_in f.dimensions in
    let a = both_true (nat_eq f.place start && nat_lt 0 n && nat_lt 0 c) _ h in
    let b = both_true (nat_eq f.place start && nat_lt 0 n) (nat_lt 0 c) a.0 in
    let d = both_true (nat_eq f.place start) (nat_lt 0 n) b.0 in
    (eqb-true f.place start d.0, is_lt 0 n d.1, a.1, is_lt 0 c b.1)

row_ends : (fs : List Field) (start end : ℕ) → IsTrue (rises start fs end) → start ≤ end
row_ends [] start end h = let e : start ≡ end = eqb-true start end h in omega arith
row_ends (f ∷ fs) start end h =
    let c = rises_cons start f fs end h in
    let e = row_ends fs _ end c.2 in
    omega (arith, c.0, e)

-- a field begins no earlier than the first one, and ends no later than the last one
pub row_within : (fs : List Field) (start end : ℕ) → IsTrue (rises start fs end) → (i : ℕ) (d : Run) → i < length fs →
    let r = get_or (map run_of fs) i d in
    (start ≤ r.place) × (r.place + r.count * r.len ≤ end) × (0 < r.len) × (0 < r.count)
row_within [] start end h i d l = absurd (omega arith)
row_within (f ∷ fs) start end h zero d l =
    let c = rises_cons start f fs end h in
    let e = row_ends fs _ end c.2 in
    (omega (arith, c.0), e, c.1, c.3)
row_within (f ∷ fs) start end h (suc i) d l =
    let c = rises_cons start f fs end h in
    let r = row_within fs _ end c.2 i d (omega arith) in
    (omega (arith, c.0, r.0), r.1, r.2, r.3)

-- the CDF of a place within a field
pub cell_in_field : (f : Field) (fs : List Field) (j m : ℕ) → j < count_in f.dimensions → m < length_in f.dimensions →
    cell_among (f ∷ fs) (f.place + j * length_in f.dimensions + m) ≡ record { place = f.place + j * length_in f.dimensions; len = length_in f.dimensions }
cell_in_field f fs j m h k =
    let n = length_in f.dimensions in
    let c = count_in f.dimensions in
    let p = f.place + j * n + m in
    let w : j * n + m < c * n = within j c n m h k in
    let t : nat_lt p (f.place + c * n) ≡ true = lt_is p (f.place + c * n) (omega (arith, w)) in
    let o : p - f.place ≡ j * n + m = omega arith in
    let q : (p - f.place) / n ≡ j = ap (λ x. x / n) o ∙ div-mul-add j n m k in
    let at : ℕ → Slot = λ x. record { place = f.place + x * n; len = n } in
    ap (λ b. cond b (at ((p - f.place) / n)) (cell_among fs p)) t ∙ ap at q

pub cell_of_row : (fs : List Field) (start end : ℕ) → IsTrue (rises start fs end) → (i : ℕ) (d : Run) → i < length fs →
    let r = get_or (map run_of fs) i d in
    (j m : ℕ) → j < r.count → m < r.len →
    cell_among fs (r.place + j * r.len + m) ≡ record { place = r.place + j * r.len; len = r.len }
cell_of_row [] start end h i d l j m a b = absurd (omega arith)
cell_of_row (f ∷ fs) start end h zero d l j m a b = cell_in_field f fs j m a b
cell_of_row (f ∷ fs) start end h (suc i) d l j m a b =
    let c = rises_cons start f fs end h in
    let n = length_in f.dimensions in
    let r : Run = get_or (map run_of fs) i d in
    let p = r.place + j * r.len + m in
    let w = row_within fs _ end c.2 i d (omega arith) in
    let t : nat_lt p (f.place + count_in f.dimensions * n) ≡ false = lt_not p (f.place + count_in f.dimensions * n) (omega (arith, w.0)) in
    ap (λ b. cond b (record { place = f.place + (p - f.place) / n * n; len = n }) (cell_among fs p)) t ∙ cell_of_row fs _ end c.2 i d (omega arith) j m a b

pub layout_rises : IsTrue (rises 0 layout size_of_context)
unfolding layout
layout_rises = refl

layout_length : length layout ≡ 72
unfolding layout
layout_length = refl

-- the CDF of a number within a run of the layout
pub cell_of_run : (i : ℕ) (d : Run) → i < 72 → let r = get_or runs i d in
    (j m : ℕ) → j < r.count → m < r.len → cell (r.place + j * r.len + m) ≡ record { place = r.place + j * r.len; len = r.len }
unfolding runs cell
cell_of_run i d l j m a b = cell_of_row layout 0 size_of_context layout_rises i d (omega (arith, layout_length)) j m a b

pub run_within : (i : ℕ) (d : Run) → i < 72 → let r = get_or runs i d in (r.place + r.count * r.len ≤ 5528) × (0 < r.len) × (0 < r.count)
unfolding runs
run_within i d l = let w = row_within layout 0 size_of_context layout_rises i d (omega (arith, layout_length)) in (w.1, w.2, w.3)

is_run_field : (r : Run) (f : Field) → IsTrue (is_run r f) → r ≡ run_of f
is_run_field r f h =
    let a = both_true (nat_eq r.place f.place && nat_eq r.count (count_in f.dimensions)) _ h in
    let b = both_true (nat_eq r.place f.place) (nat_eq r.count (count_in f.dimensions)) a.0 in
    let p = eqb-true r.place f.place b.0 in
    let c = eqb-true r.count (count_in f.dimensions) b.1 in
    let n = eqb-true r.len (length_in f.dimensions) a.1 in
    λ i. record { place = p i; count = c i; len = n i }

pub either_true : (a b : Bool) → IsTrue (a || b) → IsTrue a ⊎ IsTrue b
either_true true b h = inl refl
either_true false b h = inr h

found_here : (f : Field) (fs : List Field) (start end : ℕ) → IsTrue (rises start (f ∷ fs) end) → (r : Run) → r ≡ run_of f → (k : ℕ) → k < r.count → 2 ≤ r.len →
    (cell_among (f ∷ fs) (r.place + k * r.len) ≡ record { place = r.place + k * r.len; len = r.len }) × (start ≤ r.place) × (r.place + r.count * r.len ≤ end)
found_here f fs start end h r e =
    let P : Run → Type 0 = λ r. (k : ℕ) → k < r.count → 2 ≤ r.len →
    (cell_among (f ∷ fs) (r.place + k * r.len) ≡ record { place = r.place + k * r.len; len = r.len }) × (start ≤ r.place) × (r.place + r.count * r.len ≤ end) in
    subst P (sym e) (λ k l t.
    let c = rises_cons start f fs end h in
    let z : f.place + k * length_in f.dimensions + 0 ≡ f.place + k * length_in f.dimensions = omega arith in (
      subst (λ p. cell_among (f ∷ fs) p ≡ record { place = f.place + k * length_in f.dimensions; len = length_in f.dimensions }) z (cell_in_field f fs k 0 l c.1),
      omega (arith, c.0),
      row_ends fs _ end c.2,
    ))

found : (fs : List Field) (start end : ℕ) → IsTrue (rises start fs end) → (r : Run) → IsTrue (list_any (is_run r) fs) → (k : ℕ) → k < r.count → 2 ≤ r.len →
    (cell_among fs (r.place + k * r.len) ≡ record { place = r.place + k * r.len; len = r.len }) × (start ≤ r.place) × (r.place + r.count * r.len ≤ end)
found [] start end h r g k l t = cc
found (f ∷ fs) start end h r g k l t =
    elim (either_true (is_run r f) (list_any (is_run r) fs) g) [
      | inl a ↦ found_here f fs start end h r (is_run_field r f a) k l t
      | inr b ↦
          let c = rises_cons start f fs end h in
          let n = length_in f.dimensions in
          let p = r.place + k * r.len in
          let w = found fs _ end c.2 r b k l t in
          let o : nat_lt p (f.place + count_in f.dimensions * n) ≡ false = lt_not p (f.place + count_in f.dimensions * n) (omega (arith, w.1)) in
          (ap (λ b. cond b (record { place = f.place + (p - f.place) / n * n; len = n }) (cell_among fs p)) o ∙ w.0, omega (arith, w.1, c.0), w.2)
    ]

pub is_slot_by : (p l : ℕ) → 2 ≤ l → cell p ≡ record { place = p; len = l } → IsTrue (is_slot p l)
unfolding is_slot
is_slot_by p l t e =
    let a : nat_le 2 l ≡ true = le_is 2 l t in
    let b : nat_eq (cell p).place p ≡ true = eq-eqb (cell p).place p (ap (λ (s : Slot). s.place) e) in
    let c : nat_eq (cell p).len l ≡ true = eq-eqb (cell p).len l (ap (λ (s : Slot). s.len) e) in
    λ i. a i && b i && c i

-- the CDFs of a run are slots
pub slot_of_run : (r : Run) (k : ℕ) → IsTrue (has_run r) → k < r.count → IsTrue (is_slot (r.place + k * r.len) r.len)
unfolding has_run cell
slot_of_run r k h l =
    let a = both_true (nat_le 2 r.len) _ h in
    let t = is_le 2 r.len a.0 in
    is_slot_by (r.place + k * r.len) r.len t (found layout 0 size_of_context layout_rises r a.1 k l t).0

slot_in : (fs : List Field) (start end : ℕ) → IsTrue (rises start fs end) → (p l : ℕ) → start ≤ p → (cell_among fs p).place ≡ p → (cell_among fs p).len ≡ l → 2 ≤ l →
    (k : ℕ) → p ≤ k → k < p + l → (cell_among fs k ≡ record { place = p; len = l }) × (p + l ≤ end)
slot_in [] start end h p l s a b t k u v = absurd (omega (arith, b))
slot_in (f ∷ fs) start end h p l s a b t k u v =
    let n = length_in f.dimensions in
    let c = rises_cons start f fs end h in
    let z = f.place + count_in f.dimensions * n in
    elim (lt_or_not p z) [
      | inl w ↦
          let y : nat_lt p z ≡ true = lt_is p z w in
          let q = (p - f.place) / n in
          let here : cell_among (f ∷ fs) p ≡ record { place = f.place + q * n; len = n } = ap (λ b. cond b (record { place = f.place + q * n; len = n }) (cell_among fs p)) y in
          let e : f.place + q * n ≡ p = sym (ap (λ (s : Slot). s.place) here) ∙ a in
          let g : n ≡ l = sym (ap (λ (s : Slot). s.len) here) ∙ b in
          let o : q < count_in f.dimensions = (div-lt_iff_lt-mul c.1).1 (omega (arith, w, c.0)) in
          let m : k - p < n = omega (arith, g) in
          let at : f.place + q * n + (k - p) ≡ k = omega (arith, e) in
          let r = cell_in_field f fs q (k - p) o m in
          let last = within q (count_in f.dimensions) n (n - 1) o (omega (arith, c.1)) in
          let rest = row_ends fs z end c.2 in
          let both : (cell_among (f ∷ fs) k ≡ record { place = f.place + q * n; len = n }) = subst (λ x. cell_among (f ∷ fs) x ≡ record { place = f.place + q * n; len = n }) at r in
          (both ∙ (λ i. record { place = e i; len = g i }), omega (arith, e, g, last, rest, c.1))
      | inr w ↦
          let y : nat_lt p z ≡ false = lt_not p z w in
          let y' : nat_lt k z ≡ false = lt_not k z (omega (arith, w)) in
          let there : cell_among (f ∷ fs) p ≡ cell_among fs p = ap (λ b. cond b (record { place = f.place + (p - f.place) / n * n; len = n }) (cell_among fs p)) y in
          let r = slot_in fs z end c.2 p l w (sym (ap (λ (s : Slot). s.place) there) ∙ a) (sym (ap (λ (s : Slot). s.len) there) ∙ b) t k u v in
          (ap (λ b. cond b (record { place = f.place + (k - f.place) / n * n; len = n }) (cell_among fs k)) y' ∙ r.0, r.1)
    ]

-- each place of a slot belongs to it, and it lies in the context
pub cell_of_slot : (p l k : ℕ) → IsTrue (is_slot p l) → p ≤ k → k < p + l → cell k ≡ record { place = p; len = l }
unfolding is_slot cell
cell_of_slot p l k h u v =
    let a = both_true (nat_le 2 l && nat_eq (cell p).place p) _ h in
    let b = both_true (nat_le 2 l) (nat_eq (cell p).place p) a.0 in
    (slot_in layout 0 size_of_context layout_rises p l (omega arith) (eqb-true _ p b.1) (eqb-true _ l a.1) (is_le 2 l b.0) k u v).0

pub slot_within : (p l : ℕ) → IsTrue (is_slot p l) → (p + l ≤ 5528) × (2 ≤ l)
unfolding is_slot cell
slot_within p l h =
    let a = both_true (nat_le 2 l && nat_eq (cell p).place p) _ h in
    let b = both_true (nat_le 2 l) (nat_eq (cell p).place p) a.0 in
    let t = is_le 2 l b.0 in
    ((slot_in layout 0 size_of_context layout_rises p l (omega arith) (eqb-true _ p b.1) (eqb-true _ l a.1) t p (omega arith) (omega (arith, t))).1, t)

pub place_within : (r : Run) (k : ℕ) → IsTrue (has_run r) → k < r.count → r.place + k * r.len < 5528
place_within r k h l =
    let w = slot_within _ _ (slot_of_run r k h l) in
    omega (arith, w)

pub start_within : (r : Run) → IsTrue (has_run r) → 0 < r.count → r.place < 5528
start_within r h l = let w = place_within r 0 h l in omega (arith, w)

-- a run of both components of vectors
pub component_run : (place count len component : ℕ) → component < 2 → IsTrue (has_run record { place = place; count = count; len = len }) →
    IsTrue (has_run record { place = place + 56; count = count; len = len }) → IsTrue (has_run record { place = place + 56 * component; count = count; len = len })
component_run place count len zero h a b = subst (λ p. IsTrue (has_run record { place = p; count = count; len = len })) (omega arith) a
component_run place count len (suc zero) h a b = subst (λ p. IsTrue (has_run record { place = p; count = count; len = len })) (omega arith) b
component_run place count len (suc (suc n)) h a b = absurd (omega arith)

run_more : (i : ℕ) → i < 72 → 0 < (run_at i).count * (run_at i).len
run_more i l =
    let w = run_within i (record { place = 0; count = 0; len = 0 }) l in
    let p = within 0 (run_at i).count (run_at i).len 0 w.2 w.1 in
    omega (arith, p)

-- a run follows on the one before it
next_row : (fs : List Field) (start end : ℕ) → IsTrue (rises start fs end) → (i : ℕ) (d : Run) → i < length fs →
    let r = get_or (map run_of fs) i d in
    ((suc i < length fs) × ((get_or (map run_of fs) (suc i) d).place ≡ r.place + r.count * r.len)) ⊎ (r.place + r.count * r.len ≡ end)
next_row [] start end h i d l = absurd (omega arith)
next_row (f ∷ []) start end h zero d l = inr (eqb-true _ end (rises_cons start f [] end h).2)
next_row (f ∷ g ∷ fs) start end h zero d l =
    let c = rises_cons start f (g ∷ fs) end h in
    inl (omega arith, (rises_cons _ g fs end c.2).0)
next_row (f ∷ fs) start end h (suc i) d l =
    elim (next_row fs _ end (rises_cons start f fs end h).2 i d (omega arith)) [
      | inl a ↦ inl (omega (arith, a.0), a.1)
      | inr b ↦ inr b
    ]

pub next_run : (i k : ℕ) → HasOrEnds i k → (run_at i).place + (run_at i).count * (run_at i).len ≤ k → k < 5528 → Has (i + 1) k
unfolding runs
next_run i k h e l =
    let d : Run = record { place = 0; count = 0; len = 0 } in
    let n : k ≡ (run_at i).place + (run_at i).count * (run_at i).len = omega (arith, h.to) in
    elim (next_row layout 0 size_of_context layout_rises i d (omega (arith, layout_length, h.run))) [
      | inl a ↦
          let more = run_more (i + 1) (omega (arith, a.0, layout_length)) in
          let s : i + 1 ≡ suc i = omega arith in
          let p : (run_at (i + 1)).place ≡ k = ap (λ j. (run_at j).place) s ∙ a.1 ∙ sym n in
          record { run = omega (arith, a.0, layout_length); from = omega (arith, p); to = omega (arith, p, more) }
      | inr b ↦ absurd (omega (arith, b, n))
    ]

short_among : (fs : List Field) (k : ℕ) → IsTrue (list_all (λ f. nat_le (length_in f.dimensions) 16) fs) → (cell_among fs k).len ≤ 16
short_among [] k h = lit≤ tt
short_among (f ∷ fs) k h =
    let b = both_true (nat_le (length_in f.dimensions) 16) _ h in
    elim (lt_or_not k (f.place + count_in f.dimensions * length_in f.dimensions)) [
      | inl w ↦ rw (lt_is k (f.place + count_in f.dimensions * length_in f.dimensions) w) (is_le (length_in f.dimensions) 16 b.0)
      | inr w ↦ rw (lt_not k (f.place + count_in f.dimensions * length_in f.dimensions) w) (short_among fs k b.1)
    ]

-- no CDF is longer than 16
pub slot_short : (p l : ℕ) → IsTrue (is_slot p l) → l ≤ 16
unfolding is_slot cell layout
slot_short p l h =
    let a = both_true (nat_le 2 l && nat_eq (cell p).place p) _ h in
    let e : (cell p).len ≡ l = eqb-true _ l a.1 in
    let s = short_among layout p refl in
    omega (arith, e, s)

-- the CDF of a place within a run
pub cell_of_place : (i k : ℕ) → Has i k → let r = run_at i in
    (cell k ≡ record { place = r.place + (k - r.place) / r.len * r.len; len = r.len }) × (r.place + (k - r.place) / r.len * r.len ≤ k)
    × (k < r.place + (k - r.place) / r.len * r.len + r.len) × (r.place + (k - r.place) / r.len * r.len + r.len ≤ 5528)
cell_of_place i k h =
    let d : Run = record { place = 0; count = 0; len = 0 } in
    let r = run_at i in
    let w = run_within i d h.run in
    let j = (k - r.place) / r.len in
    let m = (k - r.place) % r.len in
    let o : j < r.count = (div-lt_iff_lt-mul w.1).1 (omega (arith, h.to, h.from)) in
    let l : m < r.len = mod-lt (k - r.place) w.1 in
    let s : j * r.len + m ≡ k - r.place = div-add-mod' (k - r.place) r.len in
    let at : r.place + j * r.len + m ≡ k = omega (arith, s, h.from) in
    let e = cell_of_run i d h.run j m o l in
    let last = within j r.count r.len (r.len - 1) o (omega (arith, w.1)) in
    (subst (λ x. cell x ≡ record { place = r.place + j * r.len; len = r.len }) at e, omega (arith, at), omega (arith, at, l), omega (arith, last, w.0, w.1))

pub run_fits : (i : ℕ) → i < 72 → ((run_at i).place + (run_at i).count * (run_at i).len ≤ 5528) × (0 < (run_at i).len)
run_fits i l = let w = run_within i (record { place = 0; count = 0; len = 0 }) l in (w.0, w.1)

-- where a loop over all places begins
pub first_run : HasOrEnds 0 0
unfolding runs layout
first_run = record { run = lit< tt; from = lit≤ tt; to = lit≤ tt }

pub has_after : (i k : ℕ) → Has i k → HasOrEnds i (k + 1)
has_after i k h = record { run = h.run; from = omega (arith, h.from); to = omega (arith, h.to) }

-- each place has a run
some_run : (k : ℕ) → k < 5528 → (i : ℕ) × Has i k
some_run zero h = (0, record { run = lit< tt; from = first_run.from; to = omega (arith, run_more 0 (lit< tt)) })
some_run (suc k) h =
    let w = some_run k (omega arith) in
    let at = run_at w.0 in
    elim (lt_or_not (suc k) (at.place + at.count * at.len)) [
      | inl l ↦ (w.0, record { run = w.1.run; from = omega (arith, w.1.from); to = l })
      | inr l ↦ (w.0 + 1, next_run w.0 (suc k) (record { run = w.1.run; from = omega (arith, w.1.from); to = omega (arith, w.1.to) }) l h)
    ]

-- a place lies in its CDF, and that in the context
pub cell_around : (k : ℕ) → k < 5528 → ((cell k).place ≤ k) × (k < (cell k).place + (cell k).len) × ((cell k).place + (cell k).len ≤ 5528)
cell_around k h =
    let w = some_run k h in
    let o = cell_of_place w.0 k w.1 in
    rw o.0 (o.1, o.2, o.3)

-- all places of a CDF have it
cell_whole : (j k : ℕ) → j < 5528 → (cell j).place ≤ k → k < (cell j).place + (cell j).len → cell k ≡ cell j
cell_whole j k h u v =
    let w = some_run j h in
    let i = w.0 in
    let r = run_at i in
    let o = cell_of_place i j w.1 in
    let q = (j - r.place) / r.len in
    let fits = run_within i (record { place = 0; count = 0; len = 0 }) w.1.run in
    let at : (cell j).place ≡ r.place + q * r.len = ap (λ (s : Slot). s.place) o.0 in
    let long : (cell j).len ≡ r.len = ap (λ (s : Slot). s.len) o.0 in
    let number : q < r.count = (div-lt_iff_lt-mul fits.1).1 (omega (arith, w.1.to, w.1.from)) in
    let m = k - (r.place + q * r.len) in
    let there : r.place + q * r.len + m ≡ k = omega (arith, at) in
    subst (λ x. cell x ≡ record { place = r.place + q * r.len; len = r.len }) there (cell_of_run i (record { place = 0; count = 0; len = 0 }) w.1.run q m number (omega (arith, at, long))) ∙ sym o.0

-- the CDF of the next place is the same one, or begins there
pub cell_after : (i k : ℕ) (c : Cell) → Has i k → k < 5528 → IsBefore c k →
    (c.place + c.len ≤ 5528) × (k < c.place + c.len → c ≡ cell_of k) × (c.place + c.len ≤ k → record { place = k; len = (run_at i).len } ≡ cell_of k)
cell_after i zero c has h b =
    let o = cell_of_place i zero has in
    let e : c.place + c.len ≡ 0 = b.first refl in
    let from = cell_around zero h in
    let start : 0 ≡ (cell zero).place = omega (arith, from.0) in
    let long : (run_at i).len ≡ (cell zero).len = ap (λ (s : Slot). s.len) (sym o.0) in
    (omega (arith, e), λ l. absurd (omega (arith, e)), λ l j. record { place = start j; len = long j })
cell_after i (suc j) c has h b =
    let e : c ≡ cell_of j = b.last j (omega arith) in
    let around = cell_around j (omega arith) in
    let o = cell_of_place i (suc j) has in
    let to : c.place + c.len ≡ (cell j).place + (cell j).len = ap (λ (x : Cell). x.place + x.len) e in
    let next = cell_around (suc j) h in
    let same : suc j < (cell j).place + (cell j).len → cell (suc j) ≡ cell j = λ l. cell_whole j (suc j) (omega arith) (omega (arith, around.0)) l in
    let long : (run_at i).len ≡ (cell (suc j)).len = ap (λ (s : Slot). s.len) (sym o.0) in
    let begins : (cell j).place + (cell j).len ≤ suc j → suc j ≡ (cell (suc j)).place =
    λ l. elim (lt_or_not j (cell (suc j)).place) [
      | inl a ↦ omega (arith, next.0)
      | inr a ↦
          let t : cell j ≡ cell (suc j) = cell_whole (suc j) j h a (omega (arith, next.1)) in
          let z : (cell j).place + (cell j).len ≡ (cell (suc j)).place + (cell (suc j)).len = ap (λ (s : Slot). s.place + s.len) t in
          absurd (omega (arith, z, next.1))
    ] in (
      omega (arith, to, around.2),
      λ l. e ∙ ap (λ (s : Slot). record { place = s.place; len = s.len }) (sym (same (omega (arith, to)))),
      λ l. let p = begins (omega (arith, to)) in λ n. record { place = p n; len = long n },
    )

pub before_first : IsBefore (record { place = 0; len = 0 }) 0
before_first = record { first = λ e. refl; last = λ j e. absurd (omega arith) }

pub before_next : (c : Cell) (k : ℕ) → c ≡ cell_of k → IsBefore c (k + 1)
before_next c k e = record { first = λ z. absurd (omega arith); last = λ j z. let s : k ≡ j = omega arith in e ∙ ap cell_of s }

-- two CDFs are the same, or have no place in common
pub slots_apart : (s t : Slot) → IsTrue (is_slot s.place s.len) → IsTrue (is_slot t.place t.len) →
    (s ≡ t) ⊎ ((s.place + s.len ≤ t.place) ⊎ (t.place + t.len ≤ s.place))
slots_apart s t h k =
    let w = slot_within s.place s.len h in
    let v = slot_within t.place t.len k in
    elim (lt_or_not t.place (s.place + s.len)) [
      | inr a ↦ inr (inl a)
      | inl a ↦ elim (lt_or_not s.place (t.place + t.len)) [
        | inr b ↦ inr (inr b)
        | inl b ↦ elim (lt_or_not s.place t.place) [
          | inl c ↦ inl (sym (cell_of_slot s.place s.len t.place h (omega arith) a) ∙ cell_of_slot t.place t.len t.place k (omega arith) (omega (arith, v)))
          | inr c ↦ inl (sym (cell_of_slot s.place s.len s.place h (omega arith) (omega (arith, w))) ∙ cell_of_slot t.place t.len s.place k c b)
        ]
      ]
    ]
