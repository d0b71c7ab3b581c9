-- A scan that is looked through from its end.
use Rattle.std.proofs.Common.{◌≡◌, ℕ, zero, suc, ◌+◌, ◌-◌, ◌*◌, ◌/◌, ◌%◌, ◌<◌, ◌≤◌, List, [], ◌∷◌, Bool, true, false, ◌&&◌, not, nat_lt, if◌then◌else◌, slice_index, drop, length, replicate, refl, ◌∙◌, ap, subst, arith, inl, inr, mul_comm}
use Rattle.std.specs.Prelude.{slice_index_or}
use Rattle.std.proofs.lemmas.Bool.{cases_lt}
use Rattle.std.proofs.lemmas.List.{drop_more}
use Rattle.std.proofs.lemmas.Nat.{mul-add-lt}
use Rattle.av1_coef.specs.Contexts.{Step}
use Rattle.av1_coef.specs.Scans.{is_in, all_there, each_once, is_permutation, steps_later, keeps_order}
use Rattle.av1_coef.proofs.Tests.{lt_is, lt_not, lt_of, both, is_false, false_true}

pub one_back : (scan : List ℕ) (i : ℕ) → 0 < i → i ≤ length scan → drop (i - 1) scan ≡ slice_index scan (i - 1) ∷ drop i scan
one_back scan i h l =
    let e : i - 1 + 1 ≡ i = omega (arith, h) in
    drop_more scan (i - 1) 0 (omega (arith, h, l)) ∙ ap (λ k. slice_index scan (i - 1) ∷ drop k scan) e

pub seen_none : (n q : ℕ) → slice_index_or (replicate n false) q false ≡ false
seen_none zero q = refl
seen_none (suc n) zero = refl
seen_none (suc n) (suc q) = seen_none n q

pub once_drop : (area : ℕ) (scan : List ℕ) (i : ℕ) → each_once area scan ≡ true → each_once area (drop i scan) ≡ true
once_drop area scan zero h = h
once_drop area [] (suc i) h = refl
once_drop area (p ∷ ps) (suc i) h = once_drop area ps i (both (nat_lt p area && not (is_in ps p)) (each_once area ps) h).1

pub order_drop : (w h : ℕ) (steps : List Step) (scan : List ℕ) (i : ℕ) → keeps_order w h steps scan ≡ true → keeps_order w h steps (drop i scan) ≡ true
order_drop w h steps scan zero k = k
order_drop w h steps [] (suc i) k = refl
order_drop w h steps (p ∷ ps) (suc i) k = order_drop w h steps ps i (both (steps_later w h (is_in ps) p steps) (keeps_order w h steps ps) k).1

pub there_at : (n : ℕ) (scan : List ℕ) (p : ℕ) → p < n → all_there n scan ≡ true → is_in scan p ≡ true
there_at zero scan p l h = absurd (omega (arith, l))
there_at (suc n) scan p l h =
    let b = both (is_in scan n) (all_there n scan) h in
    elim (cases_lt p n) [ inl m ↦ there_at n scan p m b.1 | inr m ↦ let e : p ≡ n = omega (arith, l, m) in ap (is_in scan) e ∙ b.0 ]

pub steps_same : (w h : ℕ) (f g : ℕ → Bool) (p : ℕ) (steps : List Step) → ((q : ℕ) → q < w * h → f q ≡ g q) → steps_later w h f p steps ≡ steps_later w h g p steps
steps_same w h f g p [] s = refl
steps_same w h f g p (st ∷ steps) s =
    let c = p / h + st.columns in
    let r = p % h + st.rows in
    let one : (if nat_lt c w && nat_lt r h then f (c * h + r) else true) ≡ (if nat_lt c w && nat_lt r h then g (c * h + r) else true) =
    elim (cases_lt c w) [
      | inl l ↦ elim (cases_lt r h) [
        | inl m ↦ rw (lt_is c w l, lt_is r h m) (s (c * h + r) (omega (arith, mul-add-lt c h r w l m, mul_comm w h)))
        | inr m ↦ rw (lt_is c w l, lt_not r h m) refl
      ]
      | inr l ↦ rw (lt_not c w l) refl
    ] in
    ap (λ b. b && steps_later w h f p steps) one ∙ ap (λ b. (if nat_lt c w && nat_lt r h then g (c * h + r) else true) && b) (steps_same w h f g p steps s)

pub out_of_area : (area p : ℕ) (later : List ℕ) → area ≤ p → each_once area (p ∷ later) ≡ true → ⊥
out_of_area area p later l h = false_true (lt_not p area l) (both (nat_lt p area) (not (is_in later p)) (both (nat_lt p area && not (is_in later p)) (each_once area later) h).0).0

pub there_twice : (area p : ℕ) (later : List ℕ) → is_in later p ≡ true → each_once area (p ∷ later) ≡ true → ⊥
there_twice area p later l h = let n = (both (nat_lt p area) (not (is_in later p)) (both (nat_lt p area && not (is_in later p)) (each_once area later) h).0).1 in false_true (ap not l) n

pub once_more : (area p : ℕ) (later : List ℕ) → p < area → is_in later p ≡ false → each_once area later ≡ true → each_once area (p ∷ later) ≡ true
once_more area p later l n h = rw (lt_is p area l, n, h) refl

-- a scan that breaks a rule on the way
pub once_refused : (area : ℕ) (scan : List ℕ) (i : ℕ) → 0 < i → i ≤ length scan → (each_once area (slice_index scan (i - 1) ∷ drop i scan) ≡ true → ⊥) → false ≡ is_permutation area scan
once_refused area scan i h l out = is_false (is_permutation area scan)
    (λ t. out (subst (λ (l : List ℕ). each_once area l ≡ true) (one_back scan i h l) (once_drop area scan (i - 1) (both (each_once area scan) (all_there area scan) t).0)))

pub order_refused : (w h : ℕ) (steps : List Step) (scan : List ℕ) (i : ℕ) → 0 < i → i ≤ length scan → steps_later w h (is_in (drop i scan)) (slice_index scan (i - 1)) steps ≡ false → false ≡ keeps_order w h steps scan
order_refused w h steps scan i a l out = is_false (keeps_order w h steps scan)
    (λ t. false_true out (both (steps_later w h (is_in (drop i scan)) (slice_index scan (i - 1)) steps) (keeps_order w h steps (drop i scan)) (subst (λ (l : List ℕ). keeps_order w h steps l ≡ true) (one_back scan i a l) (order_drop w h steps scan (i - 1) t))).0)

-- the step that a body makes where nothing is wrong
pub order_more : (w h : ℕ) (steps : List Step) (scan : List ℕ) (i : ℕ) → 0 < i → i ≤ length scan → steps_later w h (is_in (drop i scan)) (slice_index scan (i - 1)) steps ≡ true → keeps_order w h steps (drop i scan) ≡ true → keeps_order w h steps (drop (i - 1) scan) ≡ true
order_more w h steps scan i a l now rest = ap (keeps_order w h steps) (one_back scan i a l) ∙ rw (now, rest) refl

pub none_missing : (area : ℕ) (scan : List ℕ) (p : ℕ) → p < area → is_in scan p ≡ false → false ≡ is_permutation area scan
none_missing area scan p l n = is_false (is_permutation area scan) (λ t. false_true n (there_at area scan p l (both (each_once area scan) (all_there area scan) t).1))

-- a position of a scan
pub once_below : (area : ℕ) (scan : List ℕ) (i : ℕ) → each_once area scan ≡ true → i < length scan → slice_index scan i < area
once_below area [] i h l = absurd (omega (arith, l))
once_below area (p ∷ ps) zero h l = lt_of p area (both (nat_lt p area) (not (is_in ps p)) (both (nat_lt p area && not (is_in ps p)) (each_once area ps) h).0).0
once_below area (p ∷ ps) (suc i) h l = once_below area ps i (both (nat_lt p area && not (is_in ps p)) (each_once area ps) h).1 (omega (arith, l))
