-- Of lists with the same items only one is in order.
use Rattle.std.proofs.Common.{◌≡◌, ◌⊎◌, ℕ, zero, suc, ◌+◌, ◌-◌, ◌<◌, ◌≤◌, List, [], ◌∷◌, Bool, true, false, ◌&&◌, nat_eq, nat_le, if◌then◌else◌, length, get_or, take, ◌++◌, map, refl, sym, ap, ◌∙◌, subst, arith, inl, inr}
use Rattle.std.specs.Prelude.{sum_by, ⊤}
use Rattle.std.specs.Ordering.{nat_cmp, ordering_then, is_lt}
use Rattle.std.specs.declared.cmp.Ordering.{Ordering}
use Rattle.std.specs.declared.cmp.Ordering.TheVariants.{Less, Equal, Greater}
use Rattle.std.specs.Prelude.{nat_lt, ◌==◌, cond}
use Rattle.std.proofs.lemmas.Bool.{cases_eq, cases_lt, cases_Bool}
use Rattle.std.proofs.lemmas.Bool.Decides.{nat_tests}
use Rattle.std.proofs.lemmas.List.Sums.{sum_by-cons}
use Rattle.av1_mvref.specs.declared.candidate.CandidateMV.{CandidateMV}
use Rattle.av1_mvref.specs.Candidates.{insert_by_weight, by_weight, no_vector}
use Rattle.av1_mvref.specs.Sorted.{ranks_from, candidate_at}
use Rattle.av1_mvref.specs.Noted.{heaviest}

-- a rank that comes no later than another
abbrev pub AtMost : ℕ × ℕ → ℕ × ℕ → Type 0
AtMost p q = (p.0 < q.0) ⊎ ((p.0 ≡ q.0) × (p.1 ≤ q.1))

at_most_trans : (p q r : ℕ × ℕ) → AtMost p q → AtMost q r → AtMost p r
at_most_trans p q r (inl a) (inl b) = inl (omega arith)
at_most_trans p q r (inl a) (inr b) = inl (omega (arith, b.0))
at_most_trans p q r (inr a) (inl b) = inl (omega (arith, a.0))
at_most_trans p q r (inr a) (inr b) = inr (a.0 ∙ b.0, omega (arith, a.1, b.1))

same_rank : (p q : ℕ × ℕ) → AtMost p q → AtMost q p → p ≡ q
same_rank p q (inl a) (inl b) = absurd (omega arith)
same_rank p q (inl a) (inr b) = absurd (omega (arith, b.0))
same_rank p q (inr a) (inl b) = absurd (omega (arith, a.0))
same_rank p q (inr a) (inr b) = let first = a.0 in let second : p.1 ≡ q.1 = omega (arith, a.1, b.1) in λ i. (first i, second i)

abbrev pub IsLeast : ℕ × ℕ → List (ℕ × ℕ) → Type 0
IsLeast p [] = ⊤
IsLeast p (q ∷ qs) = AtMost p q × IsLeast p qs

abbrev pub IsAscending : List (ℕ × ℕ) → Type 0
IsAscending [] = ⊤
IsAscending (p ∷ ps) = IsLeast p ps × IsAscending ps

abbrev is_rank : ℕ × ℕ → ℕ × ℕ → ℕ
is_rank p q = if nat_eq p.0 q.0 && nat_eq p.1 q.1 then 1 else 0

is_own : (p : ℕ × ℕ) → is_rank p p ≡ 1
is_own p = grind (arith, nat_tests)

-- one that is there is no less than the least
least_of_rank : (p q r : ℕ × ℕ) (n : ℕ) → AtMost q r → 1 ≤ is_rank p r + n → (1 ≤ n → AtMost q p) → AtMost q p
least_of_rank p q r n h l f = elim (cases_eq p.0 r.0) [
  | inl e ↦ elim (cases_eq p.1 r.1) [
    | inl o ↦ elim h [ inl a ↦ inl (omega arith) | inr a ↦ inr (a.0 ∙ sym e, omega (arith, a.1)) ]
    | inr o ↦ f (grind (arith, nat_tests))
  ]
  | inr e ↦ f (grind (arith, nat_tests))
]

least-of : (p q : ℕ × ℕ) (rs : List (ℕ × ℕ)) → IsLeast q rs → 1 ≤ sum_by (is_rank p) rs → AtMost q p
least-of p q [] h l = absurd (omega arith)
least-of p q (r ∷ rs) h l =
    least_of_rank p q r (sum_by (is_rank p) rs) h.0 (subst (λ n. 1 ≤ n) (sum_by-cons (is_rank p) r rs) l) (λ k. least-of p q rs h.1 k)

at_own : (p : ℕ × ℕ) → AtMost p p
at_own p = inr (refl, omega arith)

-- lists in order that hold the same items
pub same-ascending : (ps qs : List (ℕ × ℕ)) → ((f : ℕ × ℕ → ℕ) → sum_by f ps ≡ sum_by f qs) → IsAscending ps → IsAscending qs → ps ≡ qs
same-ascending [] [] s h l = refl
same-ascending [] (q ∷ qs) s h l = let one = s (λ r. 1) ∙ sum_by-cons (λ r. 1) q qs in absurd (omega (arith, one))
same-ascending (p ∷ ps) [] s h l = let one = sym (s (λ r. 1)) ∙ sum_by-cons (λ r. 1) p ps in absurd (omega (arith, one))
same-ascending (p ∷ ps) (q ∷ qs) s h l =
    let own_p = is_own p in
    let own_q = is_own q in
    let in_qs : 1 ≤ sum_by (is_rank p) (q ∷ qs) = omega (arith, s (is_rank p), sum_by-cons (is_rank p) p ps) in
    let in_ps : 1 ≤ sum_by (is_rank q) (p ∷ ps) = omega (arith, s (is_rank q), sum_by-cons (is_rank q) q qs) in
    let e : p ≡ q = same_rank p q (least-of q p (p ∷ ps) (at_own p, h.0) in_ps) (least-of p q (q ∷ qs) (at_own q, l.0) in_qs) in
    let less = λ (f : ℕ × ℕ → ℕ). let a = sum_by-cons f p ps in let b = sum_by-cons f q qs in let c = s f in let d = ap f e in
    let rest : sum_by f ps ≡ sum_by f qs = omega arith in rest in
    ap (λ r. r ∷ ps) e ∙ ap (λ rs. q ∷ rs) (same-ascending ps qs less h.1 l.1)

-- insertion by rank
abbrev insert_rank : ℕ × ℕ → List (ℕ × ℕ) → List (ℕ × ℕ)
insert_rank r [] = r ∷ []
insert_rank r (s ∷ ss) = if nat_le r.0 s.0 then r ∷ s ∷ ss else s ∷ insert_rank r ss

abbrev pub sort_ranks : List (ℕ × ℕ) → List (ℕ × ℕ)
sort_ranks [] = []
sort_ranks (r ∷ rs) = insert_rank r (sort_ranks rs)

sum_insert : (f : ℕ × ℕ → ℕ) (r : ℕ × ℕ) (rs : List (ℕ × ℕ)) → sum_by f (insert_rank r rs) ≡ f r + sum_by f rs
sum_insert f r [] = sum_by-cons f r []
sum_insert f r (s ∷ ss) = elim (cases_Bool (nat_le r.0 s.0)) [
  | inl e ↦ ap (λ v. sum_by f (if v then r ∷ s ∷ ss else s ∷ insert_rank r ss)) e ∙ sum_by-cons f r (s ∷ ss)
  | inr e ↦
      let a = sum_by-cons f s (insert_rank r ss) in
      let b = sum_insert f r ss in
      let c = sum_by-cons f s ss in
      ap (λ v. sum_by f (if v then r ∷ s ∷ ss else s ∷ insert_rank r ss)) e ∙ omega arith
]

pub sum_sort : (f : ℕ × ℕ → ℕ) (rs : List (ℕ × ℕ)) → sum_by f (sort_ranks rs) ≡ sum_by f rs
sum_sort f [] = refl
sum_sort f (r ∷ rs) = sum_insert f r (sort_ranks rs) ∙ ap (λ n. f r + n) (sum_sort f rs) ∙ sym (sum_by-cons f r rs)

least_under : (p q : ℕ × ℕ) (rs : List (ℕ × ℕ)) → AtMost p q → IsLeast q rs → IsLeast p rs
least_under p q [] h l = tt
least_under p q (r ∷ rs) h l = (at_most_trans p q r h l.0, least_under p q rs h l.1)

least_insert : (p r : ℕ × ℕ) (rs : List (ℕ × ℕ)) → AtMost p r → IsLeast p rs → IsLeast p (insert_rank r rs)
least_insert p r [] h l = (h, tt)
least_insert p r (s ∷ ss) h l = elim (cases_Bool (nat_le r.0 s.0)) [
  | inl e ↦ subst (λ v. IsLeast p (if v then r ∷ s ∷ ss else s ∷ insert_rank r ss)) (sym e) (h, l)
  | inr e ↦ subst (λ v. IsLeast p (if v then r ∷ s ∷ ss else s ∷ insert_rank r ss)) (sym e) (l.0, least_insert p r ss h l.1)
]

-- all places are later
abbrev IsLater : ℕ → List (ℕ × ℕ) → Type 0
IsLater n [] = ⊤
IsLater n (r ∷ rs) = (n ≤ r.1) × IsLater n rs

later_insert : (n : ℕ) (r : ℕ × ℕ) (rs : List (ℕ × ℕ)) → n ≤ r.1 → IsLater n rs → IsLater n (insert_rank r rs)
later_insert n r [] h l = (h, tt)
later_insert n r (s ∷ ss) h l = elim (cases_Bool (nat_le r.0 s.0)) [
  | inl e ↦ subst (λ v. IsLater n (if v then r ∷ s ∷ ss else s ∷ insert_rank r ss)) (sym e) (h, l)
  | inr e ↦ subst (λ v. IsLater n (if v then r ∷ s ∷ ss else s ∷ insert_rank r ss)) (sym e) (l.0, later_insert n r ss h l.1)
]

later_weaker : (m n : ℕ) (rs : List (ℕ × ℕ)) → m ≤ n → IsLater n rs → IsLater m rs
later_weaker m n [] h l = tt
later_weaker m n (r ∷ rs) h l = (omega (arith, l.0), later_weaker m n rs h l.1)

ascending_insert : (r : ℕ × ℕ) (rs : List (ℕ × ℕ)) → IsLater r.1 rs → IsAscending rs → IsAscending (insert_rank r rs)
ascending_insert r [] l h = (tt, tt)
ascending_insert r (s ∷ ss) l h = elim (cases_Bool (nat_le r.0 s.0)) [
  | inl e ↦
      let first : AtMost r s = elim (cases_lt r.0 s.0) [ inl a ↦ inl a | inr a ↦ inr (grind (arith, nat_tests), l.0) ] in
      subst (λ v. IsAscending (if v then r ∷ s ∷ ss else s ∷ insert_rank r ss)) (sym e) ((first, least_under r s ss first h.0), h)
  | inr e ↦
      let first : AtMost s r = inl (grind (arith, nat_tests)) in
      subst (λ v. IsAscending (if v then r ∷ s ∷ ss else s ∷ insert_rank r ss)) (sym e) (least_insert s r ss first h.0, ascending_insert r ss l.1 h.1)
]

later_ranks : (n : ℕ) (cs : List CandidateMV) → IsLater n (sort_ranks (ranks_from n cs))
later_ranks n [] = tt
later_ranks n (c ∷ cs) = later_insert n _ (sort_ranks (ranks_from (suc n) cs)) (omega arith) (later_weaker n (suc n) (sort_ranks (ranks_from (suc n) cs)) (omega arith) (later_ranks (suc n) cs))

pub ascending-sort : (n : ℕ) (cs : List CandidateMV) → IsAscending (sort_ranks (ranks_from n cs))
ascending-sort n [] = tt
ascending-sort n (c ∷ cs) = ascending_insert _ (sort_ranks (ranks_from (suc n) cs)) (later_weaker n (suc n) (sort_ranks (ranks_from (suc n) cs)) (omega arith) (later_ranks (suc n) cs)) (ascending-sort (suc n) cs)

-- ranks of the candidates of a list
abbrev IsRankIn : List CandidateMV → ℕ × ℕ → Type 0
IsRankIn xs r = r.0 + (candidate_at xs r).weight ≡ 4294967295

abbrev AreRanksIn : List CandidateMV → List (ℕ × ℕ) → Type 0
AreRanksIn xs [] = ⊤
AreRanksIn xs (r ∷ rs) = IsRankIn xs r × AreRanksIn xs rs

are_ranks_insert : (xs : List CandidateMV) (r : ℕ × ℕ) (rs : List (ℕ × ℕ)) → IsRankIn xs r → AreRanksIn xs rs → AreRanksIn xs (insert_rank r rs)
are_ranks_insert xs r [] h l = (h, tt)
are_ranks_insert xs r (s ∷ ss) h l = elim (cases_Bool (nat_le r.0 s.0)) [
  | inl e ↦ subst (λ v. AreRanksIn xs (if v then r ∷ s ∷ ss else s ∷ insert_rank r ss)) (sym e) (h, l)
  | inr e ↦ subst (λ v. AreRanksIn xs (if v then r ∷ s ∷ ss else s ∷ insert_rank r ss)) (sym e) (l.0, are_ranks_insert xs r ss h l.1)
]

are_ranks_sort : (xs : List CandidateMV) (rs : List (ℕ × ℕ)) → AreRanksIn xs rs → AreRanksIn xs (sort_ranks rs)
are_ranks_sort xs [] h = tt
are_ranks_sort xs (r ∷ rs) h = are_ranks_insert xs r (sort_ranks rs) h.0 (are_ranks_sort xs rs h.1)

turned_round : (a b m n : ℕ) → a + m ≡ 4294967295 → b + n ≡ 4294967295 → nat_le a b ≡ nat_le n m
turned_round a b m n h l = elim (cases_lt b a) [
  | inl k ↦ grind (arith, nat_tests)
  | inr k ↦ grind (arith, nat_tests)
]

map_insert : (xs : List CandidateMV) (r : ℕ × ℕ) (rs : List (ℕ × ℕ)) → IsRankIn xs r → AreRanksIn xs rs → map (candidate_at xs) (insert_rank r rs) ≡ insert_by_weight (candidate_at xs r) (map (candidate_at xs) rs)
map_insert xs r [] h l = refl
map_insert xs r (s ∷ ss) h l =
    let c = candidate_at xs r in
    let d = candidate_at xs s in
    let t = turned_round r.0 s.0 c.weight d.weight h l.0 in
    elim (cases_Bool (nat_le r.0 s.0)) [
      | inl e ↦ ap (λ v. map (candidate_at xs) (if v then r ∷ s ∷ ss else s ∷ insert_rank r ss)) e
          ∙ ap (λ v. if v then c ∷ d ∷ map (candidate_at xs) ss else d ∷ insert_by_weight c (map (candidate_at xs) ss)) (sym e ∙ t)
      | inr e ↦ ap (λ v. map (candidate_at xs) (if v then r ∷ s ∷ ss else s ∷ insert_rank r ss)) e
          ∙ ap (λ ys. d ∷ ys) (map_insert xs r ss h l.1)
          ∙ ap (λ v. if v then c ∷ d ∷ map (candidate_at xs) ss else d ∷ insert_by_weight c (map (candidate_at xs) ss)) (sym e ∙ t)
    ]

map_sort : (xs : List CandidateMV) (rs : List (ℕ × ℕ)) → AreRanksIn xs rs → map (candidate_at xs) (sort_ranks rs) ≡ by_weight (map (candidate_at xs) rs)
map_sort xs [] h = refl
map_sort xs (r ∷ rs) h = map_insert xs r (sort_ranks rs) h.0 (are_ranks_sort xs rs h.1) ∙ ap (insert_by_weight (candidate_at xs r)) (map_sort xs rs h.1)

abbrev zero_candidate : CandidateMV
zero_candidate = record { this_mv = no_vector; comp_mv = no_vector; weight = 0 }

ranks_of : (xs ys : List CandidateMV) (n : ℕ) → ((k : ℕ) → k < length ys → get_or xs (n + k) zero_candidate ≡ get_or ys k zero_candidate) → heaviest ys ≤ 4294967295 →
    (map (candidate_at xs) (ranks_from n ys) ≡ ys) × AreRanksIn xs (ranks_from n ys)
ranks_of xs [] n f h = (refl, tt)
ranks_of xs (y ∷ ys) n f h =
    let first : get_or xs n zero_candidate ≡ y = ap (λ k. get_or xs k zero_candidate) (omega arith) ∙ f 0 (omega arith) in
    let rest = ranks_of xs ys (suc n) (λ k l. ap (λ j. get_or xs j zero_candidate) (omega arith) ∙ f (suc k) (omega arith)) (omega arith) in
    let w = ap (λ (c : CandidateMV). c.weight) first in
    (ap (λ c. c ∷ map (candidate_at xs) (ranks_from (suc n) ys)) first ∙ ap (λ zs. y ∷ zs) rest.0, (omega (arith, w), rest.1))

-- sorted by rank
pub sorted-ranks : (xs : List CandidateMV) (ps : List (ℕ × ℕ)) → heaviest xs ≤ 4294967295 → ((f : ℕ × ℕ → ℕ) → sum_by f ps ≡ sum_by f (ranks_from 0 xs)) → IsAscending ps →
    map (candidate_at xs) ps ≡ by_weight xs
sorted-ranks xs ps h s a =
    let all = ranks_of xs xs 0 (λ k l. ap (λ j. get_or xs j zero_candidate) (omega arith)) h in
    ap (map (candidate_at xs)) (same-ascending ps (sort_ranks (ranks_from 0 xs)) (λ f. s f ∙ sym (sum_sort f (ranks_from 0 xs))) a (ascending-sort 0 xs))
    ∙ map_sort xs (ranks_from 0 xs) all.1 ∙ ap by_weight all.0

-- ranks by their places
pub length-ranks : (n : ℕ) (cs : List CandidateMV) → length (ranks_from n cs) ≡ length cs
length-ranks n [] = refl
length-ranks n (c ∷ cs) = ap suc (length-ranks (suc n) cs)

pub ranks-take : (n k : ℕ) (cs : List CandidateMV) (d : CandidateMV) → k < length cs → ranks_from n (take (suc k) cs) ≡ ranks_from n (take k cs) ++ (4294967295 - (get_or cs k d).weight, n + k) ∷ []
ranks-take n k [] d h = absurd (omega arith)
ranks-take n zero (c ∷ cs) d h = ap (λ m. (4294967295 - c.weight, m) ∷ []) (omega arith)
ranks-take n (suc k) (c ∷ cs) d h =
    ap (λ rs. (4294967295 - c.weight, n) ∷ rs) (ranks-take (suc n) k cs d (omega arith) ∙ ap (λ m. ranks_from (suc n) (take k cs) ++ (4294967295 - (get_or cs k d).weight, m) ∷ []) (omega arith))

pub place-of-rank : (n : ℕ) (cs : List CandidateMV) (k : ℕ) (d : ℕ × ℕ) → k < length (ranks_from n cs) → (get_or (ranks_from n cs) k d).1 < n + length cs
place-of-rank n [] k d h = absurd (omega arith)
place-of-rank n (c ∷ cs) zero d h = omega arith
place-of-rank n (c ∷ cs) (suc k) d h = let rest = place-of-rank (suc n) cs k d (omega arith) in omega arith

-- what a sort leaves
not_first : (x y : Bool) (o : Ordering) → x ≡ true → is_lt (ordering_then (cond x Less (cond y Equal Greater)) o) ≡ false → ⊥
not_first true y o e h = cc
not_first false y o e h = cc

not_second : (x y z : Bool) (o : Ordering) → x ≡ false → y ≡ true → z ≡ true → is_lt (ordering_then (cond x Less (cond y Equal Greater)) (cond z Less o)) ≡ false → ⊥
not_second true y z o e f g h = cc
not_second false true true o e f g h = cc
not_second false true false o e f g h = cc
not_second false false z o e f g h = cc

pub at_most-from_cmp : (a b m n : ℕ) → is_lt (ordering_then (nat_cmp a b) (nat_cmp m n)) ≡ false → (b < a) ⊎ ((b ≡ a) × (n ≤ m))
at_most-from_cmp a b m n h = elim (cases_lt b a) [
  | inl k ↦ inl k
  | inr k ↦ elim (cases_eq a b) [
    | inl e ↦ elim (cases_lt m n) [
      | inl l ↦ absurd (not_second (nat_lt a b) (a == b) (nat_lt m n) _ (grind (arith, nat_tests)) (grind (arith, nat_tests)) (grind (arith, nat_tests)) h)
      | inr l ↦ inr (sym e, l)
    ]
    | inr o ↦ absurd (not_first (nat_lt a b) (a == b) _ (grind (arith, nat_tests)) h)
  ]
]

ascending_step : (r s : ℕ × ℕ) (ss : List (ℕ × ℕ)) → AtMost r s → IsAscending (s ∷ ss) → IsAscending (r ∷ s ∷ ss)
ascending_step r s ss h l = ((h, least_under r s ss h l.0), l)

pub ascending-from_sorted : (rs : List (ℕ × ℕ)) → ((k : ℕ) (d : ℕ × ℕ) → 0 ≤ k → k + 1 < length rs → is_lt (ordering_then (nat_cmp (get_or rs (k + 1) d).0 (get_or rs k d).0) (nat_cmp (get_or rs (k + 1) d).1 (get_or rs k d).1)) ≡ false) → IsAscending rs
ascending-from_sorted [] f = tt
ascending-from_sorted (r ∷ []) f = (tt, tt)
ascending-from_sorted (r ∷ s ∷ ss) f =
    let first = at_most-from_cmp s.0 r.0 s.1 r.1 (f 0 r (omega arith) (omega arith)) in
    ascending_step r s ss first (ascending-from_sorted (s ∷ ss) (λ k d z l. subst (λ j. is_lt (ordering_then (nat_cmp (get_or (r ∷ s ∷ ss) j d).0 (get_or (s ∷ ss) k d).0) (nat_cmp (get_or (r ∷ s ∷ ss) j d).1 (get_or (s ∷ ss) k d).1)) ≡ false) {x = suc k + 1} {y = suc (k + 1)} (omega arith) (f (suc k) d (omega arith) (omega arith))))
