-- The list while neighbours are visited is that of the entries so far.
use Rattle.std.proofs.Common.{◌≡◌, ℕ, zero, suc, ◌+◌, List, [], ◌∷◌, ◌++◌, Bool, true, false, ◌||◌, take, map, append-nil, append_assoc, refl, sym, ap, ◌∙◌, arith, if◌then◌else◌}
use Rattle.std.specs.Prelude.{flat_map, ⊤, fold, not, cond}
use Rattle.std.specs.List.{list_any}
use Rattle.std.proofs.Common.{subst, inl, inr}
use Rattle.std.proofs.lemmas.Bool.{cases_Bool}
use Rattle.std.proofs.lemmas.Grind.{flat_map-append}
use Rattle.std.proofs.lemmas.List.Folds.{list_any-append}
use Rattle.std.proofs.lemmas.List.Sums.{sum_by_push, sum_by-cons}
use Rattle.av1_mvref.specs.declared.candidate.CandidateMV.{CandidateMV}
use Rattle.av1_mvref.specs.declared.candidate.Wanted.{Wanted}
use Rattle.av1_mvref.specs.Neighbours.{Neighbour}
use Rattle.av1_mvref.specs.Candidates.{same, given, distinct, total_weight, entries, near_bonus}
use Rattle.av1_mvref.specs.Noted.{noted, took_all, nearer}
use Rattle.av1_mvref.proofs.Same.{same_equiv}
use Rattle.av1_mvref.proofs.Distinct.{at_true, at_false, or_left, or_right, without, any_distinct, distinct-push, apart-distinct, weigh, more, noted_weighed}

total-none : (c : CandidateMV) (xs : List CandidateMV) → list_any (same c) xs ≡ false → total_weight xs c ≡ 0
total-none c [] h = refl
total-none c (x ∷ xs) h =
    let rest = total-none c xs (or_right (same c x) (list_any (same c) xs) h) in
    let first = at_false (same c x) x.weight 0 (or_left (same c x) (list_any (same c) xs) h) in
    sum_by-cons (λ d. if same c d then d.weight else 0) x xs ∙ omega (arith, first, rest)

map_weigh : (v w : CandidateMV → ℕ) (xs : List CandidateMV) → ((d : CandidateMV) → v d ≡ w d) → map (weigh v) xs ≡ map (weigh w) xs
map_weigh v w [] e = refl
map_weigh v w (x ∷ xs) e = ap (λ (n : ℕ). record x { weight = n } ∷ map (weigh v) xs) (e x) ∙ ap (λ ys. weigh w x ∷ ys) (map_weigh v w xs e)

-- one more that is seen
pub entries-push : (bonus : CandidateMV → ℕ) (seen : List CandidateMV) (c : CandidateMV) → (list_any (same c) seen ≡ false → bonus c ≡ 0) →
    noted 8 (entries bonus seen) c ≡ entries bonus (seen ++ c ∷ [])
entries-push bonus seen c z =
    let w = λ (d : CandidateMV). total_weight seen d + bonus d in
    let nothing = λ (i : list_any (same c) (distinct seen) ≡ false).
    let j = sym (any_distinct c seen) ∙ i in
    let a = total-none c seen j in
    let b = z j in
    let both : w c ≡ 0 = omega (arith, a, b) in both in
    noted_weighed 8 (distinct seen) c w (apart-distinct seen) nothing
    ∙ ap (λ ds. map (weigh (more c w)) (take 8 ds)) (sym (distinct-push c seen))
    ∙ map_weigh (more c w) (λ d. total_weight (seen ++ c ∷ []) d + bonus d) (take 8 (distinct (seen ++ c ∷ [])))
    (λ d. let s = sum_by_push (λ e. if same d e then e.weight else 0) seen c in omega (arith, s))

-- more that are seen
pub entries-fold : (bonus : CandidateMV → ℕ) (cs seen : List CandidateMV) → ((c : CandidateMV) → list_any (same c) seen ≡ false → bonus c ≡ 0) →
    fold (noted 8) (entries bonus seen) cs ≡ entries bonus (seen ++ cs)
entries-fold bonus [] seen z = ap (entries bonus) (sym (append-nil seen))
entries-fold bonus (c ∷ cs) seen z =
    ap (λ xs. fold (noted 8) xs cs) (entries-push bonus seen c (z c))
    ∙ entries-fold bonus cs (seen ++ c ∷ []) (λ d i. z d (or_left (list_any (same d) seen) (list_any (same d) (c ∷ [])) (sym (list_any-append (same d) seen (c ∷ [])) ∙ i)))
    ∙ ap (entries bonus) (append_assoc seen (c ∷ []) cs)

-- more neighbours
pub entries-took : (w : Wanted) (bonus : CandidateMV → ℕ) (ns : List Neighbour) (seen : List CandidateMV) → ((c : CandidateMV) → list_any (same c) seen ≡ false → bonus c ≡ 0) →
    took_all w (entries bonus seen) ns ≡ entries bonus (seen ++ flat_map (given w) ns)
entries-took w bonus [] seen z = ap (entries bonus) (sym (append-nil seen))
entries-took w bonus (n ∷ ns) seen z =
    ap (λ xs. took_all w xs ns) (entries-fold bonus (given w n) seen z)
    ∙ entries-took w bonus ns (seen ++ given w n) (λ d i. z d (or_left (list_any (same d) seen) (list_any (same d) (given w n)) (sym (list_any-append (same d) seen (given w n)) ∙ i)))
    ∙ ap (entries bonus) (append_assoc seen (given w n) (flat_map (given w) ns))

-- the bonus
abbrev IsSeen : List CandidateMV → List CandidateMV → Type 0
IsSeen xs [] = ⊤
IsSeen xs (d ∷ ds) = (list_any (same d) xs ≡ true) × IsSeen xs ds

or_later : (a b : Bool) → b ≡ true → (a || b) ≡ true
or_later true b h = refl
or_later false b h = h

seen_without : (x : CandidateMV) (xs ds : List CandidateMV) → IsSeen xs ds → IsSeen (x ∷ xs) (without x ds)
seen_without x xs [] h = tt
seen_without x xs (d ∷ ds) h =
    let rest = seen_without x xs ds h.1 in
    elim (cases_Bool (same x d)) [
      | inl e ↦ subst (IsSeen (x ∷ xs)) (sym (ap (λ v. cond (not v) (d ∷ without x ds) (without x ds)) e)) rest
      | inr e ↦ subst (IsSeen (x ∷ xs)) (sym (ap (λ v. cond (not v) (d ∷ without x ds) (without x ds)) e)) (or_later (same d x) (list_any (same d) xs) h.0, rest)
    ]

seen-distinct : (xs : List CandidateMV) → IsSeen xs (distinct xs)
seen-distinct [] = tt
seen-distinct (x ∷ xs) = (ap (λ v. v || list_any (same x) xs) (same_equiv.refl x), seen_without x xs (distinct xs) (seen-distinct xs))

bonus_of : (near : List CandidateMV) (n : ℕ) (ds : List CandidateMV) → IsSeen near ds →
    map nearer (map (weigh (λ d. total_weight near d + 0)) (take n ds)) ≡ map (weigh (λ d. total_weight near d + near_bonus near d)) (take n ds)
bonus_of near zero ds h = refl
bonus_of near (suc n) [] h = refl
bonus_of near (suc n) (d ∷ ds) h =
    let rest = bonus_of near n ds h.1 in
    let own : total_weight near d + 0 + 640 ≡ total_weight near d + near_bonus near d = ap (λ m. m + 640) (omega arith) ∙ ap (λ m. total_weight near d + m) (sym (at_true (list_any (same d) near) 640 0 h.0)) in
    ap (λ (m : ℕ). record d { weight = m } ∷ map nearer (map (weigh (λ e. total_weight near e + 0)) (take n ds))) own
    ∙ ap (λ ys. weigh (λ e. total_weight near e + near_bonus near e) d ∷ ys) rest

-- those that near neighbours gave, with their bonus
pub entries-nearer : (near : List CandidateMV) → map nearer (entries (λ c. 0) near) ≡ entries (near_bonus near) near
entries-nearer near = bonus_of near 8 (distinct near) (seen-distinct near)

-- near neighbours, their bonus, and those further out
pub list-of-all : (w : Wanted) (near far : List Neighbour) →
    took_all w (map nearer (took_all w [] near)) far ≡ entries (near_bonus (flat_map (given w) near)) (flat_map (given w) (near ++ far))
list-of-all w near far =
    let g = flat_map (given w) near in
    let first : took_all w [] near ≡ entries (λ c. 0) g = entries-took w (λ c. 0) near [] (λ c h. refl) in
    ap (λ xs. took_all w (map nearer xs) far) first
    ∙ ap (λ xs. took_all w xs far) (entries-nearer g)
    ∙ entries-took w (near_bonus g) far g (λ c h. at_false (list_any (same c) g) 640 0 h)
    ∙ ap (entries (near_bonus g)) (sym (flat_map-append (given w) near far))
