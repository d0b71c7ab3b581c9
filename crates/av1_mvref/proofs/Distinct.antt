-- The distinct ones of a list, under a test that is an equivalence.
use Rattle.std.proofs.Common.{◌≡◌, ℕ, zero, suc, ◌+◌, List, [], ◌∷◌, ◌++◌, Bool, true, false, not, ◌||◌, cond, take, map, append-nil, refl, sym, ap, ◌∙◌, arith, if◌then◌else◌, subst, inl, inr}
use Rattle.std.specs.Prelude.{filter, ⊤}
use Rattle.std.specs.List.{list_any}
use Rattle.std.proofs.lemmas.Bool.{cases_Bool}
use Rattle.std.proofs.lemmas.List.Elements.{filter-append}
use Rattle.av1_mvref.specs.declared.candidate.CandidateMV.{CandidateMV}
use Rattle.av1_mvref.specs.Candidates.{same, distinct}
use Rattle.av1_mvref.specs.Noted.{noted}
use Rattle.av1_mvref.proofs.Same.{same_equiv}

abbrev pub without : CandidateMV → List CandidateMV → List CandidateMV
without x ds = filter (λ d. not (same x d)) ds

abbrev pub with_seen : CandidateMV → List CandidateMV → List CandidateMV
with_seen c ds = if list_any (same c) ds then ds else ds ++ c ∷ []

pub at_true : {A : Type 0} (b : Bool) (x y : A) → b ≡ true → (if b then x else y) ≡ x
at_true b x y h = ap (λ (v : Bool). if v then x else y) h

pub at_false : {A : Type 0} (b : Bool) (x y : A) → b ≡ false → (if b then x else y) ≡ y
at_false b x y h = ap (λ (v : Bool). if v then x else y) h

-- of two that are not the same, one that is the same as the second is not the same as the first
apart_from : (x c d : CandidateMV) → same c x ≡ false → same x d ≡ true → same c d ≡ false
apart_from x c d h e = same_equiv.symm c d ∙ sym (same_equiv.congr x d c e) ∙ same_equiv.symm x c ∙ h

any_without : (x c : CandidateMV) (ds : List CandidateMV) → same c x ≡ false → list_any (same c) (without x ds) ≡ list_any (same c) ds
any_without x c [] h = refl
any_without x c (d ∷ ds) h =
    let rest = any_without x c ds h in
    elim (cases_Bool (same x d)) [
      | inl e ↦
          let gone : without x (d ∷ ds) ≡ without x ds = ap (λ v. cond (not v) (d ∷ without x ds) (without x ds)) e in
          ap (list_any (same c)) gone ∙ rest ∙ ap (λ v. v || list_any (same c) ds) (sym (apart_from x c d h e))
      | inr e ↦
          let stays : without x (d ∷ ds) ≡ d ∷ without x ds = ap (λ v. cond (not v) (d ∷ without x ds) (without x ds)) e in
          ap (list_any (same c)) stays ∙ ap (λ v. same c d || v) rest
    ]

pub any_distinct : (c : CandidateMV) (xs : List CandidateMV) → list_any (same c) (distinct xs) ≡ list_any (same c) xs
any_distinct c [] = refl
any_distinct c (x ∷ xs) =
    elim (cases_Bool (same c x)) [
      | inl e ↦ ap (λ v. v || list_any (same c) (without x (distinct xs))) e ∙ ap (λ v. v || list_any (same c) xs) (sym e)
      | inr e ↦ ap (λ v. same c x || v) (any_without x c (distinct xs) e ∙ any_distinct c xs)
    ]

without_push_same : (x c : CandidateMV) (ds : List CandidateMV) → same x c ≡ true → without x (ds ++ c ∷ []) ≡ without x ds
without_push_same x c ds e =
    let none : without x (c ∷ []) ≡ [] = ap (λ v. cond (not v) (c ∷ []) []) e in
    filter-append (λ d. not (same x d)) ds (c ∷ []) ∙ ap (λ ys. without x ds ++ ys) none ∙ append-nil (without x ds)

without_push : (x c : CandidateMV) (ds : List CandidateMV) → same x c ≡ false → without x (ds ++ c ∷ []) ≡ without x ds ++ c ∷ []
without_push x c ds e =
    let one : without x (c ∷ []) ≡ c ∷ [] = ap (λ v. cond (not v) (c ∷ []) []) e in
    filter-append (λ d. not (same x d)) ds (c ∷ []) ∙ ap (λ ys. without x ds ++ ys) one

-- one more that is seen
pub distinct-push : (c : CandidateMV) (xs : List CandidateMV) → distinct (xs ++ c ∷ []) ≡ with_seen c (distinct xs)
distinct-push c [] = refl
distinct-push c (x ∷ xs) =
    let ds = distinct xs in
    let rest = ap (λ ys. x ∷ without x ys) (distinct-push c xs) in
    elim (cases_Bool (same c x)) [
      | inl e ↦
          let f : same x c ≡ true = same_equiv.symm x c ∙ e in
          let there : list_any (same c) (x ∷ without x ds) ≡ true = ap (λ v. v || list_any (same c) (without x ds)) e in
          let same_rest : without x (with_seen c ds) ≡ without x ds = elim (cases_Bool (list_any (same c) ds)) [
            | inl i ↦ ap (without x) (at_true (list_any (same c) ds) ds (ds ++ c ∷ []) i)
            | inr i ↦ ap (without x) (at_false (list_any (same c) ds) ds (ds ++ c ∷ []) i) ∙ without_push_same x c ds f
          ] in
          rest ∙ ap (λ ys. x ∷ ys) same_rest ∙ sym (at_true (list_any (same c) (x ∷ without x ds)) (x ∷ without x ds) ((x ∷ without x ds) ++ c ∷ []) there)
      | inr e ↦
          let f : same x c ≡ false = same_equiv.symm x c ∙ e in
          let there : list_any (same c) (x ∷ without x ds) ≡ list_any (same c) ds = ap (λ v. v || list_any (same c) (without x ds)) e ∙ any_without x c ds e in
          elim (cases_Bool (list_any (same c) ds)) [
            | inl i ↦ rest ∙ ap (λ ys. x ∷ without x ys) (at_true (list_any (same c) ds) ds (ds ++ c ∷ []) i)
                ∙ sym (at_true (list_any (same c) (x ∷ without x ds)) (x ∷ without x ds) ((x ∷ without x ds) ++ c ∷ []) (there ∙ i))
            | inr i ↦ rest ∙ ap (λ ys. x ∷ without x ys) (at_false (list_any (same c) ds) ds (ds ++ c ∷ []) i) ∙ ap (λ ys. x ∷ ys) (without_push x c ds f)
                ∙ sym (at_false (list_any (same c) (x ∷ without x ds)) (x ∷ without x ds) ((x ∷ without x ds) ++ c ∷ []) (there ∙ i))
          ]
    ]

-- no two are the same
abbrev pub IsApart : List CandidateMV → Type 0
IsApart [] = ⊤
IsApart (d ∷ ds) = (list_any (same d) ds ≡ false) × IsApart ds

pub or_left : (a b : Bool) → (a || b) ≡ false → a ≡ false
or_left true b h = h
or_left false b h = refl

pub or_right : (a b : Bool) → (a || b) ≡ false → b ≡ false
or_right true b h = cc
or_right false b h = h

any_gone : (x : CandidateMV) (ds : List CandidateMV) → list_any (same x) (without x ds) ≡ false
any_gone x [] = refl
any_gone x (d ∷ ds) = elim (cases_Bool (same x d)) [
  | inl e ↦ ap (list_any (same x)) (ap (λ v. cond (not v) (d ∷ without x ds) (without x ds)) e) ∙ any_gone x ds
  | inr e ↦
      ap (list_any (same x)) (ap (λ v. cond (not v) (d ∷ without x ds) (without x ds)) e)
      ∙ ap (λ v. v || list_any (same x) (without x ds)) e ∙ any_gone x ds
]

any_fewer : (x c : CandidateMV) (ds : List CandidateMV) → list_any (same c) ds ≡ false → list_any (same c) (without x ds) ≡ false
any_fewer x c [] h = refl
any_fewer x c (d ∷ ds) h =
    let rest = any_fewer x c ds (or_right (same c d) (list_any (same c) ds) h) in
    elim (cases_Bool (same x d)) [
      | inl e ↦ ap (list_any (same c)) (ap (λ v. cond (not v) (d ∷ without x ds) (without x ds)) e) ∙ rest
      | inr e ↦
          ap (list_any (same c)) (ap (λ v. cond (not v) (d ∷ without x ds) (without x ds)) e)
          ∙ ap (λ v. v || list_any (same c) (without x ds)) (or_left (same c d) (list_any (same c) ds) h) ∙ rest
    ]

apart_without : (x : CandidateMV) (ds : List CandidateMV) → IsApart ds → IsApart (without x ds)
apart_without x [] h = tt
apart_without x (d ∷ ds) h =
    let rest = apart_without x ds h.1 in
    elim (cases_Bool (same x d)) [
      | inl e ↦ subst IsApart (sym (ap (λ v. cond (not v) (d ∷ without x ds) (without x ds)) e)) rest
      | inr e ↦ subst IsApart (sym (ap (λ v. cond (not v) (d ∷ without x ds) (without x ds)) e)) (any_fewer x d ds h.0, rest)
    ]

pub apart-distinct : (xs : List CandidateMV) → IsApart (distinct xs)
apart-distinct [] = tt
apart-distinct (x ∷ xs) = (any_gone x (distinct xs), apart_without x (distinct xs) (apart-distinct xs))

-- weights
abbrev pub weigh : (CandidateMV → ℕ) → CandidateMV → CandidateMV
weigh w d = record d { weight = w d }

abbrev pub more : CandidateMV → (CandidateMV → ℕ) → CandidateMV → ℕ
more c w d = w d + (if same d c then c.weight else 0)

no_more : (c d : CandidateMV) (w : CandidateMV → ℕ) → same c d ≡ false → w d ≡ more c w d
no_more c d w e = sym (ap (λ n. w d + n) (at_false (same d c) c.weight 0 (same_equiv.symm d c ∙ e)) ∙ omega arith)

unweighed : (m : ℕ) (ds : List CandidateMV) (c : CandidateMV) (w : CandidateMV → ℕ) → list_any (same c) ds ≡ false →
    map (weigh w) (take m ds) ≡ map (weigh (more c w)) (take m ds)
unweighed zero ds c w h = refl
unweighed (suc m) [] c w h = refl
unweighed (suc m) (d ∷ ds) c w h =
    let first = no_more c d w (or_left (same c d) (list_any (same c) ds) h) in
    let rest = unweighed m ds c w (or_right (same c d) (list_any (same c) ds) h) in
    ap (λ (n : ℕ). record d { weight = n } ∷ map (weigh w) (take m ds)) first ∙ ap (λ ys. weigh (more c w) d ∷ ys) rest

with_seen_later : (c d : CandidateMV) (ds : List CandidateMV) → same c d ≡ false → with_seen c (d ∷ ds) ≡ d ∷ with_seen c ds
with_seen_later c d ds e = elim (cases_Bool (list_any (same c) ds)) [
  | inl i ↦ at_true (list_any (same c) (d ∷ ds)) (d ∷ ds) (d ∷ (ds ++ c ∷ [])) (ap (λ v. v || list_any (same c) ds) e ∙ i) ∙ ap (λ ys. d ∷ ys) (sym (at_true (list_any (same c) ds) ds (ds ++ c ∷ []) i))
  | inr i ↦ at_false (list_any (same c) (d ∷ ds)) (d ∷ ds) (d ∷ (ds ++ c ∷ [])) (ap (λ v. v || list_any (same c) ds) e ∙ i) ∙ ap (λ ys. d ∷ ys) (sym (at_false (list_any (same c) ds) ds (ds ++ c ∷ []) i))
]

take_none : (m : ℕ) → take {A = CandidateMV} m [] ≡ []
take_none zero = refl
take_none (suc m) = refl

any_same : (c d : CandidateMV) (ds : List CandidateMV) → same c d ≡ true → list_any (same c) ds ≡ list_any (same d) ds
any_same c d [] e = refl
any_same c d (x ∷ xs) e = ap (λ v. v || list_any (same c) xs) (same_equiv.congr c d x e) ∙ ap (λ v. same d x || v) (any_same c d xs e)

pub noted_weighed : (n : ℕ) (ds : List CandidateMV) (c : CandidateMV) (w : CandidateMV → ℕ) → IsApart ds → (list_any (same c) ds ≡ false → w c ≡ 0) →
    noted n (map (weigh w) (take n ds)) c ≡ map (weigh (more c w)) (take n (with_seen c ds))
noted_weighed zero ds c w h z = refl
noted_weighed (suc n) [] c w h z =
    let own : c.weight ≡ more c w c = sym (ap (λ m. m + (if same c c then c.weight else 0)) (z refl) ∙ ap (λ m. 0 + m) (at_true (same c c) c.weight 0 (same_equiv.refl c)) ∙ omega arith) in
    ap (λ (m : ℕ). record c { weight = m } ∷ []) own ∙ ap (λ ys. weigh (more c w) c ∷ map (weigh (more c w)) ys) (sym (take_none n))
noted_weighed (suc n) (d ∷ ds) c w h z = elim (cases_Bool (same c d)) [
  | inl e ↦
      let others : list_any (same c) ds ≡ false = any_same c d ds e ∙ h.0 in
      let own : w d + c.weight ≡ more c w d = ap (λ m. w d + m) (sym (at_true (same d c) c.weight 0 (same_equiv.symm d c ∙ e))) in
      at_true (same c d) _ _ e
      ∙ ap (λ (m : ℕ). record d { weight = m } ∷ map (weigh w) (take n ds)) own
      ∙ ap (λ ys. weigh (more c w) d ∷ ys) (unweighed n ds c w others)
      ∙ ap (λ ys. map (weigh (more c w)) (take (suc n) ys)) (sym (at_true (list_any (same c) (d ∷ ds)) (d ∷ ds) (d ∷ (ds ++ c ∷ [])) (ap (λ v. v || list_any (same c) ds) e)))
  | inr e ↦
      let rest = noted_weighed n ds c w h.1 (λ i. z (ap (λ v. v || list_any (same c) ds) e ∙ i)) in
      at_false (same c d) _ _ e
      ∙ ap (λ (m : ℕ). record d { weight = m } ∷ noted n (map (weigh w) (take n ds)) c) (no_more c d w e)
      ∙ ap (λ ys. weigh (more c w) d ∷ ys) rest
      ∙ ap (λ ys. map (weigh (more c w)) (take (suc n) ys)) (sym (with_seen_later c d ds e))
]
