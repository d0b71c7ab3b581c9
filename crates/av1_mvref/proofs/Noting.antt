-- What noting a candidate comes to.
use Rattle.std.proofs.Common.{◌≡◌, ℕ, zero, suc, ◌+◌, ◌<◌, ◌≤◌, List, [], ◌∷◌, ◌++◌, Bool, true, false, length, get_or, set, refl, ap, ◌∙◌, arith, if◌then◌else◌}
use Rattle.av1_mvref.specs.declared.candidate.CandidateMV.{CandidateMV}
use Rattle.std.specs.Prelude.{fold, map, ◌&&◌, ◌*◌}
use Rattle.std.proofs.lemmas.List.Sums.{fold-append}
use Rattle.av1_mvref.specs.declared.candidate.Wanted.{Wanted}
use Rattle.av1_mvref.specs.Neighbours.{Neighbour}
use Rattle.av1_mvref.specs.Candidates.{same, same_ref, ref_of, vector_of, pair_of, given}
use Rattle.av1_blocks.specs.Block.{is_inter}
use Rattle.av1_mvref.specs.Noted.{noted, took, heaviest, nearer}

abbrev pub heavier : CandidateMV → CandidateMV → CandidateMV
heavier c d = record d { weight = d.weight + c.weight }

at_true : {A : Type 0} (b : Bool) (x y : A) → b ≡ true → (if b then x else y) ≡ x
at_true b x y h = ap (λ (v : Bool). if v then x else y) h

at_false : {A : Type 0} (b : Bool) (x y : A) → b ≡ false → (if b then x else y) ≡ y
at_false b x y h = ap (λ (v : Bool). if v then x else y) h

-- one that is there
pub noted-there : (n : ℕ) (xs : List CandidateMV) (k : ℕ) (c e : CandidateMV) → k < length xs → length xs ≤ n →
    ((j : ℕ) → j < k → same c (get_or xs j e) ≡ false) → same c (get_or xs k e) ≡ true →
    noted n xs c ≡ set xs k (heavier c (get_or xs k e))
noted-there n [] k c e h l f t = absurd (omega arith)
noted-there zero (d ∷ ds) k c e h l f t = absurd (omega arith)
noted-there (suc n) (d ∷ ds) zero c e h l f t = at_true (same c d) _ _ t
noted-there (suc n) (d ∷ ds) (suc k) c e h l f t =
    at_false (same c d) _ _ (f 0 (omega arith))
    ∙ ap (λ ys. d ∷ ys) (noted-there n ds k c e (omega arith) (omega arith) (λ j i. f (suc j) (omega arith)) t)

-- one that is not, while there is room
pub noted-room : (n : ℕ) (xs : List CandidateMV) (c e : CandidateMV) → length xs < n → ((j : ℕ) → j < length xs → same c (get_or xs j e) ≡ false) → noted n xs c ≡ xs ++ c ∷ []
noted-room zero xs c e l f = absurd (omega arith)
noted-room (suc n) [] c e l f = refl
noted-room (suc n) (d ∷ ds) c e l f =
    at_false (same c d) _ _ (f 0 (omega arith)) ∙ ap (λ ys. d ∷ ys) (noted-room n ds c e (omega arith) (λ j i. f (suc j) (omega arith)))

-- one that is not, while there is none
pub noted-full : (n : ℕ) (xs : List CandidateMV) (c e : CandidateMV) → length xs ≡ n → ((j : ℕ) → j < length xs → same c (get_or xs j e) ≡ false) → noted n xs c ≡ xs
noted-full zero [] c e l f = refl
noted-full zero (d ∷ ds) c e l f = refl
noted-full (suc n) [] c e l f = absurd (omega arith)
noted-full (suc n) (d ∷ ds) c e l f =
    at_false (same c d) _ _ (f 0 (omega arith)) ∙ ap (λ ys. d ∷ ys) (noted-full n ds c e (omega arith) (λ j i. f (suc j) (omega arith)))

heaviest_if : (b : Bool) (c d : CandidateMV) (ds es : List CandidateMV) → heaviest es ≤ heaviest ds + c.weight →
    heaviest (if b then heavier c d ∷ ds else d ∷ es) ≤ heaviest (d ∷ ds) + c.weight
heaviest_if true c d ds es h = omega arith
heaviest_if false c d ds es h = omega arith

pub heaviest-noted : (n : ℕ) (xs : List CandidateMV) (c : CandidateMV) → heaviest (noted n xs c) ≤ heaviest xs + c.weight
heaviest-noted zero [] c = omega arith
heaviest-noted (suc n) [] c = omega arith
heaviest-noted zero (d ∷ ds) c = omega arith
heaviest-noted (suc n) (d ∷ ds) c = heaviest_if (same c d) c d ds (noted n ds c) (heaviest-noted n ds c)

length_if : (b : Bool) (n : ℕ) (c d : CandidateMV) (ds es : List CandidateMV) → length ds ≤ n → length es ≤ n → length (if b then heavier c d ∷ ds else d ∷ es) ≤ suc n
length_if true n c d ds es h l = omega arith
length_if false n c d ds es h l = omega arith

pub length-noted : (n : ℕ) (xs : List CandidateMV) (c : CandidateMV) → length xs ≤ n → length (noted n xs c) ≤ n
length-noted zero [] c h = omega arith
length-noted (suc n) [] c h = omega arith
length-noted zero (d ∷ ds) c h = absurd (omega arith)
length-noted (suc n) (d ∷ ds) c h = length_if (same c d) n c d ds (noted n ds c) (omega arith) (length-noted n ds c (omega arith))

-- a weight that is there
pub heaviest-at : (xs : List CandidateMV) (k : ℕ) (d : CandidateMV) → k < length xs → (get_or xs k d).weight ≤ heaviest xs
heaviest-at [] k d h = absurd (omega arith)
heaviest-at (x ∷ xs) zero d h = omega arith
heaviest-at (x ∷ xs) (suc k) d h = let rest = heaviest-at xs k d (omega arith) in omega arith

pub length-fold : (cs xs : List CandidateMV) → length xs ≤ 8 → length (fold (noted 8) xs cs) ≤ 8
length-fold [] xs h = h
length-fold (c ∷ cs) xs h = length-fold cs (noted 8 xs c) (length-noted 8 xs c h)

heaviest_at_most : (b : Bool) (xs : List CandidateMV) (c : CandidateMV) → heaviest (fold (noted 8) xs (if b then c ∷ [] else [])) ≤ heaviest xs + c.weight
heaviest_at_most true xs c = heaviest-noted 8 xs c
heaviest_at_most false xs c = omega arith

pub heaviest-vector : (w : Wanted) (n : Neighbour) (i : ℕ) (xs : List CandidateMV) → heaviest (fold (noted 8) xs (vector_of w n i)) ≤ heaviest xs + n.weight
heaviest-vector w n i xs = heaviest_at_most (same_ref (ref_of n.block i) w.first) xs _

pub heaviest-pair : (w : Wanted) (n : Neighbour) (xs : List CandidateMV) → heaviest (fold (noted 8) xs (pair_of w n)) ≤ heaviest xs + n.weight
heaviest-pair w n xs = heaviest_at_most (same_ref (ref_of n.block 0) w.first && same_ref (ref_of n.block 1) w.second) xs _

heaviest_both : (xs cs ds : List CandidateMV) (k : ℕ) → ((ys : List CandidateMV) → heaviest (fold (noted 8) ys cs) ≤ heaviest ys + k) → ((ys : List CandidateMV) → heaviest (fold (noted 8) ys ds) ≤ heaviest ys + k) →
    heaviest (fold (noted 8) xs (cs ++ ds)) ≤ heaviest xs + 2 * k
heaviest_both xs cs ds k f g =
    let first = f xs in
    let second = g (fold (noted 8) xs cs) in
    rw (fold-append (noted 8) xs cs ds) (omega arith)

heaviest_given : (b c : Bool) (xs ps cs ds : List CandidateMV) (k : ℕ) → ((ys : List CandidateMV) → heaviest (fold (noted 8) ys ps) ≤ heaviest ys + k) → ((ys : List CandidateMV) → heaviest (fold (noted 8) ys cs) ≤ heaviest ys + k) → ((ys : List CandidateMV) → heaviest (fold (noted 8) ys ds) ≤ heaviest ys + k) →
    heaviest (fold (noted 8) xs (if b then (if c then ps else cs ++ ds) else [])) ≤ heaviest xs + 2 * k
heaviest_given false c xs ps cs ds k e f g = omega arith
heaviest_given true true xs ps cs ds k e f g = let one = e xs in omega arith
heaviest_given true false xs ps cs ds k e f g = heaviest_both xs cs ds k f g

-- one neighbour
pub heaviest-took : (w : Wanted) (n : Neighbour) (xs : List CandidateMV) → heaviest (took w xs n) ≤ heaviest xs + 2 * n.weight
heaviest-took w n xs = heaviest_given (is_inter n.block) w.is_compound xs (pair_of w n) (vector_of w n 0) (vector_of w n 1) n.weight (heaviest-pair w n) (heaviest-vector w n 0) (heaviest-vector w n 1)

pub length-took : (w : Wanted) (n : Neighbour) (xs : List CandidateMV) → length xs ≤ 8 → length (took w xs n) ≤ 8
length-took w n xs h = length-fold (given w n) xs h

-- with the bonus
pub heaviest-nearer : (xs : List CandidateMV) → heaviest (map nearer xs) ≤ heaviest xs + 640
heaviest-nearer [] = omega arith
heaviest-nearer (x ∷ xs) = let rest = heaviest-nearer xs in omega arith
