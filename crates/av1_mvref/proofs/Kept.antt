-- The first of several vectors, kept as they come.
use Rattle.std.proofs.Common.{◌≡◌, ℕ, Bool, true, false, pos, zero, suc, ◌+◌, ◌<◌, ◌≤◌, List, [], ◌∷◌, ◌++◌, length, take, get_or, map, append-nil, append_assoc, refl, sym, ap, ◌∙◌, arith, if◌then◌else◌}
use Rattle.std.specs.Prelude.{fold, filter, flat_map, not}
use Rattle.std.proofs.lemmas.List.{take_all, take_more, map-append, get_or-take}
use Rattle.std.proofs.lemmas.List.Elements.{filter-append}
use Rattle.av1_geometry.specs.declared.motion_vector.MotionVector.{MotionVector}
use Rattle.av1_geometry.specs.declared.ref_type.RefType.{RefType}
use Rattle.av1_blocks.specs.declared.block.Block.{Block}
use Rattle.av1_mvref.specs.declared.candidate.CandidateMV.{CandidateMV}
use Rattle.av1_mvref.specs.Candidates.{same, same_ref}
use Rattle.av1_mvref.specs.ExtraSearch.{Referred, referred, turned, to_same, to_others, with_pairs, pair_at}
use Rattle.av1_mvref.specs.Noted.{kept_same, kept_others}

-- what comes after the first ones is cut later
pub take_front : {A : Type 0} (n : ℕ) (xs ys : List A) → take n (take n xs ++ ys) ≡ take n (xs ++ ys)
take_front zero [] ys = refl
take_front zero (x ∷ xs) ys = refl
take_front (suc n) [] ys = refl
take_front (suc n) (x ∷ xs) ys = ap (λ zs. x ∷ zs) (take_front n xs ys)

take_cut : {A : Type 0} (n m : ℕ) (ys : List A) → n ≤ m → take n (take m ys) ≡ take n ys
take_cut zero zero [] h = refl
take_cut zero (suc m) [] h = refl
take_cut zero zero (y ∷ ys) h = refl
take_cut zero (suc m) (y ∷ ys) h = refl
take_cut (suc n) zero [] h = absurd (omega arith)
take_cut (suc n) zero (y ∷ ys) h = absurd (omega arith)
take_cut (suc n) (suc m) [] h = refl
take_cut (suc n) (suc m) (y ∷ ys) h = ap (λ zs. y ∷ zs) (take_cut n m ys (omega arith))

pub take_back : {A : Type 0} (n m : ℕ) (xs ys : List A) → n ≤ m → take n (xs ++ take m ys) ≡ take n (xs ++ ys)
take_back n m [] ys h = take_cut n m ys h
take_back zero m (x ∷ xs) ys h = refl
take_back (suc n) m (x ∷ xs) ys h = ap (λ zs. x ∷ zs) (take_back n m xs ys (omega arith))

pub length_two : {A : Type 0} (xs : List A) → length (take 2 xs) ≤ 2
length_two [] = omega arith
length_two (x ∷ []) = omega arith
length_two (x ∷ y ∷ xs) = omega arith

-- block by block
kept_all : (g : Block → List MotionVector) (bs : List Block) (xs : List MotionVector) → length xs ≤ 2 → fold (λ vs b. take 2 (vs ++ g b)) xs bs ≡ take 2 (xs ++ flat_map g bs)
kept_all g [] xs h = sym (ap (take 2) (append-nil xs) ∙ take_all 2 xs h)
kept_all g (b ∷ bs) xs h =
    kept_all g bs (take 2 (xs ++ g b)) (length_two (xs ++ g b))
    ∙ take_front 2 (xs ++ g b) (flat_map g bs)
    ∙ ap (take 2) (append_assoc xs (g b) (flat_map g bs))

same-append : (to : RefType) (vs ws : List Referred) → to_same to (vs ++ ws) ≡ to_same to vs ++ to_same to ws
same-append to vs ws = ap (map (λ v. v.mv)) (filter-append (λ v. same_ref v.ref to) vs ws) ∙ map-append (λ v. v.mv) _ _

others-append : (sign_bias : List Bool) (to : RefType) (vs ws : List Referred) → to_others sign_bias to (vs ++ ws) ≡ to_others sign_bias to vs ++ to_others sign_bias to ws
others-append sign_bias to vs ws = ap (map (turned sign_bias to)) (filter-append (λ v. not (same_ref v.ref to)) vs ws) ∙ map-append (turned sign_bias to) _ _

same-flat : (to : RefType) (bs : List Block) → flat_map (λ b. to_same to (referred b)) bs ≡ to_same to (flat_map referred bs)
same-flat to [] = refl
same-flat to (b ∷ bs) = ap (λ vs. to_same to (referred b) ++ vs) (same-flat to bs) ∙ sym (same-append to (referred b) (flat_map referred bs))

others-flat : (sign_bias : List Bool) (to : RefType) (bs : List Block) → flat_map (λ b. to_others sign_bias to (referred b)) bs ≡ to_others sign_bias to (flat_map referred bs)
others-flat sign_bias to [] = refl
others-flat sign_bias to (b ∷ bs) = ap (λ vs. to_others sign_bias to (referred b) ++ vs) (others-flat sign_bias to bs) ∙ sym (others-append sign_bias to (referred b) (flat_map referred bs))

pub kept_same-all : (to : RefType) (bs : List Block) → fold (kept_same to) [] bs ≡ take 2 (to_same to (flat_map referred bs))
kept_same-all to bs = kept_all (λ b. to_same to (referred b)) bs [] (omega arith) ∙ ap (take 2) (same-flat to bs)

pub kept_others-all : (sign_bias : List Bool) (to : RefType) (bs : List Block) → fold (kept_others sign_bias to) [] bs ≡ take 2 (to_others sign_bias to (flat_map referred bs))
kept_others-all sign_bias to bs = kept_all (λ b. to_others sign_bias to (referred b)) bs [] (omega arith) ∙ ap (take 2) (others-flat sign_bias to bs)

-- one after the other
pub kept-twice : (to : RefType) (xs : List MotionVector) (vs ws : List Referred) → take 2 (take 2 (xs ++ to_same to vs) ++ to_same to ws) ≡ take 2 (xs ++ to_same to (vs ++ ws))
kept-twice to xs vs ws = take_front 2 (xs ++ to_same to vs) (to_same to ws) ∙ ap (take 2) (append_assoc xs (to_same to vs) (to_same to ws) ∙ ap (λ ys. xs ++ ys) (sym (same-append to vs ws)))

pub kept_others-twice : (sign_bias : List Bool) (to : RefType) (xs : List MotionVector) (vs ws : List Referred) →
    take 2 (take 2 (xs ++ to_others sign_bias to vs) ++ to_others sign_bias to ws) ≡ take 2 (xs ++ to_others sign_bias to (vs ++ ws))
kept_others-twice sign_bias to xs vs ws =
    take_front 2 (xs ++ to_others sign_bias to vs) (to_others sign_bias to ws)
    ∙ ap (take 2) (append_assoc xs (to_others sign_bias to vs) (to_others sign_bias to ws) ∙ ap (λ ys. xs ++ ys) (sym (others-append sign_bias to vs ws)))

-- both together
pub kept-both : {A : Type 0} (xs ys : List A) → take 2 (take 2 xs ++ take 2 ys) ≡ take 2 (xs ++ ys)
kept-both xs ys = take_front 2 xs (take 2 ys) ∙ take_back 2 2 xs ys (omega arith)

-- only the first two count
pub pairs-take : (vs us : List MotionVector) (i : ℕ) → i < 2 → pair_at (take 2 vs) (take 2 us) i ≡ pair_at vs us i
pairs-take vs us i h =
    let z : MotionVector = record { row = pos 0; col = pos 0 } in
    ap (λ (m : MotionVector). let c : CandidateMV = record { this_mv = m; comp_mv = get_or (take 2 us) i z; weight = 2 } in c) (get_or-take 2 vs i z h)
    ∙ ap (λ (m : MotionVector). let c : CandidateMV = record { this_mv = get_or vs i z; comp_mv = m; weight = 2 } in c) (get_or-take 2 us i z h)

-- none of a list, and all of it
pub kept-none : (xs ys : List MotionVector) → length xs ≤ 2 → xs ≡ take 2 (xs ++ take 0 ys)
kept-none xs [] h = sym (ap (take 2) (append-nil xs) ∙ take_all 2 xs h)
kept-none xs (y ∷ ys) h = sym (ap (take 2) (append-nil xs) ∙ take_all 2 xs h)

pub kept-more : (xs ys : List MotionVector) (k : ℕ) (d : MotionVector) → k < length ys → take 2 (take 2 (xs ++ take k ys) ++ get_or ys k d ∷ []) ≡ take 2 (xs ++ take (k + 1) ys)
kept-more xs ys k d h =
    take_front 2 (xs ++ take k ys) (get_or ys k d ∷ [])
    ∙ ap (take 2) (append_assoc xs (take k ys) (get_or ys k d ∷ []) ∙ ap (λ zs. xs ++ zs) (sym (take_more ys k d h)))

-- the two pairs
pub with_pairs-none : (p q : CandidateMV) (xs : List CandidateMV) → length xs ≡ 0 → (xs ++ p ∷ []) ++ q ∷ [] ≡ with_pairs p q xs
with_pairs-none p q [] h = refl
with_pairs-none p q (x ∷ xs) h = absurd (omega arith)

pub with_pairs-one : (p q : CandidateMV) (b : Bool) (xs : List CandidateMV) (d : CandidateMV) → 0 < length xs → length xs < 2 → same (get_or xs 0 d) p ≡ b →
    xs ++ (if b then q else p) ∷ [] ≡ with_pairs p q xs
with_pairs-one p q b [] d h l e = absurd (omega arith)
with_pairs-one p q b (x ∷ []) d h l e = ap (λ (v : Bool). x ∷ (if v then q else p) ∷ []) (sym e)
with_pairs-one p q b (x ∷ y ∷ ys) d h l e = absurd (omega arith)

-- one vector that is picked, passed over or not there
pub picked : {A : Type 0} (f : Referred → A) (p : Referred → Bool) (b : Bool) (v : Referred) → b ≡ true → p v ≡ true → map f (filter p (if b then v ∷ [] else [])) ≡ f v ∷ []
picked f p b v h e = ap (λ (c : Bool). map f (filter p (if c then v ∷ [] else []))) h ∙ ap (λ (c : Bool). map f (if c then v ∷ [] else [])) e

pub passed : {A : Type 0} (f : Referred → A) (p : Referred → Bool) (b : Bool) (v : Referred) → b ≡ true → p v ≡ false → map f (filter p (if b then v ∷ [] else [])) ≡ []
passed f p b v h e = ap (λ (c : Bool). map f (filter p (if c then v ∷ [] else []))) h ∙ ap (λ (c : Bool). map f (if c then v ∷ [] else [])) e

pub absent : {A : Type 0} (f : Referred → A) (p : Referred → Bool) (b : Bool) (v : Referred) → b ≡ false → map f (filter p (if b then v ∷ [] else [])) ≡ []
absent f p b v h = ap (λ (c : Bool). map f (filter p (if c then v ∷ [] else []))) h

pub kept-nothing : (xs ys : List MotionVector) → ys ≡ [] → length xs ≤ 2 → xs ≡ take 2 (xs ++ ys)
kept-nothing xs ys e h = sym (ap (λ zs. take 2 (xs ++ zs)) e ∙ ap (take 2) (append-nil xs) ∙ take_all 2 xs h)
