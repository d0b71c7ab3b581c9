-- The candidates of a block are made of the vectors of the blocks around it, so they are valid where those are; and what the context of its mode comes to.
use Rattle.std.proofs.Common.{ℕ, zero, suc, ◌+◌, ◌-◌, ◌*◌, ◌/◌, ◌%◌, ◌<◌, ◌≤◌, ◌<ℤ◌, ◌≤ℤ◌, ℤ, pos, negsuc, neg_ℤ, min, List, [], ◌∷◌, ◌++◌, Bool, true, false, length, get_or, map, take, not, ◌&&◌, nat_eq, nat_le, nat_lt, if◌then◌else◌, inl, inr, sym, subst, arith}
use Rattle.std.specs.Prelude.{filter, flat_map, fold}
use Rattle.std.specs.List.{All, list_any}
use Rattle.std.specs.Int.{int_max, int_min}
use Rattle.std.proofs.lemmas.Bool.{cases_lt}
use Rattle.std.proofs.lemmas.Int.{ints, int_max_is, int_min_is}
use Rattle.std.proofs.lemmas.List.{get_or_past}
use Rattle.std.proofs.lemmas.List.Concat.{flat_map-cons}
use Rattle.std.proofs.lemmas.List.Elements.{All-append, All-cons, All-filter, All-head, All-map, All-nil, All-same, All-tail, All-take}
use Rattle.av1_blocks.specs.declared.block.Block.{Block}
use Rattle.av1_blocks.specs.Block.{is_inter}
use Rattle.av1_blocks.specs.Grid.{Grid, block_at, place_in_frame}
use Rattle.av1_geometry.specs.BlockSize.{width_mi, height_mi}
use Rattle.av1_geometry.specs.MotionVector.{IsValid}
use Rattle.av1_geometry.specs.RefType.{reference_number}
use Rattle.av1_geometry.specs.declared.block_offset.BlockOffset.{BlockOffset}
use Rattle.av1_geometry.specs.declared.block_size.BlockSize.{BlockSize}
use Rattle.av1_geometry.specs.declared.constants.TheConstants.{MV_LOW, MV_UPP}
use Rattle.av1_geometry.specs.declared.motion_vector.MotionVector.{MotionVector}
use Rattle.av1_geometry.specs.declared.ref_type.RefType.{RefType}
use Rattle.av1_mvref.specs.declared.candidate.CandidateMV.{CandidateMV}
use Rattle.av1_mvref.specs.Candidates.{no_vector, same, same_mv, same_ref, ref_of, mv_of, vector_of, pair_of, given, distinct, entries, insert_by_weight, by_weight, kept_near, clamped_mv, clamped, sides, matches_of, either}
use Rattle.av1_mvref.specs.ExtraSearch.{Referred, searched_along, searched, is_frame, referred_in, referred, same_side, turned, with_mv, with_vector, with_block, to_same, to_others, vectors_to, pair_at, with_pairs, with_both, searched_extra, completed, scanned, wanted_of, found, candidates}
use Rattle.av1_mvref.specs.Neighbours.{Neighbour, Edge, reach, shown, blocks_along, begins, at_distance, steps, line, line_after, neighbour, corner, top_right, top_left, second, row_and_column, near_neighbours, far_neighbours}
use Rattle.av1_step.specs.Kept.{AreCandidates}

-- a block's vectors are valid
abbrev pub HasVectors : Block → Type 0
HasVectors b = IsValid (mv_of b 0) × IsValid (mv_of b 1)

abbrev HasBlock : Neighbour → Type 0
HasBlock n = HasVectors n.block

abbrev IsCandidate : CandidateMV → Type 0
IsCandidate c = IsValid c.this_mv × IsValid c.comp_mv

abbrev AreAll : List CandidateMV → Type 0
AreAll cs = All IsCandidate cs

abbrev Refers : Referred → Type 0
Refers v = IsValid v.mv

-- what holds of both cases of a choice holds of the choice
of_choice : {A : Type 0} (P : A → Type 0) (b : Bool) (x y : A) → P x → P y → P (if b then x else y)
of_choice P true x y h g = h
of_choice P false x y h g = g

-- what holds of each element of a list, and of the default, holds of what stands at a place
of_place : {A : Type 0} (P : A → Type 0) (xs : List A) (i : ℕ) (d : A) → All P xs → P d → P (get_or xs i d)
of_place P xs i d h g = elim (cases_lt i (length xs)) [ inl l ↦ h i d l | inr m ↦ subst P (sym (get_or_past xs i d m)) g ]

of_flat : {A B : Type 0} (P : A → Type 0) (Q : B → Type 0) (f : A → List B) → ((x : A) → P x → All Q (f x)) → (xs : List A) → All P xs → All Q (flat_map f xs)
of_flat P Q f each [] h = All-nil Q
of_flat P Q f each (x ∷ xs) h = All-same Q _ _ (flat_map-cons f x xs) (All-append Q (f x) (flat_map f xs) (each x (All-head P x xs h)) (of_flat P Q f each xs (All-tail P x xs h)))

of_fold : {A B : Type 0} (P : A → Type 0) (Q : B → Type 0) (f : B → A → B) → ((y : B) (x : A) → Q y → P x → Q (f y x)) → (xs : List A) → All P xs → (y : B) → Q y → Q (fold f y xs)
of_fold P Q f each [] h y g = g
of_fold P Q f each (x ∷ xs) h y g = of_fold P Q f each xs (All-tail P x xs h) (f y x) (each y x g (All-head P x xs h))

of_one : {A : Type 0} (P : A → Type 0) (x : A) → P x → All P (x ∷ [])
of_one P x h = All-cons P x [] h (All-nil P)

of_one_where : {A : Type 0} (P : A → Type 0) (b : Bool) (x : A) → P x → All P (if b then x ∷ [] else [])
of_one_where P b x h = of_choice (All P) b (x ∷ []) [] (of_one P x h) (All-nil P)

pub none_valid : IsValid no_vector
none_valid = (omega arith, omega arith, omega arith, omega arith)

-- a part that stays near the frame stays between the bounds
kept_within : (low high v : ℤ) → low ≤ℤ pos 0 → pos 0 ≤ℤ high → negsuc 16383 <ℤ v → v <ℤ pos 16384 → (negsuc 16383 <ℤ int_max low (int_min high v)) × (int_max low (int_min high v) <ℤ pos 16384)
kept_within low high v l h above below =
    let least = int_min_is high v in
    let most = int_max_is low (int_min high v) in
    (omega (arith, ints, l, h, above, below, least, most), omega (arith, ints, l, h, above, below, least, most))

near_valid : (place side end : ℕ) (v : ℤ) → MV_LOW <ℤ v → v <ℤ MV_UPP → (MV_LOW <ℤ kept_near place side end v) × (kept_near place side end v <ℤ MV_UPP)
near_valid place side end v above below = kept_within (neg_ℤ (pos (32 * (place + side) + 128))) (pos (32 * (end - place) + 128)) v (omega (arith, ints)) (omega (arith, ints)) above below

mv_near : (g : Grid) (bo : BlockOffset) (size : BlockSize) (mv : MotionVector) → IsValid mv → IsValid (clamped_mv g bo size mv)
mv_near g bo size mv h =
    let at = place_in_frame g bo in
    let row = near_valid at.y (height_mi size) g.frame.all_rows mv.row h.0 h.1 in
    let col = near_valid at.x (width_mi size) g.frame.all_cols mv.col h.2 h.3 in
    (row.0, row.1, col.0, col.1)

-- a vector that is turned round
neg_valid : (v : ℤ) → MV_LOW <ℤ v → v <ℤ MV_UPP → (MV_LOW <ℤ neg_ℤ v) × (neg_ℤ v <ℤ MV_UPP)
neg_valid v l u = (omega (arith, ints, l, u), omega (arith, ints, l, u))

turned_valid : (sign_bias : List Bool) (to : RefType) (v : Referred) → Refers v → IsValid (turned sign_bias to v)
turned_valid sign_bias to v h =
    let row = neg_valid v.mv.row h.0 h.1 in
    let col = neg_valid v.mv.col h.2 h.3 in
    of_choice IsValid (same_side sign_bias v.ref to) v.mv record { row = neg_ℤ v.mv.row; col = neg_ℤ v.mv.col } h (row.0, row.1, col.0, col.1)

-- what a neighbour gives
gives_one : (w : _) (n : Neighbour) (i : ℕ) → IsValid (mv_of n.block i) → AreAll (vector_of w n i)
gives_one w n i h = of_one_where IsCandidate (same_ref (ref_of n.block i) w.first) _ (h, none_valid)

gives_valid : (w : _) (n : Neighbour) → HasBlock n → AreAll (given w n)
gives_valid w n h =
    of_choice AreAll (is_inter n.block) (if w.is_compound then pair_of w n else vector_of w n 0 ++ vector_of w n 1) []
    (of_choice AreAll w.is_compound (pair_of w n) (vector_of w n 0 ++ vector_of w n 1) (of_one_where IsCandidate (same_ref (ref_of n.block 0) w.first && same_ref (ref_of n.block 1) w.second) _ h)
    (All-append IsCandidate (vector_of w n 0) (vector_of w n 1) (gives_one w n 0 h.0) (gives_one w n 1 h.1)))
    (All-nil IsCandidate)

-- the list that is made of it
distinct_valid : (cs : List CandidateMV) → AreAll cs → AreAll (distinct cs)
distinct_valid [] h = h
distinct_valid (c ∷ cs) h = All-cons IsCandidate c _ (All-head IsCandidate c cs h) (All-filter (λ d. not (same c d)) IsCandidate (distinct cs) (distinct_valid cs (All-tail IsCandidate c cs h)))

entries_valid : (bonus : CandidateMV → ℕ) (seen : List CandidateMV) → AreAll seen → AreAll (entries bonus seen)
entries_valid bonus seen h = All-map IsCandidate _ (take 8 (distinct seen)) (All-take IsCandidate 8 (distinct seen) (distinct_valid seen h))

insert_valid : (c : CandidateMV) (ds : List CandidateMV) → IsCandidate c → AreAll ds → AreAll (insert_by_weight c ds)
insert_valid c [] h g = of_one IsCandidate c h
insert_valid c (d ∷ ds) h g =
    of_choice AreAll (nat_le d.weight c.weight) (c ∷ d ∷ ds) (d ∷ insert_by_weight c ds) (All-cons IsCandidate c (d ∷ ds) h g)
    (All-cons IsCandidate d _ (All-head IsCandidate d ds g) (insert_valid c ds h (All-tail IsCandidate d ds g)))

sorted_valid : (cs : List CandidateMV) → AreAll cs → AreAll (by_weight cs)
sorted_valid [] h = h
sorted_valid (c ∷ cs) h = insert_valid c (by_weight cs) (All-head IsCandidate c cs h) (sorted_valid cs (All-tail IsCandidate c cs h))

scanned_valid : (w : _) (near far : List Neighbour) → All HasBlock near → All HasBlock far → AreAll (scanned w near far)
unfolding scanned
scanned_valid w near far h g = sorted_valid _ (entries_valid _ _ (of_flat HasBlock IsCandidate (given w) (gives_valid w) (near ++ far) (All-append HasBlock near far h g)))

-- what the extra search adds
referred_valid : (b : Block) → HasVectors b → All Refers (referred b)
referred_valid b h = All-append Refers (referred_in b 0) (referred_in b 1) (of_one_where Refers (is_frame (ref_of b 0)) _ h.0) (of_one_where Refers (is_frame (ref_of b 1)) _ h.1)

with_mv_valid : (list : List CandidateMV) (mv : MotionVector) → AreAll list → IsValid mv → AreAll (with_mv list mv)
with_mv_valid list mv h g = of_choice AreAll (list_any (λ c. same_mv c.this_mv mv) list) list _ h (All-append IsCandidate list _ h (of_one IsCandidate _ (g, none_valid)))

with_block_valid : (sign_bias : List Bool) (to : RefType) (list : List CandidateMV) (b : Block) → AreAll list → HasVectors b → AreAll (with_block sign_bias to list b)
with_block_valid sign_bias to list b h g =
    of_choice AreAll (nat_lt (length list) 2) (fold (with_vector sign_bias to) list (referred b)) list
    (of_fold Refers AreAll (with_vector sign_bias to) (λ l v k r. with_mv_valid l (turned sign_bias to v) k (turned_valid sign_bias to v r)) (referred b) (referred_valid b g) list h) h

vectors_valid : (sign_bias : List Bool) (to : RefType) (vs : List Referred) → All Refers vs → All IsValid (vectors_to sign_bias to vs)
vectors_valid sign_bias to vs h =
    All-append IsValid (to_same to vs) (to_others sign_bias to vs) (All-map IsValid (λ v. v.mv) (filter (λ v. same_ref v.ref to) vs) (All-filter (λ v. same_ref v.ref to) Refers vs h))
    (All-map IsValid (turned sign_bias to) (filter (λ v. not (same_ref v.ref to)) vs) (λ k d l. turned_valid sign_bias to _ (All-filter (λ v. not (same_ref v.ref to)) Refers vs h k d l)))

pairs_valid : (p q : CandidateMV) (list : List CandidateMV) → IsCandidate p → IsCandidate q → AreAll list → AreAll (with_pairs p q list)
pairs_valid p q [] h g l = All-cons IsCandidate p (q ∷ []) h (of_one IsCandidate q g)
pairs_valid p q (c ∷ cs) h g l = All-cons IsCandidate c ((if same c p then q else p) ∷ []) (All-head IsCandidate c cs l) (of_one IsCandidate (if same c p then q else p) (of_choice IsCandidate (same c p) q p g h))

both_valid : (sign_bias : List Bool) (w : _) (blocks : List Block) (list : List CandidateMV) → All HasVectors blocks → AreAll list → AreAll (with_both sign_bias w blocks list)
both_valid sign_bias w blocks list h g =
    let vs = flat_map referred blocks in
    let all = of_flat HasVectors Refers referred referred_valid blocks h in
    let us = vectors_valid sign_bias w.first vs all in
    let ws = vectors_valid sign_bias w.second vs all in
    let pair : (i : ℕ) → IsCandidate (pair_at (vectors_to sign_bias w.first vs) (vectors_to sign_bias w.second vs) i) = λ i. (of_place IsValid _ i no_vector us none_valid, of_place IsValid _ i no_vector ws none_valid) in
    pairs_valid _ _ list (pair 0) (pair 1) g

completed_valid : (sign_bias : List Bool) (w : _) (blocks : List Block) (list : List CandidateMV) → All HasVectors blocks → AreAll list → AreAll (completed sign_bias w blocks list)
completed_valid sign_bias w blocks list h g =
    of_choice AreAll (nat_lt (length list) 2) (searched_extra sign_bias w blocks list) list
    (of_choice AreAll w.is_compound (with_both sign_bias w blocks list) (fold (with_block sign_bias w.first) list blocks) (both_valid sign_bias w blocks list h g)
    (of_fold HasVectors AreAll (with_block sign_bias w.first) (with_block_valid sign_bias w.first) blocks h list g)) g

along_has : (at : ℕ → Block) (long : Block → ℕ) → ((i : ℕ) → HasVectors (at i)) → (n end i : ℕ) → All HasVectors (blocks_along at long n end i)
unfolding blocks_along
along_has at long h zero end i = All-nil HasVectors
along_has at long h (suc n) end i =
    of_choice (All HasVectors) (nat_lt i end) (at i ∷ blocks_along at long n end (i + long (at i))) [] (All-cons HasVectors (at i) _ (h i) (along_has at long h n end (i + long (at i)))) (All-nil HasVectors)

-- the blocks along an edge
abbrev AreAlong : Edge → Type 0
AreAlong e = (x y : ℕ) → HasVectors (e.block x y)

line_has : (e : Edge) → AreAlong e → (n d : ℕ) → All HasBlock (map (neighbour e d) (line_after e n d))
line_has e h n d =
    All-map HasBlock (neighbour e d) (line_after e n d)
    (of_choice (All HasVectors) (nat_le d (reach e) && nat_lt n d) (line e d) [] (along_has (at_distance e d) (steps e d) (λ i. h (e.x + begins e.side e.x d + i) (e.y - d)) 16 (shown e) 0) (All-nil HasVectors))

around_has : (u l : Edge) → AreAlong u → AreAlong l → (row column rows_done columns_done : ℕ) → All HasBlock (row_and_column u l row column rows_done columns_done)
unfolding row_and_column
around_has u l h g row column rows_done columns_done = All-append HasBlock _ _ (line_has u h rows_done row) (line_has l g columns_done column)

searched_has : (e : Edge) → AreAlong e → (n : ℕ) → All HasVectors (searched_along e n)
searched_has e h n =
    of_choice (All HasVectors) (nat_lt 0 e.y) (blocks_along (at_distance e 1) e.side_of 16 n 0) [] (along_has (at_distance e 1) e.side_of (λ i. h (e.x + begins e.side e.x 1 + i) (e.y - 1)) 16 n 0) (All-nil HasVectors)

abbrev upper : Grid → BlockOffset → BlockSize → Edge
upper g bo size = record {
  is_above = true;
  side = width_mi size;
  depth = height_mi size;
  x = bo.x;
  y = bo.y;
  end = g.cols;
  block = λ x y. block_at g x y;
  side_of = λ b. b.n4_w;
  depth_of = λ b. b.n4_h;
}

abbrev left : Grid → BlockOffset → BlockSize → Edge
left g bo size = record {
  is_above = false;
  side = height_mi size;
  depth = width_mi size;
  x = bo.y;
  y = bo.x;
  end = g.rows;
  block = λ x y. block_at g y x;
  side_of = λ b. b.n4_h;
  depth_of = λ b. b.n4_w;
}

-- a grid of blocks with valid vectors
module _ (g : Grid) (has : (x y : ℕ) → HasVectors (block_at g x y)) (bo : BlockOffset) (size : BlockSize) where
  near_has : (has_tr : Bool) → All HasBlock (near_neighbours g bo size has_tr)
  unfolding near_neighbours
  near_has has_tr =
      All-append HasBlock _ (top_right g bo size has_tr) (around_has _ _ (λ x y. has x y) (λ x y. has y x) 1 1 0 0)
      (of_one_where HasBlock (has_tr && nat_lt 0 bo.y && nat_lt (bo.x + width_mi size) g.cols) (corner g (bo.x + width_mi size) (bo.y - 1)) (has (bo.x + width_mi size) (bo.y - 1)))

  far_has : All HasBlock (far_neighbours g bo size)
  unfolding far_neighbours
  far_has =
      All-append HasBlock _ _ (All-append HasBlock (top_left g bo) _ (of_one_where HasBlock (nat_lt 0 bo.x && nat_lt 0 bo.y) (corner g (bo.x - 1) (bo.y - 1)) (has (bo.x - 1) (bo.y - 1))) (around_has _ _ (λ x y. has x y) (λ x y. has y x) _ _ _ _))
      (around_has _ _ (λ x y. has x y) (λ x y. has y x) _ _ _ _)

  all_searched : All HasVectors (searched g bo size)
  all_searched =
      let u = upper g bo size in
      let l = left g bo size in
      let n = min (shown u) (shown l) in
      All-append HasVectors (searched_along u n) (searched_along l n) (searched_has u (λ x y. has x y) n) (searched_has l (λ x y. has y x) n)

  found_valid : (w : _) (has_tr : Bool) (sign_bias : List Bool) → AreAll (found g bo size w has_tr sign_bias).list
  unfolding found
  found_valid w has_tr sign_bias =
      All-map IsCandidate (clamped g bo size) _
      (λ k d l. let c = completed_valid sign_bias w (searched g bo size) _ all_searched (scanned_valid w (near_neighbours g bo size has_tr) (far_neighbours g bo size) (near_has has_tr) far_has) k d l in (mv_near g bo size _ c.0, mv_near g bo size _ c.1))

few_sides : (a b : Bool) → (if a then 1 else 0) + (if b then 1 else 0) ≤ 2
few_sides true true = omega arith
few_sides true false = omega arith
few_sides false true = omega arith
few_sides false false = omega arith

-- the context of a mode, by on how many sides near neighbours give something, and all
record IsContext (context : ℕ) : Type 0 where
  low : context % 16 ≤ 5
  high : context / 16 ≤ 5

context_by : (near all new : ℕ) → all ≤ 2 → new ≤ 1 → IsContext (if nat_eq near 0 then min all 1 + 16 * all else (if nat_eq near 1 then 3 - new + 16 * (2 + all) else 5 - new + 16 * 5))
context_by near all new h g =
    of_choice IsContext (nat_eq near 0) _ _ (record { low = omega (arith, h); high = omega (arith, h) })
    (of_choice IsContext (nat_eq near 1) _ _ (record { low = omega (arith, h, g); high = omega (arith, h, g) }) (record { low = omega (arith, g); high = omega (arith, g) }))

one_at_most : (b : Bool) → (if b then 1 else 0) ≤ 1
one_at_most true = omega arith
one_at_most false = omega arith

found_context : (g : Grid) (bo : BlockOffset) (size : BlockSize) (w : _) (has_tr : Bool) (sign_bias : List Bool) → IsContext (found g bo size w has_tr sign_bias).context
unfolding found
found_context g bo size w has_tr sign_bias =
    let near = matches_of w (near_neighbours g bo size has_tr) in
    let all = either near (matches_of w (far_neighbours g bo size)) in
    context_by (sides near) (sides all) (if near.new then 1 else 0) (few_sides all.above all.left) (one_at_most near.new)

-- the candidates of a block in a grid whose blocks have valid vectors
pub are_candidates : (g : Grid) → ((x y : ℕ) → HasVectors (block_at g x y)) → (bo : BlockOffset) (size : BlockSize) (refs : List RefType) (is_compound has_tr : Bool) (sign_bias : List Bool) → AreCandidates (candidates g bo size refs is_compound has_tr sign_bias)
unfolding candidates
are_candidates g has bo size refs is_compound has_tr sign_bias =
    let w = wanted_of refs is_compound in
    let list = found_valid g has bo size w has_tr sign_bias in
    let context = found_context g bo size w has_tr sign_bias in
    of_choice AreCandidates (nat_eq (reference_number w.first) 0) _ _ (record { vectors = λ i. (none_valid, none_valid); new_context = omega arith; ref_context = omega arith })
    (record { vectors = λ i. of_place IsCandidate _ i record { this_mv = no_vector; comp_mv = no_vector; weight = 0 } list (none_valid, none_valid); new_context = context.low; ref_context = context.high })
