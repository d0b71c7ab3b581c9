-- What is added where the neighbours give fewer than two candidates (AV1 specification, 7.10.2.12 and 7.10.2.13), and the
-- whole list.
use Rattle.std.specs.Prelude.{ℕ, ◌-◌, neg_ℤ, min, List, [], ◌∷◌, ◌++◌, Bool, false, ◌&&◌, not, nat_eq}
use Rattle.std.specs.Prelude.{nat_lt, fold, map, filter, flat_map, length, slice_index_or, if◌then◌else◌}
use Rattle.std.specs.List.{list_any}
use Rattle.av1_geometry.specs.declared.block_offset.BlockOffset.{BlockOffset}
use Rattle.av1_geometry.specs.declared.block_size.BlockSize.{BlockSize}
use Rattle.av1_geometry.specs.declared.motion_vector.MotionVector.{MotionVector}
use Rattle.av1_geometry.specs.declared.ref_type.RefType.{RefType}
use Rattle.av1_geometry.specs.declared.ref_type.RefType.TheVariants.{NONE_FRAME}
use Rattle.av1_geometry.specs.RefType.{reference_number}
use Rattle.av1_blocks.specs.declared.block.Block.{Block}
use Rattle.av1_blocks.specs.Grid.{Grid}
use Rattle.av1_mvref.specs.declared.candidate.CandidateMV.{CandidateMV}
use Rattle.av1_mvref.specs.declared.candidate.Wanted.{Wanted}
use Rattle.av1_mvref.specs.declared.edge.Direction.TheVariants.{Upper, Left}
use Rattle.av1_mvref.specs.Neighbours.{Neighbour, Edge, edge, shown, at_distance, blocks_along, near_neighbours, far_neighbours}
use Rattle.av1_mvref.specs.Candidates.{no_vector, same_mv, same, same_ref, ref_of, mv_of, given, entries, near_bonus, by_weight, clamped, context_of}

-- a vector with what it refers to
pub record Referred : Type 0 where
  pub ref : RefType
  pub mv : MotionVector

-- the blocks beside an edge, along so many places
abbrev pub blocks_beside : Edge → ℕ → List Block
blocks_beside e n = blocks_along (at_distance e 1) e.side_of 16 n 0

-- the blocks above and to the left that are searched, along so many places
abbrev pub searched_along : Edge → ℕ → List Block
searched_along e n = if nat_lt 0 e.y then blocks_beside e n else []

abbrev pub searched : Grid → BlockOffset → BlockSize → List Block
searched g bo size =
    let u = edge Upper g bo size in
    let l = edge Left g bo size in
    let n = min (shown u) (shown l) in
    searched_along u n ++ searched_along l n

-- a block's vectors to other frames
abbrev pub is_frame : RefType → Bool
is_frame r = nat_lt 0 (reference_number r) && nat_lt (reference_number r) 8

abbrev pub referred_in : Block → ℕ → List Referred
referred_in b i = if is_frame (ref_of b i) then record { ref = ref_of b i; mv = mv_of b i } ∷ [] else []

abbrev pub referred : Block → List Referred
referred b = referred_in b 0 ++ referred_in b 1

-- a vector towards another reference: turned round where that lies on the other side in time
abbrev pub bias_of : List Bool → RefType → Bool
bias_of sign_bias r = slice_index_or sign_bias (reference_number r - 1) false

abbrev pub same_side : List Bool → RefType → RefType → Bool
same_side sign_bias r s = if bias_of sign_bias r then bias_of sign_bias s else not (bias_of sign_bias s)

abbrev pub turned : List Bool → RefType → Referred → MotionVector
turned sign_bias to v =
    if same_side sign_bias v.ref to then v.mv else record { row = neg_ℤ v.mv.row; col = neg_ℤ v.mv.col }

-- one reference: block by block, until there are two candidates
abbrev pub with_mv : List CandidateMV → MotionVector → List CandidateMV
with_mv list mv =
    if list_any (λ c. same_mv c.this_mv mv) list then list else list ++ (record { this_mv = mv; comp_mv = no_vector; weight = 2 }) ∷ []

abbrev pub with_vector : List Bool → RefType → List CandidateMV → Referred → List CandidateMV
with_vector sign_bias to list v = with_mv list (turned sign_bias to v)

abbrev pub with_block : List Bool → RefType → List CandidateMV → Block → List CandidateMV
with_block sign_bias to list b = if nat_lt (length list) 2 then fold (with_vector sign_bias to) list (referred b) else list

-- two references: for each, the vectors that refer to it, and then the others
abbrev pub to_same : RefType → List Referred → List MotionVector
to_same to vs = map (λ v. v.mv) (filter (λ v. same_ref v.ref to) vs)

abbrev pub to_others : List Bool → RefType → List Referred → List MotionVector
to_others sign_bias to vs = map (turned sign_bias to) (filter (λ v. not (same_ref v.ref to)) vs)

abbrev pub vectors_to : List Bool → RefType → List Referred → List MotionVector
vectors_to sign_bias to vs = to_same to vs ++ to_others sign_bias to vs

abbrev pub pair_at : List MotionVector → List MotionVector → ℕ → CandidateMV
pair_at vs us i = record { this_mv = slice_index_or vs i no_vector; comp_mv = slice_index_or us i no_vector; weight = 2 }

abbrev pub with_pairs : CandidateMV → CandidateMV → List CandidateMV → List CandidateMV
with_pairs p q [] = p ∷ q ∷ []
with_pairs p q (c ∷ cs) = c ∷ (if same c p then q else p) ∷ []

abbrev pub with_both : List Bool → Wanted → List Block → List CandidateMV → List CandidateMV
with_both sign_bias w blocks list =
    let vs = flat_map referred blocks in
    let us = vectors_to sign_bias w.first vs in
    let ws = vectors_to sign_bias w.second vs in
    with_pairs (pair_at us ws 0) (pair_at us ws 1) list

abbrev pub searched_extra : List Bool → Wanted → List Block → List CandidateMV → List CandidateMV
searched_extra sign_bias w blocks list =
    if w.is_compound then with_both sign_bias w blocks list else fold (with_block sign_bias w.first) list blocks

abbrev pub completed : List Bool → Wanted → List Block → List CandidateMV → List CandidateMV
completed sign_bias w blocks list = if nat_lt (length list) 2 then searched_extra sign_bias w blocks list else list

-- what the neighbours give, by falling weight
unfoldable pub scanned : Wanted → List Neighbour → List Neighbour → List CandidateMV
scanned w near far = by_weight (entries (near_bonus (flat_map (given w) near)) (flat_map (given w) (near ++ far)))

-- what is looked for: the first reference, or both
abbrev pub wanted_of : List RefType → Bool → Wanted
wanted_of refs is_compound = record {
  first = slice_index_or refs 0 NONE_FRAME;
  second = slice_index_or refs 1 NONE_FRAME;
  is_compound = is_compound;
}

-- the candidates of a block, and the context of its mode
pub record Candidates : Type 0 where
  pub list : List CandidateMV
  pub context : ℕ

unfoldable pub found : Grid → BlockOffset → BlockSize → Wanted → Bool → List Bool → Candidates
found g bo size w has_tr sign_bias =
    let near = near_neighbours g bo size has_tr in
    let far = far_neighbours g bo size in
    let seen = scanned w near far in
    record {
      list = map (clamped g bo size) (completed sign_bias w (searched g bo size) seen);
      context = context_of w near far;
    }

-- none where the block refers to its own frame
unfoldable pub candidates : Grid → BlockOffset → BlockSize → List RefType → Bool → Bool → List Bool → Candidates
candidates g bo size refs is_compound has_tr sign_bias =
    let w = wanted_of refs is_compound in
    if nat_eq (reference_number w.first) 0 then record { list = []; context = 0 } else found g bo size w has_tr sign_bias
