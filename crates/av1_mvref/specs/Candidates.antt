-- The vector candidates of a block, and the context of its mode (AV1 specification, 7.10.2).
use Rattle.std.specs.Prelude.{ℕ, ◌+◌, ◌-◌, ◌*◌, ℤ, pos, neg_ℤ, min, List, [], ◌∷◌, ◌++◌, Bool, ◌&&◌, ◌||◌, not}
use Rattle.std.specs.Prelude.{nat_eq, nat_le, nat_lt, map, filter, sum_by, take, length, slice_index_or, if◌then◌else◌}
use Rattle.std.specs.List.{list_any}
use Rattle.std.specs.Int.{int_max, int_min}
use Rattle.std.specs.Ordering.{int_eq}
use Rattle.av1_geometry.specs.declared.block_offset.BlockOffset.{BlockOffset}
use Rattle.av1_geometry.specs.declared.block_size.BlockSize.{BlockSize}
use Rattle.av1_geometry.specs.declared.motion_vector.MotionVector.{MotionVector}
use Rattle.av1_geometry.specs.declared.ref_type.RefType.{RefType}
use Rattle.av1_geometry.specs.declared.ref_type.RefType.TheVariants.{NONE_FRAME}
use Rattle.av1_geometry.specs.BlockSize.{width_mi, height_mi}
use Rattle.av1_geometry.specs.PredictionMode.{has_newmv}
use Rattle.av1_geometry.specs.RefType.{reference_number}
use Rattle.av1_blocks.specs.declared.block.Block.{Block}
use Rattle.av1_blocks.specs.Block.{is_inter}
use Rattle.av1_blocks.specs.Grid.{Grid, place_in_frame}
use Rattle.av1_mvref.specs.declared.candidate.CandidateMV.{CandidateMV}
use Rattle.av1_mvref.specs.declared.candidate.Wanted.{Wanted}
use Rattle.av1_mvref.specs.declared.neighbours.Matches.{Matches}
use Rattle.av1_mvref.specs.Neighbours.{Neighbour}

abbrev pub no_vector : MotionVector
no_vector = record { row = pos 0; col = pos 0 }

abbrev pub same_mv : MotionVector → MotionVector → Bool
same_mv a b = int_eq a.row b.row && int_eq a.col b.col

abbrev pub same : CandidateMV → CandidateMV → Bool
same a b = same_mv a.this_mv b.this_mv && same_mv a.comp_mv b.comp_mv

-- a block's reference and vector of a list
abbrev pub ref_of : Block → ℕ → RefType
ref_of b i = slice_index_or b.ref_frames i NONE_FRAME

abbrev pub mv_of : Block → ℕ → MotionVector
mv_of b i = slice_index_or b.mv i no_vector

abbrev pub same_ref : RefType → RefType → Bool
same_ref a b = nat_eq (reference_number a) (reference_number b)

-- what a neighbour gives (7.10.2.7 to 7.10.2.9)
abbrev pub vector_of : Wanted → Neighbour → ℕ → List CandidateMV
vector_of w n i = if same_ref (ref_of n.block i) w.first then record { this_mv = mv_of n.block i; comp_mv = no_vector; weight = n.weight } ∷ [] else []

abbrev pub pair_of : Wanted → Neighbour → List CandidateMV
pair_of w n =
    if same_ref (ref_of n.block 0) w.first && same_ref (ref_of n.block 1) w.second
    then record { this_mv = mv_of n.block 0; comp_mv = mv_of n.block 1; weight = n.weight } ∷ []
    else []

abbrev pub given : Wanted → Neighbour → List CandidateMV
given w n =
    if is_inter n.block
    then (if w.is_compound then pair_of w n else vector_of w n 0 ++ vector_of w n 1)
    else []

-- the distinct ones, each where it is first seen
abbrev pub distinct : List CandidateMV → List CandidateMV
distinct [] = []
distinct (c ∷ cs) = c ∷ filter (λ d. not (same c d)) (distinct cs)

-- the sum of the weights with which a candidate is seen
abbrev pub total_weight : List CandidateMV → CandidateMV → ℕ
total_weight cs c = sum_by (λ d. if same c d then d.weight else 0) cs

-- what is more for one that a near neighbour gives
abbrev pub near_bonus : List CandidateMV → CandidateMV → ℕ
near_bonus near c = if list_any (same c) near then 640 else 0

-- the first eight distinct ones of all that is seen, weighed
abbrev pub entries : (CandidateMV → ℕ) → List CandidateMV → List CandidateMV
entries bonus seen = map (λ (c : CandidateMV). record c { weight = total_weight seen c + bonus c }) (take 8 (distinct seen))

-- by falling weight, equal ones as they were (7.10.2.11)
abbrev pub insert_by_weight : CandidateMV → List CandidateMV → List CandidateMV
insert_by_weight c [] = c ∷ []
insert_by_weight c (d ∷ ds) = if nat_le d.weight c.weight then c ∷ d ∷ ds else d ∷ insert_by_weight c ds

abbrev pub by_weight : List CandidateMV → List CandidateMV
by_weight [] = []
by_weight (c ∷ cs) = insert_by_weight c (by_weight cs)

-- a part of a vector moves a block at most until it lies 16 samples outside the frame (7.10.2.14)
abbrev pub kept_near : ℕ → ℕ → ℕ → ℤ → ℤ
kept_near place side end v = int_max (neg_ℤ (pos (32 * (place + side) + 128))) (int_min (pos (32 * (end - place) + 128)) v)

abbrev pub clamped_mv : Grid → BlockOffset → BlockSize → MotionVector → MotionVector
clamped_mv g bo size mv = record {
  row = kept_near (place_in_frame g bo).y (height_mi size) g.frame.all_rows mv.row;
  col = kept_near (place_in_frame g bo).x (width_mi size) g.frame.all_cols mv.col;
}

abbrev pub clamped : Grid → BlockOffset → BlockSize → CandidateMV → CandidateMV
clamped g bo size c = record c { this_mv = clamped_mv g bo size c.this_mv; comp_mv = clamped_mv g bo size c.comp_mv }

-- the neighbours that give something
abbrev pub gives : Wanted → Neighbour → Bool
gives w n = nat_lt 0 (length (given w n))

abbrev pub gives_new : Wanted → Neighbour → Bool
gives_new w n = gives w n && has_newmv n.block.mode

-- on which sides neighbours give something, and whether one that does has a new vector
abbrev pub matches_of : Wanted → List Neighbour → Matches
matches_of w ns = record {
  above = list_any (λ n. n.is_above && gives w n) ns;
  left = list_any (λ n. not n.is_above && gives w n) ns;
  new = list_any (gives_new w) ns;
}

abbrev pub either : Matches → Matches → Matches
either m n = record { above = m.above || n.above; left = m.left || n.left; new = m.new || n.new }

abbrev pub sides : Matches → ℕ
sides m = (if m.above then 1 else 0) + (if m.left then 1 else 0)

-- the context of a mode, by the near neighbours and by all (7.10.2.14)
abbrev pub mode_context : Matches → Matches → ℕ
mode_context near all =
    let new = if near.new then 1 else 0 in
    if nat_eq (sides near) 0 then min (sides all) 1 + 16 * sides all
    else (if nat_eq (sides near) 1 then 3 - new + 16 * (2 + sides all)
    else 5 - new + 16 * 5)

abbrev pub context_of : Wanted → List Neighbour → List Neighbour → ℕ
context_of w near far = mode_context (matches_of w near) (either (matches_of w near) (matches_of w far))

-- how many of a candidate and the next no near neighbour gave
abbrev pub is_far : List CandidateMV → ℕ → ℕ
is_far list i = if nat_lt (slice_index_or list i record { this_mv = no_vector; comp_mv = no_vector; weight = 0 }).weight 640 then 1 else 0

abbrev pub drl_context : List CandidateMV → ℕ → ℕ
drl_context list i = is_far list i + is_far list (i + 1)
