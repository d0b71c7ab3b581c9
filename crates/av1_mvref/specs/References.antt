-- The contexts of a block's references, by its neighbours (AV1 specification, 8.3.2).
use Rattle.std.specs.Prelude.{ℕ, ◌+◌, ◌-◌, ◌*◌, List, [], ◌∷◌, Bool, true, false, ◌&&◌, ◌||◌, not, nat_eq, nat_le, nat_lt, map, slice_index_or, if◌then◌else◌}
use Rattle.av1_geometry.specs.declared.block_offset.BlockOffset.{BlockOffset}
use Rattle.av1_geometry.specs.RefType.{reference_number}
use Rattle.av1_geometry.specs.declared.ref_type.RefType.TheVariants.{NONE_FRAME}
use Rattle.av1_blocks.specs.declared.block.Block.{Block}
use Rattle.av1_blocks.specs.Grid.{Grid, block_at}
use Rattle.av1_blocks.specs.Block.{is_inter}
use Rattle.av1_mvref.specs.declared.compound.Refs.{Refs}

-- the number of a block's reference of a list
abbrev pub number_at : Block → ℕ → ℕ
number_at b i = reference_number (slice_index_or b.ref_frames i NONE_FRAME)

-- how often a block refers to a frame
abbrev pub times : Block → ℕ → ℕ
times b r = if is_inter b then (if nat_eq (number_at b 0) r then 1 else 0) + (if nat_eq (number_at b 1) r then 1 else 0) else 0

-- how often the blocks above and to the left do
abbrev pub count_of : Grid → BlockOffset → ℕ → ℕ
count_of g bo r =
    (if nat_lt 0 bo.y then times (block_at g bo.x (bo.y - 1)) r else 0) + (if nat_lt 0 bo.x then times (block_at g (bo.x - 1) bo.y) r else 0)

abbrev pub counts : Grid → BlockOffset → List ℕ
counts g bo = map (count_of g bo) (1 ∷ 2 ∷ 3 ∷ 4 ∷ 5 ∷ 6 ∷ 7 ∷ [])

-- which of two numbers is greater
abbrev pub by_counts : ℕ → ℕ → ℕ
by_counts m n = if nat_lt m n then 0 else (if nat_eq m n then 1 else 2)

-- the count that a block keeps for a frame
abbrev pub kept_count : Grid → BlockOffset → ℕ → ℕ
kept_count g bo r = slice_index_or (block_at g bo.x bo.y).neighbors_ref_counts (r - 1) 0

-- those for the four references behind in display order, and for the three ahead
abbrev pub kept_behind : Grid → BlockOffset → ℕ
kept_behind g bo = kept_count g bo 1 + kept_count g bo 2 + kept_count g bo 3 + kept_count g bo 4

abbrev pub kept_ahead : Grid → BlockOffset → ℕ
kept_ahead g bo = kept_count g bo 5 + kept_count g bo 6 + kept_count g bo 7

-- the references of a neighbour
abbrev pub refs_of : Bool → Block → Refs
refs_of there b =
    if there then record { is_there = true; first = number_at b 0; second = number_at b 1 } else record { is_there = false; first = 0; second = 8 }

abbrev pub refs_above : Grid → BlockOffset → Refs
refs_above g bo = refs_of (nat_lt 0 bo.y) (block_at g bo.x (bo.y - 1))

abbrev pub refs_left : Grid → BlockOffset → Refs
refs_left g bo = refs_of (nat_lt 0 bo.x) (block_at g (bo.x - 1) bo.y)

abbrev pub is_single : Refs → Bool
is_single r = nat_eq r.second 8

abbrev pub is_backward : Refs → Bool
is_backward r = nat_le 5 r.first

abbrev pub differ : Bool → Bool → Bool
differ a b = if a then not b else b

-- whether two references are the better guess than one
abbrev pub comp_mode_context : Refs → Refs → ℕ
comp_mode_context a l =
    if a.is_there && l.is_there
    then (if is_single a && is_single l then (if differ (is_backward a) (is_backward l) then 1 else 0)
    else (if is_single a then (if is_backward a || nat_eq a.first 0 then 3 else 2)
    else (if is_single l then (if is_backward l || nat_eq l.first 0 then 3 else 2)
    else 4)))
    else (if a.is_there then (if is_single a then (if is_backward a then 1 else 0) else 3)
    else (if l.is_there then (if is_single l then (if is_backward l then 1 else 0) else 3)
    else 1))

abbrev pub is_intra : Refs → Bool
is_intra r = nat_eq r.first 0

abbrev pub is_inter_there : Refs → Bool
is_inter_there r = r.is_there && not (is_intra r)

-- a neighbour with two references, and whether both lie on one side in time
abbrev pub is_compound : Refs → Bool
is_compound r = is_inter_there r && not (is_single r)

abbrev pub is_behind : ℕ → Bool
is_behind n = nat_le 5 n && nat_le n 7

abbrev pub same_direction : ℕ → ℕ → Bool
same_direction m n = not (differ (is_behind m) (is_behind n))

abbrev pub is_one_sided : Refs → Bool
is_one_sided r = is_compound r && same_direction r.first r.second

abbrev pub one_if : Bool → ℕ
one_if b = if b then 1 else 0

-- two inter neighbours
abbrev pub ref_type_of_two : Refs → Refs → ℕ
ref_type_of_two a l =
    let same = one_if (same_direction a.first l.first) in
    if not (is_compound a) && not (is_compound l) then 1 + 2 * same
    else (if not (is_compound a) then (if is_one_sided l then 3 + same else 1)
    else (if not (is_compound l) then (if is_one_sided a then 3 + same else 1)
    else (if not (is_one_sided a) && not (is_one_sided l) then 0
    else (if not (is_one_sided a) || not (is_one_sided l) then 2
    else 3 + one_if (not (differ (nat_eq a.first 5) (nat_eq l.first 5)))))))

-- whether two references rather lie on one side: two inter neighbours, two others, or one
abbrev pub comp_ref_type_context : Refs → Refs → ℕ
comp_ref_type_context a l =
    if is_inter_there a && is_inter_there l then ref_type_of_two a l
    else (let far = if a.is_there && l.is_there then 2 else 4 in
    let near = if a.is_there && l.is_there then 1 else 0 in
    if is_compound a then near + far * one_if (is_one_sided a)
    else (if is_compound l then near + far * one_if (is_one_sided l) else 2))
