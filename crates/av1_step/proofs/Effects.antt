-- What effects leave as it is, what they keep, and that going back to a mark hides them.
use Rattle.std.proofs.Common.{◌≡◌, ◌⊎◌, inl, inr, ℕ, ℤ, zero, suc, ◌+◌, ◌-◌, ◌*◌, ◌/◌, ◌%◌, ◌^◌, ◌<◌, ◌≤◌, List, [], ◌∷◌, Bool, true, false, Option, Some, length, get_or, nat_eq, nat_lt, min, if◌then◌else◌, refl, sym, ap, subst, ◌∙◌, arith, ◌&&◌}
use Rattle.std.specs.Option.{ForSome}
use Rattle.std.proofs.lemmas.Bool.Decides.{nat_tests}
use Rattle.std.proofs.lemmas.List.{get_or-replicate}
use Rattle.std.proofs.lemmas.Nat.{div-mul-add, mod-mul-add, mul-add-lt}
use Rattle.av1_blocks.specs.declared.block.Block.{Block}
use Rattle.av1_blocks.specs.declared.block.TheConstants.Block.{DEFAULT}
use Rattle.av1_blocks.specs.declared.block_context.BlockContext.{BlockContext}
use Rattle.av1_blocks.specs.Block.{is_inter}
use Rattle.av1_blocks.specs.declared.checkpoint.BlockContextCheckpoint.{BlockContextCheckpoint}
use Rattle.av1_blocks.specs.Edges.{HasEdges, filled_in, halvings, place_in, planes_coded, with_tx_sides}
use Rattle.av1_blocks.specs.GoingBack.{IsWithin, gone_back}
use Rattle.av1_blocks.specs.Grid.{Grid, block_at, covers}
use Rattle.av1_blocks.specs.Places.{changed, filled, sb_column, within}
use Rattle.av1_blocks.specs.Saved.{Saved}
use Rattle.av1_blocks.specs.Sound.{IsSound as IsSoundBlock}
use Rattle.av1_blocks.proofs.GoingBack.{halved_once, hides_over, hides_partition, hides_plane, hides_skip_reset, hides_tx_sides, one_or_two}
use Rattle.av1_blocks.proofs.Places.{length-changed, get_or-changed}
use Rattle.av1_frame.specs.declared.frame.FrameInvariants.{FrameInvariants}
use Rattle.av1_geometry.specs.declared.block_offset.BlockOffset.{BlockOffset}
use Rattle.av1_geometry.specs.declared.block_size.BlockSize.{BlockSize}
use Rattle.av1_geometry.specs.declared.chroma_sampling.ChromaSampling.{ChromaSampling}
use Rattle.av1_geometry.specs.declared.chroma_sampling.ChromaSampling.TheVariants.{Cs420, Cs422, Cs444, Cs400}
use Rattle.av1_geometry.specs.BlockSize.{width_log2, height_log2, width_mi, height_mi}
use Rattle.av1_geometry.specs.BlockTables.{max_tx_size}
use Rattle.av1_geometry.specs.Chroma.{has_chroma_at}
use Rattle.av1_geometry.specs.ChromaSampling.{xdec_of, ydec_of, planes_of}
use Rattle.av1_geometry.specs.MotionVector.{IsValid}
use Rattle.av1_geometry.specs.PredictionMode.{prediction_mode_number}
use Rattle.av1_geometry.specs.TxSize.{tx_width_log2, tx_height_log2}
use Rattle.av1_geometry.specs.declared.prediction_mode.PredictionMode.{PredictionMode}
use Rattle.av1_geometry.specs.declared.tx_size.TxSize.{TxSize}
use Rattle.av1_mvref.specs.Candidates.{no_vector}
use Rattle.av1_geometry.specs.declared.block_size.BlockSize.TheVariants.{BLOCK_4X4, BLOCK_4X8, BLOCK_8X4, BLOCK_8X8, BLOCK_8X16, BLOCK_16X8, BLOCK_16X16, BLOCK_16X32, BLOCK_32X16, BLOCK_32X32, BLOCK_32X64, BLOCK_64X32, BLOCK_64X64, BLOCK_64X128, BLOCK_128X64, BLOCK_128X128, BLOCK_4X16, BLOCK_16X4, BLOCK_8X32, BLOCK_32X8, BLOCK_16X64, BLOCK_64X16}
use Rattle.av1_syntax.specs.TransformSizes.{block_of, entered_split}
use Rattle.av1_step.specs.Effect.{Effect, Over, Parted, Unfilled, Transformed, SplitTransform, NewRow, CdefCoded, Become, ChromaMode, Listed, Picked, Filled, Referred, changed_by, changed_by_all}
use Rattle.av1_step.specs.Given.{Given}
use Rattle.av1_step.specs.Kept.{HasSides, IsBlock, IsEntered, IsFine, IsKept, Fits, AllFit, IsAlike, LeavesAlike, IsAt, AllAt}
use Rattle.av1_step.specs.Tile.{Tile, CurrentBlock, grid_block, has_chroma_size, new_block, place_of_block, sampling, size_of_block, with_numbers}
use Rattle.av1_step.proofs.Planes.{planes_kept}
use Rattle.av1_step.proofs.Splitting.{split_blocks, split_long, sides_long, split_keeps, part_within}

-- what no effect changes
pub record IsSame (t u : Tile) : Type 0 where
  pub numbers : u.numbers ≡ t.numbers
  pub number : u.number ≡ t.number
  pub learns : u.learns ≡ t.learns
  pub given : u.given ≡ t.given
  pub x : u.bc.blocks.x ≡ t.bc.blocks.x
  pub y : u.bc.blocks.y ≡ t.bc.blocks.y
  pub cols : u.bc.blocks.cols ≡ t.bc.blocks.cols
  pub rows : u.bc.blocks.rows ≡ t.bc.blocks.rows

one_same : (e : Effect) (t : Tile) → IsSame t (changed_by e t)
one_same (Over bo size f) t = record { numbers = refl; number = refl; learns = refl; given = refl; x = refl; y = refl; cols = refl; rows = refl }
one_same (Parted bo size subsize) t = record { numbers = refl; number = refl; learns = refl; given = refl; x = refl; y = refl; cols = refl; rows = refl }
one_same (Unfilled bo size) t = record { numbers = refl; number = refl; learns = refl; given = refl; x = refl; y = refl; cols = refl; rows = refl }
one_same (Transformed bo size width height) t = record { numbers = refl; number = refl; learns = refl; given = refl; x = refl; y = refl; cols = refl; rows = refl }
one_same (SplitTransform bo size split) t =
    let same = split_blocks bo size split t.bc in
    record {
      numbers = refl;
      number = refl;
      learns = refl;
      given = refl;
      x = ap (λ (g : Grid). g.x) same;
      y = ap (λ (g : Grid). g.y) same;
      cols = ap (λ (g : Grid). g.cols) same;
      rows = ap (λ (g : Grid). g.rows) same;
    }
one_same NewRow t = record { numbers = refl; number = refl; learns = refl; given = refl; x = refl; y = refl; cols = refl; rows = refl }
one_same (CdefCoded coded) t = record { numbers = refl; number = refl; learns = refl; given = refl; x = refl; y = refl; cols = refl; rows = refl }
one_same (Become b) t = record { numbers = refl; number = refl; learns = refl; given = refl; x = refl; y = refl; cols = refl; rows = refl }
one_same (ChromaMode m) t = record { numbers = refl; number = refl; learns = refl; given = refl; x = refl; y = refl; cols = refl; rows = refl }
one_same (Listed c) t = record { numbers = refl; number = refl; learns = refl; given = refl; x = refl; y = refl; cols = refl; rows = refl }
one_same (Picked n) t = record { numbers = refl; number = refl; learns = refl; given = refl; x = refl; y = refl; cols = refl; rows = refl }
one_same (Filled plane bo size entry) t = record { numbers = refl; number = refl; learns = refl; given = refl; x = refl; y = refl; cols = refl; rows = refl }
one_same (Referred plane filter) t = record { numbers = refl; number = refl; learns = refl; given = refl; x = refl; y = refl; cols = refl; rows = refl }

pub all_same : (es : List Effect) (t : Tile) → IsSame t (changed_by_all es t)
all_same [] t = record { numbers = refl; number = refl; learns = refl; given = refl; x = refl; y = refl; cols = refl; rows = refl }
all_same (e ∷ es) t =
    let one = one_same e t in
    let rest = all_same es (changed_by e t) in
    record {
      numbers = rest.numbers ∙ one.numbers;
      number = rest.number ∙ one.number;
      learns = rest.learns ∙ one.learns;
      given = rest.given ∙ one.given;
      x = rest.x ∙ one.x;
      y = rest.y ∙ one.y;
      cols = rest.cols ∙ one.cols;
      rows = rest.rows ∙ one.rows;
    }

-- where some planes change, each edge has its length
planes_long : (test : ℕ → Bool) (f : ℕ → List ℕ → List ℕ) (edges : List (List ℕ)) (p : ℕ) → p < length edges → length (get_or edges p []) ≡ 1024 → ((q : ℕ) (edge : List ℕ) → length (f q edge) ≡ length edge) →
    length (get_or (changed (λ k x. if test k then f k x else x) edges) p []) ≡ 1024
planes_long test f edges p h long same =
    ap (λ (l : List ℕ). length l) (get_or-changed (λ k x. if test k then f k x else x) edges p [] h)
    ∙ elim (test p) as (λ b. length (if b then f p (get_or edges p []) else get_or edges p []) ≡ 1024) [ true ↦ same p (get_or edges p []) ∙ long | false ↦ long ]

either_fine : (fi : FrameInvariants) (c : Bool) (x y : Block) → (c ≡ true → IsFine fi y) → IsFine fi x → IsFine fi (if c then y else x)
either_fine fi true x y new old = new refl
either_fine fi false x y new old = old

-- a change of blocks that are fine keeps them so
all_fine : (fi : FrameInvariants) (test : ℕ → Bool) (f : Block → Block) (blocks : List Block) →
    ((k : ℕ) → k < length blocks → test k ≡ true → IsFine fi (get_or blocks k DEFAULT) → IsFine fi (f (get_or blocks k DEFAULT))) →
    ((k : ℕ) → k < length blocks → IsFine fi (get_or blocks k DEFAULT)) → (k : ℕ) → k < length (changed (λ j b. if test j then f b else b) blocks) → IsFine fi (get_or (changed (λ j b. if test j then f b else b) blocks) k DEFAULT)
all_fine fi test f blocks keeps fine k h =
    let there : k < length blocks = omega (arith, h, length-changed (λ j b. if test j then f b else b) blocks) in
    let x = get_or blocks k DEFAULT in
    subst (IsFine fi) (sym (get_or-changed (λ j b. if test j then f b else b) blocks k DEFAULT there)) (either_fine fi (test k) x (f x) (λ c. keeps k there c (fine k there)) (fine k there))

power_some : (n : ℕ) → n ≤ 4 → 1 ≤ 2 ^ n
power_some zero h = omega arith
power_some (suc zero) h = omega arith
power_some (suc (suc zero)) h = omega arith
power_some (suc (suc (suc zero))) h = omega arith
power_some (suc (suc (suc (suc zero)))) h = omega arith
power_some (suc (suc (suc (suc (suc n))))) h = absurd (omega (arith, h))

-- the place of a block of the grid
pub place_there : (t : Tile) → HasSides t → (x y : ℕ) → x < t.bc.blocks.cols → y < t.bc.blocks.rows →
    let g = t.bc.blocks in (g.x + x < g.frame.frame_cols) × ((g.y + y) * g.frame.frame_cols + (g.x + x) < length g.frame.blocks)
place_there t k x y column row =
    let g = t.bc.blocks in
    let across : g.x + x < g.frame.frame_cols = omega (arith, column, k.corner.0, k.frame.0) in
    let down : g.y + y < g.frame.frame_rows = omega (arith, row, k.corner.1, k.frame.1) in
    let size : g.frame.frame_cols * g.frame.frame_rows ≡ length g.frame.blocks = ap (λ c. c * g.frame.frame_rows) k.frame.0 ∙ ap (λ r. g.cols * r) k.frame.1 ∙ sym k.all in
    (across, subst (λ n. (g.y + y) * g.frame.frame_cols + (g.x + x) < n) size (mul-add-lt (g.y + y) g.frame.frame_cols (g.x + x) g.frame.frame_rows down across))

-- the sides of the largest transform of a block
pub largest_sides : (size : BlockSize) → (tx_width_log2 (max_tx_size size) ≡ min (width_log2 size) 6) × (tx_height_log2 (max_tx_size size) ≡ min (height_log2 size) 6)
largest_sides BLOCK_4X4 = (refl, refl)
largest_sides BLOCK_4X8 = (refl, refl)
largest_sides BLOCK_8X4 = (refl, refl)
largest_sides BLOCK_8X8 = (refl, refl)
largest_sides BLOCK_8X16 = (refl, refl)
largest_sides BLOCK_16X8 = (refl, refl)
largest_sides BLOCK_16X16 = (refl, refl)
largest_sides BLOCK_16X32 = (refl, refl)
largest_sides BLOCK_32X16 = (refl, refl)
largest_sides BLOCK_32X32 = (refl, refl)
largest_sides BLOCK_32X64 = (refl, refl)
largest_sides BLOCK_64X32 = (refl, refl)
largest_sides BLOCK_64X64 = (refl, refl)
largest_sides BLOCK_64X128 = (refl, refl)
largest_sides BLOCK_128X64 = (refl, refl)
largest_sides BLOCK_128X128 = (refl, refl)
largest_sides BLOCK_4X16 = (refl, refl)
largest_sides BLOCK_16X4 = (refl, refl)
largest_sides BLOCK_8X32 = (refl, refl)
largest_sides BLOCK_32X8 = (refl, refl)
largest_sides BLOCK_16X64 = (refl, refl)
largest_sides BLOCK_64X16 = (refl, refl)

-- what stands where nothing refers to another frame
pub no_vector_valid : IsValid no_vector
no_vector_valid = (omega arith, omega arith, omega arith, omega arith)

pub no_counts : (k : ℕ) → k < 7 → get_or DEFAULT.neighbors_ref_counts k 0 ≤ 4
no_counts k h = subst (λ n. n ≤ 4) (sym (get_or-replicate 7 k 0 0 h)) (omega arith)

-- a block stays sound where nothing changes that is asked of it
pub still_sound : (x : Block) (skip : Bool) (index segment : ℕ) (deltas : List ℤ) (tx : TxSize) → IsSoundBlock x →
    IsSoundBlock (record x { skip = skip; cdef_index = index; segmentation_idx = segment; deblock_deltas = deltas; txsize = tx })
still_sound x skip index segment deltas tx s = record {
  width = s.width;
  height = s.height;
  first_valid = s.first_valid;
  second_valid = s.second_valid;
  counts = s.counts;
  refers = s.refers;
  refers_within = s.refers_within;
}

-- a block that gets a mode of luma is no inter block
pub sound_within : (x : Block) (m : PredictionMode) → prediction_mode_number m < 13 → IsSoundBlock x → IsSoundBlock (record x { mode = m })
sound_within x m low s = record {
  width = s.width;
  height = s.height;
  first_valid = s.first_valid;
  second_valid = s.second_valid;
  counts = s.counts;
  refers = λ h. absurd (grind (arith, nat_tests, low, h));
  refers_within = λ h. absurd (grind (arith, nat_tests, low, h));
}

pub never : false ≡ true → ⊥
never h = cc

-- what a block gets is fine, and is what stands where its size was entered
new_fine : (fi : FrameInvariants) (size : BlockSize) → IsFine fi (new_block size)
new_fine fi size = record {
  mode = λ h. omega arith;
  segment = omega arith;
  sound = record {
    width = refl;
    height = refl;
    first_valid = no_vector_valid;
    second_valid = no_vector_valid;
    counts = no_counts;
    refers = λ h. absurd (never h);
    refers_within = λ h. absurd (never h);
  };
}

new_entered : (size : BlockSize) → IsEntered size (new_block size)
new_entered size = (refl, refl, refl, omega (arith, (largest_sides size).0), omega (arith, (largest_sides size).1))

-- a change of blocks keeps what stands where a size was entered
entered_over : (size : BlockSize) (test : ℕ → Bool) (f : Block → Block) (blocks : List Block) (k : ℕ) → k < length blocks → ((x : Block) → IsEntered size x → IsEntered size (f x)) → IsEntered size (get_or blocks k DEFAULT) →
    IsEntered size (get_or (changed (λ j b. if test j then f b else b) blocks) k DEFAULT)
entered_over size test f blocks k there keeps was =
    subst (IsEntered size) (sym (get_or-changed (λ j b. if test j then f b else b) blocks k DEFAULT there))
    (elim (test k) as (λ b. IsEntered size (if b then f (get_or blocks k DEFAULT) else get_or blocks k DEFAULT)) [ true ↦ keeps (get_or blocks k DEFAULT) was | false ↦ was ])

within_self : (from to : ℕ) → from < to → within from to from ≡ true
within_self from to h = grind (arith, nat_tests)

and_true : (a b : Bool) → a ≡ true → b ≡ true → (a && b) ≡ true
and_true a b h g = cc (h, g)

-- the first place of a block is one of its places
covers_first : (g : Grid) (bo : BlockOffset) (size : BlockSize) → g.x + bo.x < g.frame.frame_cols → bo.x < g.cols → bo.y < g.rows → 1 ≤ width_mi size → 1 ≤ height_mi size → covers g bo size ((g.y + bo.y) * g.frame.frame_cols + (g.x + bo.x)) ≡ true
covers_first g bo size across column row wide high =
    let cols = g.frame.frame_cols in
    let x = g.x + bo.x in
    let y = g.y + bo.y in
    let right = g.x + min (bo.x + width_mi size) g.cols in
    let bottom = g.y + min (bo.y + height_mi size) g.rows in
    ap (λ n. within x right n && within y bottom ((y * cols + x) / cols)) (mod-mul-add y cols x across)
    ∙ ap (λ n. within x right x && within y bottom n) (div-mul-add y cols x across)
    ∙ and_true _ _ (within_self x right (omega (arith, column, wide))) (within_self y bottom (omega (arith, row, high)))

-- a place of the area of a change is one of the area of a block that it is the area of
same_area : (g : Grid) (bo : BlockOffset) (size : BlockSize) (b : CurrentBlock) (k : ℕ) → bo ≡ place_of_block b → size ≡ size_of_block b → covers g bo size k ≡ true → covers g (place_of_block b) (size_of_block b) k ≡ true
same_area g bo size b k place is covered = ap (λ (o : BlockOffset). covers g o (size_of_block b) k) (sym place) ∙ ap (λ (s : BlockSize). covers g bo s k) (sym is) ∙ covered

-- a change over the whole area of a block that says alike whether blocks are predicted from other frames
whole_alike : (t : Tile) (b : CurrentBlock) (f : Block → Block) → HasSides t → IsBlock t.bc.blocks.cols t.bc.blocks.rows (place_of_block b) (size_of_block b) → ((x y : Block) → is_inter (f x) ≡ is_inter (f y)) →
    IsAlike (changed_by (Over (place_of_block b) (size_of_block b) f) t) b
whole_alike t b f sides at same k h covered =
    let g = t.bc.blocks in
    let bo = place_of_block b in
    let size = size_of_block b in
    let step = λ (j : ℕ) (x : Block). if covers g bo size j then f x else x in
    let there : k < length g.frame.blocks = omega (arith, h, length-changed step g.frame.blocks) in
    let first = place_there t sides bo.x bo.y at.column at.row in
    let x = get_or g.frame.blocks k DEFAULT in
    let y = grid_block t b in
    let all = covers_first g bo size first.0 at.column at.row (power_some (width_log2 size - 2) (omega (arith, at.width))) (power_some (height_log2 size - 2) (omega (arith, at.height))) in
    ap is_inter (get_or-changed step g.frame.blocks k DEFAULT there ∙ ap (λ c. if c then f x else x) covered)
    ∙ same x y
    ∙ sym (ap is_inter (get_or-changed step g.frame.blocks _ DEFAULT first.1 ∙ ap (λ c. if c then f y else y) all))

either_alike : (c : Bool) (f : Block → Block) (x : Block) → ((y : Block) → is_inter (f y) ≡ is_inter y) → is_inter (if c then f x else x) ≡ is_inter x
either_alike true f x leaves = leaves x
either_alike false f x leaves = refl

-- a change over the current block says alike whether blocks are predicted from other frames
pub says_alike : (t : Tile) (b : CurrentBlock) (f : Block → Block) → t.current ≡ Some b → ((x y : Block) → is_inter (f x) ≡ is_inter (f y)) → ForSome t.current (λ c. LeavesAlike c (place_of_block b) (size_of_block b) f)
says_alike t b f e same c is = let one : b ≡ c = cc (e, is) in inr (ap place_of_block one, ap size_of_block one, same)

-- a change that leaves of each block whether it is predicted from other frames
still_alike : (t : Tile) (b : CurrentBlock) (bo : BlockOffset) (size : BlockSize) (f : Block → Block) → HasSides t → IsBlock t.bc.blocks.cols t.bc.blocks.rows (place_of_block b) (size_of_block b) → ((x : Block) → is_inter (f x) ≡ is_inter x) → IsAlike t b →
    IsAlike (changed_by (Over bo size f) t) b
still_alike t b bo size f sides at leaves alike k h covered =
    let g = t.bc.blocks in
    let step = λ (j : ℕ) (x : Block). if covers g bo size j then f x else x in
    let there : k < length g.frame.blocks = omega (arith, h, length-changed step g.frame.blocks) in
    let first = place_there t sides (place_of_block b).x (place_of_block b).y at.column at.row in
    ap is_inter (get_or-changed step g.frame.blocks k DEFAULT there)
    ∙ either_alike (covers g bo size k) f _ leaves
    ∙ alike k there covered
    ∙ sym (ap is_inter (get_or-changed step g.frame.blocks _ DEFAULT first.1) ∙ either_alike _ f _ leaves)

-- a change leaves the blocks of an area alike
alike_over : (t : Tile) (b : CurrentBlock) (bo : BlockOffset) (size : BlockSize) (f : Block → Block) → HasSides t → IsBlock t.bc.blocks.cols t.bc.blocks.rows (place_of_block b) (size_of_block b) → LeavesAlike b bo size f → IsAlike t b →
    IsAlike (changed_by (Over bo size f) t) b
alike_over t b bo size f sides at (inl leaves) alike = still_alike t b bo size f sides at leaves alike
alike_over t b bo size f sides at (inr (place, is, same)) alike =
    subst (λ (o : BlockOffset). IsAlike (changed_by (Over o size f) t) b) (sym place) (subst (λ (s : BlockSize). IsAlike (changed_by (Over (place_of_block b) s f) t) b) (sym is) (whole_alike t b f sides at same))

-- other edges of their lengths, and the same grid
edges_kept : (t : Tile) (bc : BlockContext) → HasEdges bc → bc.blocks ≡ t.bc.blocks → IsKept t → IsKept (record t { bc = bc })
edges_kept t bc long same k = record {
  given = k.given;
  number = k.number;
  sides = record {
    cols = ap (λ (g : Grid). g.cols) same ∙ k.sides.cols;
    rows = ap (λ (g : Grid). g.rows) same ∙ k.sides.rows;
    corner = (ap (λ (g : Grid). g.x) same ∙ k.sides.corner.0, ap (λ (g : Grid). g.y) same ∙ k.sides.corner.1);
    all = ap (λ (g : Grid). length g.frame.blocks) same ∙ k.sides.all ∙ sym (ap (λ (g : Grid). g.cols * g.rows) same);
    frame = (
      ap (λ (g : Grid). g.frame.frame_cols) same ∙ k.sides.frame.0 ∙ sym (ap (λ (g : Grid). g.cols) same),
      ap (λ (g : Grid). g.frame.frame_rows) same ∙ k.sides.frame.1 ∙ sym (ap (λ (g : Grid). g.rows) same),
    );
  };
  edges = long;
  current = subst (λ (g : Grid). ForSome t.current (λ (b : CurrentBlock). IsBlock g.cols g.rows b.0.0 b.1)) (sym same) k.current;
  coded = k.coded;
  entered = λ b e. subst (λ (g : Grid). IsEntered (size_of_block b) (block_at g (place_of_block b).x (place_of_block b).y)) (sym same) (k.entered b e);
  alike = λ b e.
      subst (λ (g : Grid). (j : ℕ) → j < length g.frame.blocks → covers g (place_of_block b) (size_of_block b) j ≡ true → is_inter (get_or g.frame.blocks j DEFAULT) ≡ is_inter (block_at g (place_of_block b).x (place_of_block b).y))
      (sym same) (k.alike b e);
  fine = subst (λ (g : Grid). (j : ℕ) → j < length g.frame.blocks → IsFine t.given.fi (get_or g.frame.blocks j DEFAULT)) (sym same) k.fine;
  planes = k.planes;
  cands = k.cands;
}

one_kept : (e : Effect) (t : Tile) → Fits t e → IsKept t → IsKept (changed_by e t)
one_kept (Over bo size f) t fit k = record {
  given = k.given;
  number = k.number;
  sides = record { cols = k.sides.cols; rows = k.sides.rows; corner = k.sides.corner; all = length-changed _ t.bc.blocks.frame.blocks ∙ k.sides.all; frame = k.sides.frame };
  edges = record { above_partition = k.edges.above_partition; above_tx = k.edges.above_tx; above_planes = k.edges.above_planes; above_coeff = k.edges.above_coeff };
  current = k.current;
  coded = k.coded;
  entered = λ b e.
      let at = k.current b e in
      entered_over (size_of_block b) (covers t.bc.blocks bo size) f t.bc.blocks.frame.blocks _ (place_there t k.sides (place_of_block b).x (place_of_block b).y at.column at.row).1 (fit.2 b e) (k.entered b e);
  alike = λ b e. alike_over t b bo size f k.sides (k.current b e) (fit.3 b e) (k.alike b e);
  fine = all_fine t.given.fi (covers t.bc.blocks bo size) f t.bc.blocks.frame.blocks (λ j h covered. fit.1 _ (λ b e place is. k.alike b e j h (same_area t.bc.blocks bo size b j place is covered))) k.fine;
  planes = k.planes;
  cands = k.cands;
}
one_kept (Parted bo size subsize) t fit k = record {
  given = k.given;
  number = k.number;
  sides = record { cols = k.sides.cols; rows = k.sides.rows; corner = k.sides.corner; all = k.sides.all; frame = k.sides.frame };
  edges = record { above_partition = length-changed _ t.bc.above_partition_context ∙ k.edges.above_partition; above_tx = k.edges.above_tx; above_planes = k.edges.above_planes; above_coeff = k.edges.above_coeff };
  current = k.current;
  coded = k.coded;
  entered = k.entered;
  alike = k.alike;
  fine = k.fine;
  planes = k.planes;
  cands = k.cands;
}
one_kept (Unfilled bo size) t fit k =
    let xdec = xdec_of (sampling t) in
    record {
      given = k.given;
      number = k.number;
      sides = record { cols = k.sides.cols; rows = k.sides.rows; corner = k.sides.corner; all = k.sides.all; frame = k.sides.frame };
      edges = record {
        above_partition = k.edges.above_partition;
        above_tx = k.edges.above_tx;
        above_planes = length-changed _ t.bc.above_coeff_context ∙ k.edges.above_planes;
        above_coeff = λ p h.
            planes_long (λ k. nat_lt k (planes_coded bo size xdec (ydec_of (sampling t)) (sampling t))) (λ q edge. filled_in xdec q bo.x (width_mi size) 0 edge) t.bc.above_coeff_context p (omega (arith, h, k.edges.above_planes)) (k.edges.above_coeff p h)
            (λ q edge. length-changed _ edge);
      };
      current = k.current;
      coded = k.coded;
      entered = k.entered;
      alike = k.alike;
      fine = k.fine;
      planes = k.planes;
      cands = k.cands;
    }
one_kept (Transformed bo size width height) t fit k = edges_kept t (with_tx_sides bo size width height t.bc) (sides_long bo size width height t.bc k.edges) refl k
one_kept (SplitTransform bo size split) t fit k =
    edges_kept t (entered_split bo size (max_tx_size size) split t.bc) (split_long bo size split t.bc k.edges) (split_blocks bo size split t.bc) k
one_kept NewRow t fit k = record {
  given = k.given;
  number = k.number;
  sides = record { cols = k.sides.cols; rows = k.sides.rows; corner = k.sides.corner; all = k.sides.all; frame = k.sides.frame };
  edges = record { above_partition = k.edges.above_partition; above_tx = k.edges.above_tx; above_planes = k.edges.above_planes; above_coeff = k.edges.above_coeff };
  current = k.current;
  coded = k.coded;
  entered = k.entered;
  alike = k.alike;
  fine = k.fine;
  planes = k.planes;
  cands = k.cands;
}
one_kept (CdefCoded coded) t fit k = record {
  given = k.given;
  number = k.number;
  sides = record { cols = k.sides.cols; rows = k.sides.rows; corner = k.sides.corner; all = k.sides.all; frame = k.sides.frame };
  edges = record { above_partition = k.edges.above_partition; above_tx = k.edges.above_tx; above_planes = k.edges.above_planes; above_coeff = k.edges.above_coeff };
  current = k.current;
  coded = k.coded;
  entered = k.entered;
  alike = k.alike;
  fine = k.fine;
  planes = k.planes;
  cands = k.cands;
}
one_kept (Become b) t fit k =
    let g = t.bc.blocks in
    let bo = place_of_block b in
    let size = size_of_block b in
    let at = fit.0 in
    let u = changed_by (Become b) t in
    let there = place_there t k.sides bo.x bo.y at.column at.row in
    let covered = covers_first g bo size there.0 at.column at.row (power_some (width_log2 size - 2) (omega (arith, at.width))) (power_some (height_log2 size - 2) (omega (arith, at.height))) in
    let old = grid_block t b in
    let now : IsEntered size (grid_block u b) =
    subst (IsEntered size) (sym (get_or-changed (λ j x. if covers g bo size j then new_block size else x) g.frame.blocks _ DEFAULT there.1 ∙ ap (λ c. if c then new_block size else old) covered)) (new_entered size) in
    record {
      given = k.given;
      number = k.number;
      sides = record { cols = k.sides.cols; rows = k.sides.rows; corner = k.sides.corner; all = length-changed _ t.bc.blocks.frame.blocks ∙ k.sides.all; frame = k.sides.frame };
      edges = record { above_partition = k.edges.above_partition; above_tx = k.edges.above_tx; above_planes = k.edges.above_planes; above_coeff = k.edges.above_coeff };
      current = λ c e. subst (λ (x : CurrentBlock). IsBlock t.bc.blocks.cols t.bc.blocks.rows x.0.0 x.1) (let same : b ≡ c = cc e in same) fit.0;
      coded = λ c e. subst (λ (x : CurrentBlock). has_chroma_size (sampling t) (size_of_block x) ≡ true) (let same : b ≡ c = cc e in same) fit.1;
      entered = λ c e. subst (λ (x : CurrentBlock). IsEntered (size_of_block x) (grid_block u x)) (let same : b ≡ c = cc e in same) now;
      alike = λ c e. subst (λ (x : CurrentBlock). IsAlike u x) (let same : b ≡ c = cc e in same) (whole_alike t b (λ x. new_block size) k.sides at (λ x y. refl));
      fine = all_fine t.given.fi (covers g bo size) (λ x. new_block size) g.frame.blocks (λ j h covered was. new_fine t.given.fi size) k.fine;
      planes = k.planes;
      cands = λ c e. cc;
    }
one_kept (ChromaMode m) t fit k = record {
  given = k.given;
  number = k.number;
  sides = record { cols = k.sides.cols; rows = k.sides.rows; corner = k.sides.corner; all = k.sides.all; frame = k.sides.frame };
  edges = record { above_partition = k.edges.above_partition; above_tx = k.edges.above_tx; above_planes = k.edges.above_planes; above_coeff = k.edges.above_coeff };
  current = k.current;
  coded = k.coded;
  entered = k.entered;
  alike = k.alike;
  fine = k.fine;
  planes = k.planes;
  cands = k.cands;
}
one_kept (Listed c) t fit k = record {
  given = k.given;
  number = k.number;
  sides = record { cols = k.sides.cols; rows = k.sides.rows; corner = k.sides.corner; all = k.sides.all; frame = k.sides.frame };
  edges = record { above_partition = k.edges.above_partition; above_tx = k.edges.above_tx; above_planes = k.edges.above_planes; above_coeff = k.edges.above_coeff };
  current = k.current;
  coded = k.coded;
  entered = k.entered;
  alike = k.alike;
  fine = k.fine;
  planes = k.planes;
  cands = fit;
}
one_kept (Picked n) t fit k = record {
  given = k.given;
  number = k.number;
  sides = record { cols = k.sides.cols; rows = k.sides.rows; corner = k.sides.corner; all = k.sides.all; frame = k.sides.frame };
  edges = record { above_partition = k.edges.above_partition; above_tx = k.edges.above_tx; above_planes = k.edges.above_planes; above_coeff = k.edges.above_coeff };
  current = k.current;
  coded = k.coded;
  entered = k.entered;
  alike = k.alike;
  fine = k.fine;
  planes = k.planes;
  cands = k.cands;
}
one_kept (Filled plane bo size entry) t fit k =
    let across = halvings (xdec_of (sampling t)) plane in
    record {
      given = k.given;
      number = k.number;
      sides = record { cols = k.sides.cols; rows = k.sides.rows; corner = k.sides.corner; all = k.sides.all; frame = k.sides.frame };
      edges = record {
        above_partition = k.edges.above_partition;
        above_tx = k.edges.above_tx;
        above_planes = length-changed _ t.bc.above_coeff_context ∙ k.edges.above_planes;
        above_coeff = λ p h.
            planes_long (λ q. nat_eq q plane) (λ q edge. filled (bo.x / 2 ^ across) (bo.x / 2 ^ across + 2 ^ (tx_width_log2 size - 2)) entry edge) t.bc.above_coeff_context p (omega (arith, h, k.edges.above_planes)) (k.edges.above_coeff p h)
            (λ q edge. length-changed _ edge);
      };
      current = k.current;
      coded = k.coded;
      entered = k.entered;
      alike = k.alike;
      fine = k.fine;
      planes = k.planes;
      cands = k.cands;
    }
one_kept (Referred plane filter) t fit k = record {
  given = k.given;
  number = k.number;
  sides = record { cols = k.sides.cols; rows = k.sides.rows; corner = k.sides.corner; all = k.sides.all; frame = k.sides.frame };
  edges = record { above_partition = k.edges.above_partition; above_tx = k.edges.above_tx; above_planes = k.edges.above_planes; above_coeff = k.edges.above_coeff };
  current = k.current;
  coded = k.coded;
  entered = k.entered;
  alike = k.alike;
  fine = k.fine;
  planes = planes_kept t.given.fs t.rs plane fit.1 filter fit.0 fit.2 k.planes;
  cands = k.cands;
}

-- effects that fit keep what every state keeps
pub all_kept : (es : List Effect) (t : Tile) → AllFit t es → IsKept t → IsKept (changed_by_all es t)
all_kept [] t fit k = k
all_kept (e ∷ es) t fit k = all_kept es (changed_by e t) fit.1 (one_kept e t fit.0 k)

-- other numbers keep it too
pub numbers_kept : (ns : List ℕ) (t : Tile) → IsKept t → IsKept (with_numbers ns t)
numbers_kept ns t k = record {
  given = k.given;
  number = k.number;
  sides = record { cols = k.sides.cols; rows = k.sides.rows; corner = k.sides.corner; all = k.sides.all; frame = k.sides.frame };
  edges = k.edges;
  current = k.current;
  coded = k.coded;
  entered = k.entered;
  alike = k.alike;
  fine = k.fine;
  planes = k.planes;
  cands = k.cands;
}

-- effects at a place leave what restoration filters refer to
one_still : (e : Effect) (bo : BlockOffset) (t : Tile) → IsAt (Some bo) e → (changed_by e t).rs ≡ t.rs
one_still (Referred plane filter) bo t is = cc
one_still e bo t is = refl

pub all_still : (es : List Effect) (bo : BlockOffset) (t : Tile) → AllAt (Some bo) es → (changed_by_all es t).rs ≡ t.rs
all_still [] bo t is = refl
all_still (e ∷ es) bo t is = all_still es bo (changed_by e t) is.1 ∙ one_still e bo t is.0

-- a superblock, by the places in it
pub record IsNear (x y : ℕ) (bo : BlockOffset) : Type 0 where
  pub column : bo.x / 16 ≡ x / 16
  pub row : bo.y / 16 ≡ y / 16

in_one : (n x place : ℕ) → n ≤ 4 → x % 2 ^ n ≡ 0 → x / 16 ≡ place / 16 → (16 * (place / 16) ≤ x) × (x + 2 ^ n ≤ 16 * (place / 16) + 16)
in_one zero x place h a e = (omega (arith, e), omega (arith, e))
in_one (suc zero) x place h a e = (omega (arith, e, a), omega (arith, e, a))
in_one (suc (suc zero)) x place h a e = (omega (arith, e, a), omega (arith, e, a))
in_one (suc (suc (suc zero))) x place h a e = (omega (arith, e, a), omega (arith, e, a))
in_one (suc (suc (suc (suc zero)))) x place h a e = (omega (arith, e, a), omega (arith, e, a))
in_one (suc (suc (suc (suc (suc n))))) x place h a e = absurd (omega (arith, h))

-- a side of a block that stands where its size may is within its superblock
pub side_within : (log2 x place : ℕ) → log2 ≤ 6 → x % 2 ^ (log2 - 2) ≡ 0 → x / 16 ≡ place / 16 → IsWithin (16 * (place / 16)) x (2 ^ (log2 - 2))
side_within log2 x place h a e =
    let few : log2 - 2 ≤ 4 = omega (arith, h) in
    let w = in_one (log2 - 2) x place few a e in
    record { some = power_some (log2 - 2) few; start = w.0; end = w.1 }

-- a block codes no more planes than there are
pub few_planes : (bo : BlockOffset) (size : BlockSize) (xdec ydec : ℕ) (cs : ChromaSampling) → planes_coded bo size xdec ydec cs ≤ planes_of cs
few_planes bo size xdec ydec Cs420 = elim (has_chroma_at bo.x bo.y size xdec ydec Cs420) as (λ b. (if b then 3 else 1) ≤ 3) [ true ↦ omega arith | false ↦ omega arith ]
few_planes bo size xdec ydec Cs422 = elim (has_chroma_at bo.x bo.y size xdec ydec Cs422) as (λ b. (if b then 3 else 1) ≤ 3) [ true ↦ omega arith | false ↦ omega arith ]
few_planes bo size xdec ydec Cs444 = elim (has_chroma_at bo.x bo.y size xdec ydec Cs444) as (λ b. (if b then 3 else 1) ≤ 3) [ true ↦ omega arith | false ↦ omega arith ]
few_planes bo size xdec ydec Cs400 = omega arith

-- columns of a plane within those of their superblock
columns_within : (m x place w : ℕ) → (m ≡ 1) ⊎ (m ≡ 2) → x / 16 ≡ place / 16 → x % 16 / m + w ≤ 16 / m → (16 * (place / 16) / m ≤ x / m) × (x / m + w ≤ 16 * (place / 16) / m + 16)
columns_within m x place w (inl one) near few = subst (λ k. x % 16 / k + w ≤ 16 / k → (16 * (place / 16) / k ≤ x / k) × (x / k + w ≤ 16 * (place / 16) / k + 16)) (sym one) (λ h. (omega (arith, near), omega (arith, near, h))) few
columns_within m x place w (inr two) near few = subst (λ k. x % 16 / k + w ≤ 16 / k → (16 * (place / 16) / k ≤ x / k) × (x / k + w ≤ 16 * (place / 16) / k + 16)) (sym two) (λ h. (omega (arith, near), omega (arith, near, h))) few

module _ (c : BlockContextCheckpoint) (s : Saved) (place : BlockOffset) (column : sb_column c.x ≡ 16 * (place.x / 16)) (saved : s.place ≡ record { x = 16 * (place.x / 16); y = 16 * (place.y / 16) }) where
  within_column : (t : Tile) (bo : BlockOffset) (size : BlockSize) → IsBlock t.bc.blocks.cols t.bc.blocks.rows bo size → IsNear place.x place.y bo → IsWithin (sb_column c.x) bo.x (width_mi size)
  within_column t bo size b near = subst (λ x. IsWithin x bo.x (width_mi size)) (sym column) (side_within (width_log2 size) bo.x place.x b.width b.aligned.0 near.column)

  over_hidden : (bo : BlockOffset) (size : BlockSize) (f : Block → Block) (t : Tile) → IsBlock t.bc.blocks.cols t.bc.blocks.rows bo size → IsNear place.x place.y bo →
      gone_back c s (changed_by (Over bo size f) t).bc ≡ gone_back c s t.bc
  over_hidden bo size f t b n =
      let x : s.place.x ≡ 16 * (place.x / 16) = ap (λ (p : BlockOffset). p.x) saved in
      let y : s.place.y ≡ 16 * (place.y / 16) = ap (λ (p : BlockOffset). p.y) saved in
      hides_over c s bo size f t.bc
      (subst (λ k. IsWithin k bo.x (width_mi size)) (sym x) (side_within (width_log2 size) bo.x place.x b.width b.aligned.0 n.column))
      (subst (λ k. IsWithin k bo.y (height_mi size)) (sym y) (side_within (height_log2 size) bo.y place.y b.height b.aligned.1 n.row))

  -- going back to a mark hides an effect in its superblock
  one_hidden : (e : Effect) (at : Option BlockOffset) (t : Tile) → Fits t e → IsAt at e → ForSome at (IsNear place.x place.y) → c.chroma_sampling ≡ sampling t →
      gone_back c s (changed_by e t).bc ≡ gone_back c s t.bc
  one_hidden (Over bo size f) at t fit is near cs = over_hidden bo size f t fit.0 (near bo is)
  one_hidden (Parted bo size subsize) at t fit is near cs = hides_partition c s bo subsize size t.bc (within_column t bo size fit (near bo is))
  one_hidden (Unfilled bo size) at t fit is near cs =
      let ydec = ydec_of (sampling t) in
      let planes = planes_coded bo size (xdec_of (sampling t)) ydec (sampling t) in
      subst (λ (k : ChromaSampling). gone_back c s (record t.bc {
        above_coeff_context = changed (λ p edge. if nat_lt p planes then filled_in (xdec_of k) p bo.x (width_mi size) 0 edge else edge) t.bc.above_coeff_context;
        left_coeff_context = changed (λ p edge. if nat_lt p planes then filled_in ydec p (bo.y % 16) (height_mi size) 0 edge else edge) t.bc.left_coeff_context;
      }) ≡ gone_back c s t.bc) cs
      (hides_skip_reset c s planes ydec bo size t.bc (subst (λ (k : ChromaSampling). planes ≤ planes_of k) (sym cs) (few_planes bo size (xdec_of (sampling t)) ydec (sampling t))) (within_column t bo size fit (near bo is)))
  one_hidden (Transformed bo size width height) at t fit is near cs = hides_tx_sides c s bo size width height t.bc (within_column t bo size fit (near bo is))
  one_hidden (SplitTransform bo size split) at t fit is near cs =
      let w = within_column t bo size fit (near bo is) in
      split_keeps bo size (λ x. gone_back c s x ≡ gone_back c s t.bc)
      (λ place tx x p e. hides_tx_sides c s place (block_of tx) (2 ^ tx_width_log2 tx) (2 ^ tx_height_log2 tx) x (part_within (sb_column c.x) bo size place tx w p) ∙ e) split t.bc refl
  one_hidden NewRow at t fit is near cs = refl
  one_hidden (CdefCoded coded) at t fit is near cs = refl
  one_hidden (Become b) at t fit is near cs = over_hidden (place_of_block b) (size_of_block b) (λ x. new_block (size_of_block b)) t fit.0 (near (place_of_block b) is)
  one_hidden (ChromaMode m) at t fit is near cs = refl
  one_hidden (Listed c) at t fit is near cs = refl
  one_hidden (Picked n) at t fit is near cs = refl
  one_hidden (Filled plane bo size entry) at t fit is near cs =
      let dec = xdec_of (sampling t) in
      let h = 2 ^ halvings dec plane in
      let n = near bo is in
      let first : place_in (xdec_of c.chroma_sampling) plane (sb_column c.x) ≡ 16 * (place.x / 16) / h = ap (λ (k : ChromaSampling). place_in (xdec_of k) plane (sb_column c.x)) cs ∙ ap (λ x. x / h) column in
      let inside = columns_within h bo.x place.x (2 ^ (tx_width_log2 size - 2)) (one_or_two dec (nat_eq plane 0) (halved_once (sampling t))) n.column fit.columns in
      hides_plane c s plane (bo.x / h) (2 ^ (tx_width_log2 size - 2)) (bo.y % 16 / 2 ^ halvings (ydec_of (sampling t)) plane) (2 ^ (tx_height_log2 size - 2)) entry t.bc (subst (λ (k : ChromaSampling). plane < planes_of k) (sym cs) fit.plane_is) (omega (arith, first, inside.0)) (omega (arith, first, inside.1))
  one_hidden (Referred plane filter) at t fit is near cs = refl

  pub all_hidden : (es : List Effect) (at : Option BlockOffset) (t : Tile) → AllFit t es → AllAt at es → ForSome at (IsNear place.x place.y) → c.chroma_sampling ≡ sampling t →
      gone_back c s (changed_by_all es t).bc ≡ gone_back c s t.bc
  all_hidden [] at t fit is near cs = refl
  all_hidden (e ∷ es) at t fit is near cs =
      all_hidden es at (changed_by e t) fit.1 is.1 near (cs ∙ sym (ap (λ (g : Given). g.fi.sequence.chroma_sampling) (one_same e t).given)) ∙ one_hidden e at t fit.0 is.0 near cs
