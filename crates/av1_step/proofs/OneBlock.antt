-- A change of the one block at a place of the grid, and that it can be taken back.
use Rattle.std.proofs.Common.{◌≡◌, ℕ, ◌+◌, ◌-◌, ◌*◌, ◌/◌, ◌%◌, ◌<◌, ◌≤◌, ◌==◌, ◌&&◌, ◌||◌, min, nat_eq, nat_le, nat_lt, List, Bool, true, false, if◌then◌else◌, length, get_or, refl, sym, ap, subst, ◌∙◌, arith}
use Rattle.std.proofs.lemmas.Bool.Decides.{nat_tests}
use Rattle.std.proofs.lemmas.Nat.{div-mul-add, mod-mul-add, mul-add-lt, same_from_place}
use Rattle.av1_blocks.specs.declared.block.Block.{Block}
use Rattle.av1_blocks.specs.declared.block.TheConstants.Block.{DEFAULT}
use Rattle.av1_blocks.specs.Grid.{Grid, IsInside, block_at, covers, over}
use Rattle.av1_blocks.specs.Places.{changed, in_area, within}
use Rattle.av1_blocks.proofs.Places.{twice, changed-same, get_or-changed}
use Rattle.av1_geometry.specs.declared.block_offset.BlockOffset.{BlockOffset}
use Rattle.av1_geometry.specs.declared.block_size.BlockSize.TheVariants.{BLOCK_4X4}
use Rattle.av1_syntax.specs.Segments.{agreement, segment_before, predicted_segment, segment_context}
use Rattle.av1_step.specs.DeltaSteps.{IsWhole}
use Rattle.av1_step.proofs.Places.{both, is_at_most}
use Rattle.av1_step.proofs.IntraSteps.{is_less}

-- the one place that an area of one column and one row has
one_place : (cols rows fc left top x y k : ℕ) → x < cols → y < rows → left + x < fc → in_area fc (left + x) (left + min (x + 1) cols) (top + y) (top + min (y + 1) rows) k ≡ true → k ≡ (top + y) * fc + (left + x)
one_place cols rows fc left top x y k column row fit h =
    let m = k % fc in
    let q = k / fc in
    let two = both (within (left + x) (left + min (x + 1) cols) m) (within (top + y) (top + min (y + 1) rows) q) h in
    let across = both (nat_le (left + x) m) (nat_lt m (left + min (x + 1) cols)) two.0 in
    let down = both (nat_le (top + y) q) (nat_lt q (top + min (y + 1) rows)) two.1 in
    let column_is : m ≡ left + x = omega (arith, is_at_most _ _ across.0, is_less _ _ across.1, column) in
    let row_is : q ≡ top + y = omega (arith, is_at_most _ _ down.0, is_less _ _ down.1, row) in
    let some : 0 < fc = omega (arith, fit) in
    let split : k ≡ q * fc + m = omega (arith, some) in
    split ∙ ap (λ n. n * fc + m) row_is ∙ ap (λ n. (top + y) * fc + n) column_is

in_one : (cols rows left top x y : ℕ) → x < cols → y < rows → (within (left + x) (left + min (x + 1) cols) (left + x) && within (top + y) (top + min (y + 1) rows) (top + y)) ≡ true
in_one cols rows left top x y column row = grind (arith, nat_tests)

at_one : (cols rows fc left top x y : ℕ) → x < cols → y < rows → left + x < fc → in_area fc (left + x) (left + min (x + 1) cols) (top + y) (top + min (y + 1) rows) ((top + y) * fc + (left + x)) ≡ true
at_one cols rows fc left top x y column row fit =
    let k = (top + y) * fc + (left + x) in
    ap (λ m. within (left + x) (left + min (x + 1) cols) m && within (top + y) (top + min (y + 1) rows) (k / fc)) (mod-mul-add (top + y) fc (left + x) fit)
    ∙ ap (λ q. within (left + x) (left + min (x + 1) cols) (left + x) && within (top + y) (top + min (y + 1) rows) q) (div-mul-add (top + y) fc (left + x) fit)
    ∙ in_one cols rows left top x y column row

back_step : (f h : Block → Block) (c : Bool) (x : Block) → (c ≡ true → h (f x) ≡ x) → (if c then h (if c then f x else x) else (if c then f x else x)) ≡ x
back_step f h true x e = e refl
back_step f h false x e = refl

other_step : (f : Block → Block) (c : Bool) (x : Block) → (c ≡ true → ⊥) → (if c then f x else x) ≡ x
other_step f true x n = absurd (n refl)
other_step f false x n = refl

module _ (g : Grid) (bo : BlockOffset) (w : IsWhole g) (i : IsInside g bo) where
  -- its number
  abbrev here : ℕ
  here = (g.y + bo.y) * g.frame.frame_cols + (g.x + bo.x)

  fit : (x : ℕ) → x < g.cols → g.x + x < g.frame.frame_cols
  fit x h = omega (arith, h, w.corner.0, w.cols)

  pub there : (x y : ℕ) → x < g.cols → y < g.rows → (g.y + y) * g.frame.frame_cols + (g.x + x) < length g.frame.blocks
  there x y column row =
      let all : g.frame.frame_cols * g.rows ≡ length g.frame.blocks = ap (λ c. c * g.rows) w.cols ∙ sym w.all in
      let down : g.y + y < g.rows = omega (arith, row, w.corner.1) in
      subst (λ n. (g.y + y) * g.frame.frame_cols + (g.x + x) < n) all (mul-add-lt (g.y + y) g.frame.frame_cols (g.x + x) g.rows down (fit x column))

  covered : covers g bo BLOCK_4X4 here ≡ true
  covered = at_one g.cols g.rows g.frame.frame_cols g.x g.y bo.x bo.y i.column i.row (fit bo.x i.column)

  only : (k : ℕ) → covers g bo BLOCK_4X4 k ≡ true → k ≡ here
  only k h = one_place g.cols g.rows g.frame.frame_cols g.x g.y bo.x bo.y k i.column i.row (fit bo.x i.column) h

  -- what stands there after a change
  pub block_here : (f : Block → Block) → block_at (over bo BLOCK_4X4 f g) bo.x bo.y ≡ f (block_at g bo.x bo.y)
  block_here f =
      get_or-changed (λ k b. if covers g bo BLOCK_4X4 k then f b else b) g.frame.blocks here DEFAULT (there bo.x bo.y i.column i.row)
      ∙ ap (λ c. if c then f (get_or g.frame.blocks here DEFAULT) else get_or g.frame.blocks here DEFAULT) covered

  -- a change that takes another back
  pub taken_back : (f h : Block → Block) → h (f (block_at g bo.x bo.y)) ≡ block_at g bo.x bo.y → over bo BLOCK_4X4 h (over bo BLOCK_4X4 f g) ≡ g
  taken_back f h e =
      let bs = g.frame.blocks in
      let first = λ (k : ℕ) (b : Block). if covers g bo BLOCK_4X4 k then f b else b in
      let second = λ (k : ℕ) (b : Block). if covers g bo BLOCK_4X4 k then h b else b in
      let same : changed second (changed first bs) ≡ bs =
      twice second first bs
      ∙ changed-same (λ k b. second k (first k b)) bs DEFAULT
      (λ k l. back_step f h (covers g bo BLOCK_4X4 k) (get_or bs k DEFAULT) (λ c. subst (λ n. h (f (get_or bs n DEFAULT)) ≡ get_or bs n DEFAULT) (sym (only k c)) e)) in
      ap (λ (l : List Block). record g { frame = record g.frame { blocks = l } }) same

  -- what stands elsewhere
  pub elsewhere : (f : Block → Block) (x y : ℕ) → x < g.cols → y < g.rows → ((x ≡ bo.x) × (y ≡ bo.y) → ⊥) → block_at (over bo BLOCK_4X4 f g) x y ≡ block_at g x y
  elsewhere f x y column row apart =
      let k = (g.y + y) * g.frame.frame_cols + (g.x + x) in
      get_or-changed (λ k b. if covers g bo BLOCK_4X4 k then f b else b) g.frame.blocks k DEFAULT (there x y column row)
      ∙ other_step f (covers g bo BLOCK_4X4 k) (get_or g.frame.blocks k DEFAULT)
      (λ c. let same = same_from_place (g.y + y) (g.x + x) (g.y + bo.y) (g.x + bo.x) g.frame.frame_cols (fit x column) (fit bo.x i.column) (only k c) in apart (omega (arith, same.1), omega (arith, same.0)))

  -- the segments around it
  before : (f : Block → Block) (dx dy : ℕ) → 0 < dx + dy → dx ≤ bo.x → dy ≤ bo.y → segment_before (over bo BLOCK_4X4 f g) bo dx dy ≡ segment_before g bo dx dy
  before f dx dy some across down =
      ap (λ (b : Block). b.segmentation_idx)
      (elsewhere f (bo.x - dx) (bo.y - dy) (omega (arith, i.column)) (omega (arith, i.row)) (λ e. omega (arith, e.0, e.1, some, across, down)))

  predicted : (x y : Bool) (last left above corner left' above' corner' : ℕ) → (x ≡ false → left' ≡ left) → (y ≡ false → above' ≡ above) → (x ≡ false → y ≡ false → corner' ≡ corner) →
      min last (if x then (if y then 0 else above') else if y then left' else if nat_eq corner' above' then above' else left')
      ≡ min last (if x then (if y then 0 else above) else if y then left else if nat_eq corner above then above else left)
  predicted true true last l a c l' a' c' el ea ec = refl
  predicted true false last l a c l' a' c' el ea ec = ap (min last) (ea refl)
  predicted false true last l a c l' a' c' el ea ec = ap (min last) (el refl)
  predicted false false last l a c l' a' c' el ea ec =
      ap (λ n. min last (if nat_eq n a' then a' else l')) (ec refl refl)
      ∙ ap (λ n. min last (if nat_eq c n then n else l')) (ea refl)
      ∙ ap (λ n. min last (if nat_eq c a then a else n)) (el refl)

  in_context : (x y : Bool) (left above corner left' above' corner' : ℕ) → (x ≡ false → left' ≡ left) → (y ≡ false → above' ≡ above) → (x ≡ false → y ≡ false → corner' ≡ corner) →
      (if x || y then 0 else agreement corner' above' left') ≡ (if x || y then 0 else agreement corner above left)
  in_context true y l a c l' a' c' el ea ec = refl
  in_context false true l a c l' a' c' el ea ec = refl
  in_context false false l a c l' a' c' el ea ec =
      ap (λ n. agreement n a' l') (ec refl refl) ∙ ap (λ n. agreement c n l') (ea refl) ∙ ap (λ n. agreement c a n) (el refl)

  above_zero : (n : ℕ) → (n == 0) ≡ false → 1 ≤ n
  above_zero n h = grind (arith, nat_tests)

  -- what they predict, and how far they agree
  pub prediction_stays : (f : Block → Block) (last : ℕ) → predicted_segment (over bo BLOCK_4X4 f g) bo last ≡ predicted_segment g bo last
  prediction_stays f last =
      predicted (bo.x == 0) (bo.y == 0) last _ _ _ _ _ _ (λ x. before f 1 0 (omega arith) (above_zero bo.x x) (omega arith)) (λ y. before f 0 1 (omega arith) (omega arith) (above_zero bo.y y))
      (λ x y. before f 1 1 (omega arith) (above_zero bo.x x) (above_zero bo.y y))

  pub context_stays : (f : Block → Block) → segment_context (over bo BLOCK_4X4 f g) bo ≡ segment_context g bo
  context_stays f =
      in_context (bo.x == 0) (bo.y == 0) _ _ _ _ _ _ (λ x. before f 1 0 (omega arith) (above_zero bo.x x) (omega arith)) (λ y. before f 0 1 (omega arith) (omega arith) (above_zero bo.y y))
      (λ x y. before f 1 1 (omega arith) (above_zero bo.x x) (above_zero bo.y y))
