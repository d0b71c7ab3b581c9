-- What a block keeps of its neighbours stays right while it is entered itself.
use Rattle.std.proofs.Common.{◌≡◌, ℕ, ◌+◌, ◌-◌, ◌*◌, ◌/◌, ◌<◌, ◌≤◌, [], ◌∷◌, Bool, true, false, ◌&&◌, if◌then◌else◌, nat_lt, min, refl, sym, ap, subst, ◌∙◌, arith}
use Rattle.std.proofs.lemmas.Bool.Decides.{nat_tests}
use Rattle.std.proofs.lemmas.Nat.{mul-add-lt, div-mul-add, mod-mul-add}
use Rattle.av1_blocks.specs.declared.block.Block.{Block}
use Rattle.av1_blocks.specs.declared.block.TheConstants.Block.{DEFAULT}
use Rattle.av1_blocks.specs.declared.block_context.BlockContext.{BlockContext}
use Rattle.av1_blocks.specs.Grid.{Grid, IsInside, block_at, covers, over}
use Rattle.av1_blocks.specs.Places.{within}
use Rattle.av1_blocks.proofs.Places.{get_or-changed}
use Rattle.av1_geometry.specs.BlockSize.{width_mi, height_mi}
use Rattle.av1_geometry.specs.declared.block_offset.BlockOffset.{BlockOffset}
use Rattle.av1_geometry.specs.declared.block_size.BlockSize.{BlockSize}
use Rattle.av1_geometry.specs.declared.block_size.BlockSize.TheVariants.{BLOCK_4X4}
use Rattle.av1_mvref.specs.References.{times, count_of, counts}
use Rattle.av1_syntax.specs.RefFrames.{LiesIn, with_counts}

both : (x y : Bool) → x ≡ true → y ≡ true → (x && y) ≡ true
both true true h k = refl
both true false h k = absurd cc
both false y h k = absurd cc

second_off : (x y : Bool) → y ≡ false → (x && y) ≡ false
second_off true y h = h
second_off false y h = refl

first_off : (x y : Bool) → x ≡ false → (x && y) ≡ false
first_off true y h = absurd cc
first_off false y h = refl

sides : (size : BlockSize) → (1 ≤ width_mi size) × (1 ≤ height_mi size)
sides BLOCK_4X4 = (omega arith, omega arith)
sides _ = (omega arith, omega arith)

-- a change over a block, as a place of the tile sees it
module _ (g : Grid) (bo : BlockOffset) (size : BlockSize) (f : Block → Block) (lies : LiesIn g) (inside : IsInside g bo) where
  abbrev cols : ℕ
  cols = g.frame.frame_cols

  abbrev h : Grid
  h = over bo size f g

  abbrev covered : ℕ → ℕ → Bool
  covered x y = within (g.x + bo.x) (g.x + min (bo.x + width_mi size) g.cols) (g.x + x) && within (g.y + bo.y) (g.y + min (bo.y + height_mi size) g.rows) (g.y + y)

  module _ (x y : ℕ) (l : x < g.cols) (k : y < g.rows) where
    abbrev place : ℕ
    place = (g.y + y) * cols + (g.x + x)

    column : g.x + x < cols
    column = omega (arith, l, lies.columns)

    seen : covers g bo size place ≡ covered x y
    seen =
        let m = mod-mul-add (g.y + y) cols (g.x + x) column in
        let d = div-mul-add (g.y + y) cols (g.x + x) column in
        ap (λ c. within (g.x + bo.x) (g.x + min (bo.x + width_mi size) g.cols) c && within (g.y + bo.y) (g.y + min (bo.y + height_mi size) g.rows) (place / cols)) m
        ∙ ap (λ c. within (g.x + bo.x) (g.x + min (bo.x + width_mi size) g.cols) (g.x + x) && within (g.y + bo.y) (g.y + min (bo.y + height_mi size) g.rows) c) d

    block_over : block_at h x y ≡ (if covered x y then f (block_at g x y) else block_at g x y)
    block_over =
        let few = mul-add-lt (g.y + y) cols (g.x + x) g.frame.frame_rows (omega (arith, k, lies.rows)) column in
        get_or-changed (λ k b. if covers g bo size k then f b else b) g.frame.blocks place DEFAULT (subst (λ n. place < n) (sym lies.frame.size) few) ∙ ap (λ (b : Bool). if b then f (block_at g x y) else block_at g x y) seen

  here : covered bo.x bo.y ≡ true
  here =
      let s = sides size in
      let a = inside.column in
      let b = inside.row in
      both (within (g.x + bo.x) (g.x + min (bo.x + width_mi size) g.cols) (g.x + bo.x)) _ (grind (arith, nat_tests, s, a)) (grind (arith, nat_tests, s, b))

  pub entered_here : block_at h bo.x bo.y ≡ f (block_at g bo.x bo.y)
  entered_here = block_over bo.x bo.y inside.column inside.row ∙ ap (λ (b : Bool). if b then f (block_at g bo.x bo.y) else block_at g bo.x bo.y) here

  above_same : nat_lt 0 bo.y ≡ true → block_at h bo.x (bo.y - 1) ≡ block_at g bo.x (bo.y - 1)
  above_same t =
      let some : 0 < bo.y = grind (arith, nat_tests, t) in
      let off : within (g.y + bo.y) (g.y + min (bo.y + height_mi size) g.rows) (g.y + (bo.y - 1)) ≡ false = grind (arith, nat_tests, some) in
      block_over bo.x (bo.y - 1) inside.column (omega (arith, inside.row))
      ∙ ap (λ (b : Bool). if b then f (block_at g bo.x (bo.y - 1)) else block_at g bo.x (bo.y - 1)) (second_off (within (g.x + bo.x) (g.x + min (bo.x + width_mi size) g.cols) (g.x + bo.x)) _ off)

  left_same : nat_lt 0 bo.x ≡ true → block_at h (bo.x - 1) bo.y ≡ block_at g (bo.x - 1) bo.y
  left_same t =
      let some : 0 < bo.x = grind (arith, nat_tests, t) in
      let off : within (g.x + bo.x) (g.x + min (bo.x + width_mi size) g.cols) (g.x + (bo.x - 1)) ≡ false = grind (arith, nat_tests, some) in
      block_over (bo.x - 1) bo.y (omega (arith, inside.column)) inside.row ∙ ap (λ (b : Bool). if b then f (block_at g (bo.x - 1) bo.y) else block_at g (bo.x - 1) bo.y) (first_off _ _ off)

  where_there : (b : Bool) (c d : Block) (r : ℕ) → (b ≡ true → c ≡ d) → (if b then times c r else 0) ≡ (if b then times d r else 0)
  where_there true c d r e = ap (λ b. times b r) (e refl)
  where_there false c d r e = refl

  count_same : (r : ℕ) → count_of h bo r ≡ count_of g bo r
  count_same r = λ i. where_there (nat_lt 0 bo.y) (block_at h bo.x (bo.y - 1)) (block_at g bo.x (bo.y - 1)) r above_same i + where_there (nat_lt 0 bo.x) (block_at h (bo.x - 1) bo.y) (block_at g (bo.x - 1) bo.y) r left_same i

  pub counts_same : counts h bo ≡ counts g bo
  counts_same = λ i. count_same 1 i ∷ count_same 2 i ∷ count_same 3 i ∷ count_same 4 i ∷ count_same 5 i ∷ count_same 6 i ∷ count_same 7 i ∷ []

pub counts_noted : (bo : BlockOffset) (bc : BlockContext) → LiesIn bc.blocks → IsInside bc.blocks bo → let g = (with_counts bo bc).blocks in (block_at g bo.x bo.y).neighbors_ref_counts ≡ counts g bo
counts_noted bo bc lies inside =
    let block = record (block_at bc.blocks bo.x bo.y) { neighbors_ref_counts = counts bc.blocks bo } in
    ap (λ (b : Block). b.neighbors_ref_counts) (entered_here bc.blocks bo BLOCK_4X4 (λ _. block) lies inside) ∙ sym (counts_same bc.blocks bo BLOCK_4X4 (λ _. block) lies inside)
