-- References that were coded as those of the one block at a place, and the states after steps of inter blocks.
use Rattle.std.proofs.Common.{◌≡◌, ℕ, ◌+◌, ◌-◌, ◌*◌, List, [], ◌∷◌, Bool, true, false, Some, None, Result, if◌then◌else◌, codes, get_or, nat_lt, refl, sym, ap, subst, ◌∙◌, arith}
use Rattle.av1_blocks.specs.declared.block.Block.{Block}
use Rattle.av1_blocks.specs.declared.block.TheConstants.Block.{DEFAULT}
use Rattle.av1_blocks.specs.declared.block_context.BlockContext.{BlockContext}
use Rattle.av1_blocks.specs.Grid.{Grid, IsInside, block_at, covers, over}
use Rattle.av1_blocks.specs.Sound.{IsReady, IsSound as IsSoundBlock}
use Rattle.av1_blocks.proofs.Places.{get_or-changed, same, twice}
use Rattle.av1_cdf.specs.Distribution.{Distribution}
use Rattle.av1_cdf.specs.Layout.{slot}
use Rattle.av1_geometry.specs.declared.block_offset.BlockOffset.{BlockOffset}
use Rattle.av1_geometry.specs.declared.block_size.BlockSize.{BlockSize}
use Rattle.av1_geometry.specs.declared.block_size.BlockSize.TheVariants.{BLOCK_4X4}
use Rattle.av1_geometry.specs.declared.frame_type.ReferenceMode.{ReferenceMode}
use Rattle.av1_geometry.specs.declared.prediction_mode.PredictionMode.{PredictionMode}
use Rattle.av1_geometry.specs.declared.ref_type.RefType.{RefType}
use Rattle.av1_model.specs.Comes.{Standing, Wrote}
use Rattle.av1_model.specs.Element.{Element, after as and_then, choose, symbol}
use Rattle.av1_mvref.specs.References.{by_counts, comp_mode_context, comp_ref_type_context, count_of, counts, refs_above, refs_left, refs_of as refs_there, times}
use Rattle.av1_syntax.specs.Calls.{Context, adaptive, coded_in, learnt_in}
use Rattle.av1_syntax.specs.Decisions.{decide}
use Rattle.av1_syntax.specs.Flags.{flag_number}
use Rattle.av1_syntax.specs.RefFrames.{both_sides_of, contexts_at, is_pair, may_be_pair, one_element, pair_element, ref_frames_at, ref_frames_element, refs_of, AreRefFrames}
use Rattle.av1_step.specs.declared.step.TileStep.TheVariants.{IsInter, RefFrames}
use Rattle.av1_step.specs.DeltaSteps.{IsWhole}
use Rattle.av1_step.specs.InterSteps.{first_mode, first_refs, is_inter_kind, mode_of_refs, ref_frames_kind}
use Rattle.av1_step.specs.Step.{entered}
use Rattle.av1_step.specs.Tile.{Tile, CurrentBlock, place_of_block, size_of_block, with_numbers}
use Rattle.av1_step.proofs.InterSteps.{counts_few, first_within}
use Rattle.av1_step.proofs.IntraSteps.{is_less}
use Rattle.av1_step.proofs.OfCurrent.{current_entered}
use Rattle.av1_step.proofs.OneBlock.{block_here, elsewhere, there}

-- a block that gets references is still sound
pub refs_sound : (g : Grid) (bo : BlockOffset) (x : Block) (two : Bool) (rs : RefType × RefType) → IsSoundBlock x → AreRefFrames two rs → IsSoundBlock (record x { ref_frames = rs.0 ∷ rs.1 ∷ []; neighbors_ref_counts = counts g bo })
refs_sound g bo x two rs s are = record {
  width = s.width;
  height = s.height;
  first_valid = s.first_valid;
  second_valid = s.second_valid;
  counts = counts_few g bo;
  refers = λ i. (first_within two rs are).0;
  refers_within = λ i. (first_within two rs are).1;
}

-- what a neighbour tells is not by a block that is none
times_there : (b : Bool) (r : ℕ) (c d : Block) → (b ≡ true → c ≡ d) → (if b then times c r else 0) ≡ (if b then times d r else 0)
times_there true r c d e = ap (λ (x : Block). times x r) (e refl)
times_there false r c d e = refl

refs_same : (b : Bool) (c d : Block) → (b ≡ true → c ≡ d) → refs_there b c ≡ refs_there b d
refs_same true c d e = ap (refs_there true) (e refl)
refs_same false c d e = refl

-- a grid where another block stands at a place
module _ (g : Grid) (bo : BlockOffset) (w : IsWhole g) (inside : IsInside g bo) (x : Block) where
  abbrev next : Grid
  next = over bo BLOCK_4X4 (λ (y : Block). x) g

  above : nat_lt 0 bo.y ≡ true → block_at next bo.x (bo.y - 1) ≡ block_at g bo.x (bo.y - 1)
  above t = let some = is_less 0 bo.y t in elsewhere g bo w inside (λ (y : Block). x) bo.x (bo.y - 1) inside.column (omega (arith, inside.row)) (λ e. omega (arith, e.1, some))

  left : nat_lt 0 bo.x ≡ true → block_at next (bo.x - 1) bo.y ≡ block_at g (bo.x - 1) bo.y
  left t = let some = is_less 0 bo.x t in elsewhere g bo w inside (λ (y : Block). x) (bo.x - 1) bo.y (omega (arith, inside.column)) inside.row (λ e. omega (arith, e.0, some))

  count_same : (r : ℕ) → count_of next bo r ≡ count_of g bo r
  count_same r =
      let a = times_there (nat_lt 0 bo.y) r (block_at next bo.x (bo.y - 1)) (block_at g bo.x (bo.y - 1)) above in
      let l = times_there (nat_lt 0 bo.x) r (block_at next (bo.x - 1) bo.y) (block_at g (bo.x - 1) bo.y) left in λ i. a i + l i

  -- the counts and contexts of its neighbours
  pub counts_same : counts next bo ≡ counts g bo
  counts_same = λ i. count_same 1 i ∷ count_same 2 i ∷ count_same 3 i ∷ count_same 4 i ∷ count_same 5 i ∷ count_same 6 i ∷ count_same 7 i ∷ []

  contexts_same : contexts_at next bo ≡ contexts_at g bo
  contexts_same =
      λ i.
      record {
        side = by_counts (count_same 1 i + count_same 2 i + count_same 3 i + count_same 4 i) (count_same 5 i + count_same 6 i + count_same 7 i);
        behind = by_counts (count_same 1 i + count_same 2 i) (count_same 3 i + count_same 4 i);
        early = by_counts (count_same 1 i) (count_same 2 i);
        late = by_counts (count_same 3 i) (count_same 4 i);
        ahead = by_counts (count_same 5 i + count_same 6 i) (count_same 7 i);
        near = by_counts (count_same 5 i) (count_same 6 i);
      }

  above_same : refs_above next bo ≡ refs_above g bo
  above_same = refs_same (nat_lt 0 bo.y) (block_at next bo.x (bo.y - 1)) (block_at g bo.x (bo.y - 1)) above

  left_same : refs_left next bo ≡ refs_left g bo
  left_same = refs_same (nat_lt 0 bo.x) (block_at next (bo.x - 1) bo.y) (block_at g (bo.x - 1) bo.y) left

  -- the block itself
  pub stands : block_at next bo.x bo.y ≡ x
  stands = block_here g bo w inside (λ (y : Block). x)

  -- so the element is the same
  pub element_same : (mode : ReferenceMode) → may_be_pair mode x ≡ may_be_pair mode (block_at g bo.x bo.y) → ref_frames_element next bo mode ≡ ref_frames_element g bo mode
  element_same mode e =
      let two = ap (may_be_pair mode) stands ∙ e in
      λ i.
      let one = one_element (contexts_same i) in
      let side = symbol (adaptive (codes "comp_ref_type_cdf") (comp_ref_type_context (above_same i) (left_same i) ∷ [])) both_sides_of flag_number in
      let pair = and_then side (λ on. pair_element (contexts_same i)) (λ rs. true) in
      choose (two i) (decide is_pair (slot (codes "comp_mode_cdf") (comp_mode_context (above_same i) (left_same i) ∷ [])) pair one) one

  -- the neighbours can still be looked at
  pub ready_with : IsReady g → IsSoundBlock x → IsReady next
  ready_with r s = record {
    columns = r.columns;
    rows = r.rows;
    sound = λ a b column row.
        let k = (g.y + b) * g.frame.frame_cols + (g.x + a) in
        let change = λ (j : ℕ) (y : Block). if covers g bo BLOCK_4X4 j then x else y in
        subst IsSoundBlock (sym (get_or-changed change g.frame.blocks k DEFAULT (there g bo w inside a b column row)))
        (elim (covers g bo BLOCK_4X4 k) as (λ c. IsSoundBlock (if c then x else get_or g.frame.blocks k DEFAULT)) [ true ↦ s | false ↦ r.sound a b column row ]);
  }

-- a block that has references, and knows how often its neighbours refer to each
abbrev with_refs : Grid → BlockOffset → RefType × RefType → Block
with_refs g bo rs = record (block_at g bo.x bo.y) { ref_frames = rs.0 ∷ rs.1 ∷ []; neighbors_ref_counts = counts g bo }

-- a grid where such a block was entered
abbrev pub HasEntered : Grid → BlockOffset → RefType × RefType → Grid → Type 0
HasEntered g bo rs h = h ≡ over bo BLOCK_4X4 (λ (y : Block). with_refs g bo rs) g

pub has_entered : (g h : Grid) (bo : BlockOffset) (rs : RefType × RefType) (b : Block) (l : List ℕ) → b ≡ block_at g bo.x bo.y → l ≡ counts g bo → h ≡ over bo BLOCK_4X4 (λ (y : Block). record b { ref_frames = rs.0 ∷ rs.1 ∷ []; neighbors_ref_counts = l }) g → HasEntered g bo rs h
has_entered g h bo rs b l is counted set =
    set
    ∙ ap (λ (x : Block). over bo BLOCK_4X4 (λ (y : Block). record x { ref_frames = rs.0 ∷ rs.1 ∷ []; neighbors_ref_counts = l }) g) is
    ∙ ap (λ (n : List ℕ). over bo BLOCK_4X4 (λ (y : Block). record (block_at g bo.x bo.y) { ref_frames = rs.0 ∷ rs.1 ∷ []; neighbors_ref_counts = n }) g) counted

-- there references can be coded, and what is coded is what the grid before asks for
module _ (g h : Grid) (bo : BlockOffset) (mode : ReferenceMode) (rs : RefType × RefType) (w : IsWhole g) (inside : IsInside g bo) (is : HasEntered g bo rs h) where
  here : block_at h bo.x bo.y ≡ with_refs g bo rs
  here = ap (λ (k : Grid). block_at k bo.x bo.y) is ∙ stands g bo w inside (with_refs g bo rs)

  pub ready_there : IsReady g → AreRefFrames (may_be_pair mode (block_at g bo.x bo.y)) rs → IsReady h
  ready_there r are =
      subst IsReady (sym is) (ready_with g bo w inside (with_refs g bo rs) r (refs_sound g bo (block_at g bo.x bo.y) (may_be_pair mode (block_at g bo.x bo.y)) rs (r.sound bo.x bo.y inside.column inside.row) are))

  pub counts_there : (block_at h bo.x bo.y).neighbors_ref_counts ≡ counts h bo
  counts_there = ap (λ (x : Block). x.neighbors_ref_counts) here ∙ sym (ap (λ (k : Grid). counts k bo) is ∙ counts_same g bo w inside (with_refs g bo rs))

  pub refs_there_are : AreRefFrames (may_be_pair mode (block_at g bo.x bo.y)) rs → AreRefFrames (may_be_pair mode (block_at h bo.x bo.y)) (ref_frames_at h bo)
  refs_there_are are = subst (λ (x : Block). AreRefFrames (may_be_pair mode x) (refs_of x)) (sym here) are

  pub coded_there : {U E : Type 0} (r : Result U E) (from to : Standing Context) → Wrote coded_in learnt_in r (ref_frames_element h bo mode).tree (ref_frames_at h bo) from to → Wrote coded_in learnt_in r (ref_frames_element g bo mode).tree rs from to
  coded_there r from to wrote =
      let element : ref_frames_element h bo mode ≡ ref_frames_element g bo mode = ap (λ (k : Grid). ref_frames_element k bo mode) is ∙ element_same g bo w inside (with_refs g bo rs) mode refl in
      subst (λ (e : Element Distribution (RefType × RefType)). Wrote coded_in learnt_in r e.tree rs from to) element
      (subst (λ (s : RefType × RefType). Wrote coded_in learnt_in r (ref_frames_element h bo mode).tree s from to) (ap refs_of here) wrote)

over_step : (c : Bool) (f h : Block → Block) (x : Block) → (if c then h (if c then f x else x) else (if c then f x else x)) ≡ (if c then h (f x) else x)
over_step true f h x = refl
over_step false f h x = refl

-- two changes over a block are one
pub over_twice : (bo : BlockOffset) (size : BlockSize) (f h : Block → Block) (g : Grid) → over bo size h (over bo size f g) ≡ over bo size (λ x. h (f x)) g
over_twice bo size f h g =
    let first = λ (k : ℕ) (x : Block). if covers g bo size k then f x else x in
    let second = λ (k : ℕ) (x : Block). if covers g bo size k then h x else x in
    ap (λ (l : List Block). record g { frame = record g.frame { blocks = l } }) (twice second first g.frame.blocks ∙ same (λ k x. second k (first k x)) (λ k x. if covers g bo size k then h (f x) else x) g.frame.blocks (λ k x. over_step (covers g bo size k) f h x))

-- references and a mode are entered over a block
abbrev referring : RefType × RefType → PredictionMode → Block → Block
referring rs m x = record x { ref_frames = rs.0 ∷ rs.1 ∷ []; mode = m }

pub is_inter_entered : (t : Tile) (fc : List ℕ) (b : CurrentBlock) (on : Bool) (rs : RefType × RefType) (m : PredictionMode) (bc : BlockContext) (grid : Grid) → t.current ≡ Some b → bc ≡ t.bc → rs ≡ first_refs on → m ≡ first_mode on →
    grid ≡ over (place_of_block b) (size_of_block b) (λ x. record x { ref_frames = rs.0 ∷ rs.1 ∷ []; mode = m }) bc.blocks → record t { numbers = fc; bc = record bc { blocks = grid }; cands = None } ≡ entered (IsInter on) (with_numbers fc t)
is_inter_entered t fc b on rs m bc grid current rest refs mode set =
    let u = with_numbers fc t in
    let bo = place_of_block b in
    let size = size_of_block b in
    let after = λ (c : BlockContext) (r : RefType × RefType) (n : PredictionMode). record t { numbers = fc; bc = record c { blocks = over bo size (referring r n) c.blocks }; cands = None } in
    ap (λ (g : Grid). record t { numbers = fc; bc = record bc { blocks = g }; cands = None }) set
    ∙ ap (λ (c : BlockContext). after c rs m) rest
    ∙ ap (λ (r : RefType × RefType). after t.bc r m) refs
    ∙ ap (λ (n : PredictionMode). after t.bc (first_refs on) n) mode
    ∙ current_entered IsInter (is_inter_kind u) u.current b current u on

pub ref_frames_entered : (t : Tile) (fc : List ℕ) (b : CurrentBlock) (rs : RefType × RefType) (m : PredictionMode) (bc : BlockContext) (noted grid : Grid) → t.current ≡ Some b → bc ≡ t.bc → m ≡ mode_of_refs rs →
    noted ≡ over (place_of_block b) BLOCK_4X4 (λ x. record x { neighbors_ref_counts = counts bc.blocks (place_of_block b) }) bc.blocks →
    grid ≡ over (place_of_block b) (size_of_block b) (λ x. record x { ref_frames = rs.0 ∷ rs.1 ∷ []; mode = m }) noted → record t { numbers = fc; bc = record bc { blocks = grid }; cands = None } ≡ entered (RefFrames rs) (with_numbers fc t)
ref_frames_entered t fc b rs m bc noted grid current rest mode note set =
    let u = with_numbers fc t in
    let bo = place_of_block b in
    let size = size_of_block b in
    let counting = λ (g : Grid). over bo BLOCK_4X4 (λ (x : Block). record x { neighbors_ref_counts = counts g bo }) g in
    let after = λ (c : BlockContext) (g : Grid). record t { numbers = fc; bc = record c { blocks = g }; cands = None } in
    ap (after bc) set
    ∙ ap (λ (g : Grid). after bc (over bo size (referring rs m) g)) note
    ∙ ap (λ (c : BlockContext). after c (over bo size (referring rs m) (counting c.blocks))) rest
    ∙ ap (λ (n : PredictionMode). after t.bc (over bo size (referring rs n) (counting t.bc.blocks))) mode
    ∙ current_entered RefFrames (ref_frames_kind u) u.current b current u rs
