-- What is kept of a superblock, put back at once, changes nothing.
use Rattle.std.proofs.Common.{◌≡◌, ℕ, ◌+◌, ◌-◌, ◌*◌, ◌/◌, ◌%◌, ◌^◌, ◌<◌, ◌≤◌, List, [], Bool, true, false, ◌&&◌, nat_lt, if◌then◌else◌, get_or, length, min, replicate, slice_range, refl, sym, ap, ◌∙◌, arith, inl, inr, subst, ◌⊎◌, nat_eq}
use Rattle.std.proofs.Math.Nat.{mul-le-mul_right}
use Rattle.std.proofs.lemmas.Bool.Decides.{nat_tests}
use Rattle.std.proofs.lemmas.List.FromFn.{get_or-map-range_with_len}
use Rattle.av1_geometry.specs.declared.block_offset.BlockOffset.{BlockOffset}
use Rattle.av1_geometry.specs.declared.block_size.BlockSize.TheVariants.{BLOCK_64X64}
use Rattle.av1_geometry.specs.declared.chroma_sampling.ChromaSampling.{ChromaSampling}
use Rattle.av1_geometry.specs.declared.superblock_offset.SuperBlockOffset.{SuperBlockOffset}
use Rattle.av1_geometry.specs.ChromaSampling.{xdec_of, planes_of}
use Rattle.av1_blocks.specs.declared.block.Block.{Block}
use Rattle.av1_blocks.specs.declared.block.TheConstants.Block.{DEFAULT}
use Rattle.av1_blocks.specs.declared.block_context.BlockContext.{BlockContext}
use Rattle.av1_blocks.specs.Edges.{HasEdges, place_in, put_planes, taken, taken_planes, with_edges}
use Rattle.av1_blocks.specs.GoingBack.{gone_back}
use Rattle.av1_blocks.specs.Grid.{Grid, block_at, covers}
use Rattle.av1_blocks.specs.Places.{put, sb_column, within}
use Rattle.av1_blocks.specs.Saved.{first_block, saved_at, saved_of, with_saved}
use Rattle.av1_blocks.proofs.GoingBack.{halved_once, one_or_two}
use Rattle.av1_blocks.proofs.Places.{changed-same, get_or-changed, put-taken, row_of}

-- what was there, where it is taken and put by the same test
kept : {A : Type 0} (t : Bool) (s r e : A) (f : A → A) → f s ≡ e → (if t then f (if t then s else r) else e) ≡ e
kept true s r e f h = h
kept false s r e f h = refl

same_or : {A : Type 0} (t : Bool) (a b : A) → (t ≡ true → a ≡ b) → (if t then a else b) ≡ b
same_or true a b h = h refl
same_or false a b h = refl

divided : (m n : ℕ) → (m ≡ 1) ⊎ (m ≡ 2) → n / m ≤ n
divided m n h = elim h [
  | inl one ↦ subst (λ m. n / m ≤ n) (sym one) (omega arith)
  | inr two ↦ subst (λ m. n / m ≤ n) (sym two) (omega arith)
]

plane_back : (n dec x k : ℕ) (edges : List (List ℕ)) → dec < 2 → x ≤ 1008 → k < 3 → length (get_or edges k []) ≡ 1024 →
    (if nat_lt k n then put (place_in dec k x) 16 (get_or (taken_planes n dec x edges) k []) (get_or edges k []) else get_or edges k []) ≡ get_or edges k []
plane_back n dec x k edges d h few long =
    let at = place_in dec k x in
    let edge = get_or edges k [] in
    let none = replicate 3 (replicate 16 0) in
    let there = get_or-changed (λ p v. if nat_lt p n then slice_range (get_or edges p []) (place_in dec p x) (place_in dec p x + 16) else v) none k [] few in
    let small = divided (2 ^ (if nat_eq k 0 then 0 else dec)) x (one_or_two dec (nat_eq k 0) d) in
    ap (λ v. if nat_lt k n then put at 16 v edge else edge) there
    ∙ kept (nat_lt k n) (slice_range edge at (at + 16)) (get_or none k []) edge (λ v. put at 16 v edge) (put-taken at 16 edge (omega (arith, long, small, h)))

edges_back : (bo : BlockOffset) (cs : ChromaSampling) (bc : BlockContext) → HasEdges bc → with_edges (taken bo cs bc) bc ≡ bc
edges_back bo cs bc is =
    let x = sb_column bo.x in
    let n = planes_of cs in
    let dec = xdec_of cs in
    let edges = bc.above_coeff_context in
    let partitions = slice_range bc.above_partition_context (x / 2) (x / 2 + 8) in
    let sides = slice_range bc.above_tx_context x (x + 16) in
    let once : sb_column x ≡ x = omega arith in
    let low : x ≤ 1008 = omega arith in
    let planes = λ (y : ℕ). put_planes n dec y (taken_planes n dec x edges) edges in
    let from : ℕ → BlockContext = λ y. record bc {
      above_partition_context = put (y / 2) 8 partitions bc.above_partition_context;
      above_tx_context = put y 16 sides bc.above_tx_context;
      above_coeff_context = planes y;
    } in
    ap from once
    ∙ ap (λ (edge : List ℕ). record (from x) { above_partition_context = edge }) (put-taken (x / 2) 8 bc.above_partition_context (omega (arith, low, is.above_partition)))
    ∙ ap (λ (edge : List ℕ). record bc { above_tx_context = edge; above_coeff_context = planes x }) (put-taken x 16 bc.above_tx_context (omega (arith, low, is.above_tx)))
    ∙ ap (λ (edges : List (List ℕ)). record bc { above_coeff_context = edges })
    (changed-same _ edges [] (λ k l. let few : k < 3 = omega (arith, l, is.above_planes) in plane_back n dec x k edges (halved_once cs) low few (is.above_coeff k few)))

within_at : (from to k : ℕ) → within from to k ≡ true → (from ≤ k) × (k < to)
within_at from to k e = (grind (arith, nat_tests), grind (arith, nat_tests))

both_true : (a b : Bool) → (a && b) ≡ true → (a ≡ true) × (b ≡ true)
both_true true true e = (refl, refl)
both_true true false e = let no : false ≡ true = e in cc
both_true false b e = let no : false ≡ true = e in cc

-- the place of a saved block gives its column and row
saved_place : (row col h w : ℕ) → row < h → col < w → (row * w + col < h * w) × ((row * w + col) % w ≡ col) × ((row * w + col) / w ≡ row)
saved_place row col h w r c =
    let i = row * w + col in
    let down : i / w ≡ row = row_of w w row (i / w) (i % w) i (omega (arith, c)) (omega (arith, c)) (omega arith) (omega arith) (omega (arith, c)) in
    let below = mul-le-mul_right {m = row + 1} {n = h} w (omega (arith, r)) in
    let whole = ap (λ q. q * w) down in
    (omega (arith, below, c), omega (arith, whole), down)

block_back : (sbo : SuperBlockOffset) (g : Grid) (k : ℕ) → covers g (first_block sbo) BLOCK_64X64 k ≡ true → saved_at (saved_of sbo g) g k ≡ get_or g.frame.blocks k DEFAULT
block_back sbo g k e =
    let cols = g.frame.frame_cols in
    let px = 16 * sbo.x in
    let py = 16 * sbo.y in
    let w = min (g.cols - px) 16 in
    let h = min (g.rows - py) 16 in
    let parts = both_true _ _ e in
    let c = within_at (g.x + px) (g.x + min (px + 16) g.cols) (k % cols) parts.0 in
    let r = within_at (g.y + py) (g.y + min (py + 16) g.rows) (k / cols) parts.1 in
    let col = k % cols - (g.x + px) in
    let row = k / cols - (g.y + py) in
    let at = saved_place row col h w (omega (arith, r.0, r.1)) (omega (arith, c.0, c.1)) in
    let line : g.y + (py + row) ≡ k / cols = omega (arith, r.0) in
    let place : k / cols * cols + (g.x + (px + col)) ≡ k = omega (arith, c.0) in
    let f = λ (k : ℕ). block_at g (px + k % w) (py + k / w) in
    get_or-map-range_with_len f 0 (h * w) (row * w + col) (row * w + col) DEFAULT at.0 (omega arith)
    ∙ ap (λ m. block_at g (px + m) (py + (row * w + col) / w)) at.1
    ∙ ap (λ q. block_at g (px + col) (py + q)) at.2
    ∙ ap (λ n. get_or g.frame.blocks (n * cols + (g.x + (px + col))) DEFAULT) line
    ∙ ap (λ n. get_or g.frame.blocks n DEFAULT) place

blocks_back : (sbo : SuperBlockOffset) (g : Grid) → with_saved (saved_of sbo g) g ≡ g
blocks_back sbo g =
    ap (λ (blocks : List Block). record g { frame = record g.frame { blocks = blocks } })
    (changed-same _ g.frame.blocks DEFAULT (λ k l. same_or (covers g (first_block sbo) BLOCK_64X64 k) _ _ (block_back sbo g k)))

pub gives_back : (bo : BlockOffset) (cs : ChromaSampling) (sbo : SuperBlockOffset) (bc : BlockContext) → HasEdges bc → gone_back (taken bo cs bc) (saved_of sbo bc.blocks) bc ≡ bc
gives_back bo cs sbo bc is =
    ap (λ (g : Grid). record (with_edges (taken bo cs bc) bc) { blocks = g }) (blocks_back sbo bc.blocks) ∙ edges_back bo cs bc is
