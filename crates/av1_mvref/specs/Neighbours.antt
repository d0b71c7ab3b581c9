-- The neighbours of a block that are visited for vector candidates, in order, each with its weight
-- (AV1 specification, 7.10.2, without the temporal candidates: 7.10.2.2 rows, 7.10.2.3 columns, 7.10.2.4 corners).
use Rattle.std.specs.Prelude.{ℕ, zero, suc, ◌+◌, ◌-◌, ◌*◌, ◌%◌, min, max, List, [], ◌∷◌, ◌++◌}
use Rattle.std.specs.Prelude.{Bool, true, false, ◌&&◌, nat_le, nat_lt, fold, map, if◌then◌else◌}
use Rattle.av1_geometry.specs.declared.block_offset.BlockOffset.{BlockOffset}
use Rattle.av1_geometry.specs.declared.block_size.BlockSize.{BlockSize}
use Rattle.av1_geometry.specs.BlockSize.{width_mi, height_mi}
use Rattle.av1_blocks.specs.declared.block.Block.{Block}
use Rattle.av1_blocks.specs.Grid.{Grid, block_at}
use Rattle.av1_mvref.specs.declared.edge.BlockEdge.{BlockEdge}
use Rattle.av1_mvref.specs.declared.edge.Direction.{Direction}
use Rattle.av1_mvref.specs.declared.edge.Direction.TheVariants.{Upper, Left}

-- what is for rows and what for columns: they change places for the left edge of a block
abbrev pub pick : {A : Type 0} → Direction → A → A → A
pick Upper a b = a
pick Left a b = b

-- an edge of a block
pub record Edge : Type 0 where
  pub is_above : Bool
  -- the block's sides along the edge and across it, and its places
  pub side : ℕ
  pub depth : ℕ
  pub x : ℕ
  pub y : ℕ
  -- where the tile ends along the edge
  pub end : ℕ
  -- the block at a place, and a block's sides
  pub block : ℕ → ℕ → Block
  pub side_of : Block → ℕ
  pub depth_of : Block → ℕ

abbrev pub edge : Direction → Grid → BlockOffset → BlockSize → Edge
edge to g bo size = record {
  is_above = pick to true false;
  side = pick to (width_mi size) (height_mi size);
  depth = pick to (height_mi size) (width_mi size);
  x = pick to bo.x bo.y;
  y = pick to bo.y bo.x;
  end = pick to g.cols g.rows;
  block = λ x y. block_at g (pick to x y) (pick to y x);
  side_of = λ b. pick to b.n4_w b.n4_h;
  depth_of = λ b. pick to b.n4_h b.n4_w;
}

abbrev pub edge_of : BlockEdge → Grid → Edge
edge_of b g = edge b.to g b.bo.0 b.bsize

-- 1 for a side of one place in the second half of an 8x8 block
abbrev pub half : ℕ → ℕ → ℕ
half side place = if nat_lt side 2 then place % 2 else 0

-- how far from the edge blocks are visited
abbrev pub reach : Edge → ℕ
reach e = min ((if nat_lt e.depth 2 then 4 else 6) - half e.depth e.y) e.y

-- along how many places
abbrev pub shown : Edge → ℕ
shown e = min (min e.side (e.end - e.x)) 16

-- the blocks along a line, from a place up to an end; the first number is a bound on how many there are
unfoldable pub blocks_along : (ℕ → Block) → (Block → ℕ) → ℕ → ℕ → ℕ → List Block
blocks_along at long zero end i = []
blocks_along at long (suc n) end i = if nat_lt i end then at i ∷ blocks_along at long n end (i + long (at i)) else []

-- where a line begins; beyond the first line, in the second half of an 8x8 block
abbrev pub begins : ℕ → ℕ → ℕ → ℕ
begins side place d = if nat_lt 1 d then 1 - half side place else 0

-- the block at a place of the line at a distance from the edge
abbrev pub at_distance : Edge → ℕ → ℕ → Block
at_distance e d i = e.block (e.x + begins e.side e.x d + i) (e.y - d)

-- how many places of that line a block stands for
abbrev pub steps : Edge → ℕ → Block → ℕ
steps e d b =
    let n = min e.side (e.side_of b) in
    if nat_le 16 e.side then max 4 n else (if nat_lt 1 d then max 2 n else n)

abbrev pub line : Edge → ℕ → List Block
line e d = blocks_along (at_distance e d) (steps e d) 16 (shown e) 0

-- a block as long as the edge, and how many lines within reach it takes up
abbrev pub spans : Edge → Block → Bool
spans e b = nat_le 2 e.side && nat_le e.side (e.side_of b)

abbrev pub lines_of : Edge → ℕ → Block → ℕ
lines_of e d b = min (reach e + 1 - d) (e.depth_of b)

abbrev pub weight_of : Edge → ℕ → Block → ℕ
weight_of e d b = steps e d b * (if spans e b then max 2 (lines_of e d b) else 2)

-- how many lines are done after blocks at a distance
abbrev pub done_by : Edge → ℕ → ℕ → Block → ℕ
done_by e d n b = if spans e b then lines_of e d b + d - 1 else n

abbrev pub done_after : Edge → ℕ → ℕ → List Block → ℕ
done_after e d n bs = fold (done_by e d) n bs

-- the line at a distance, unless it is too far or done
abbrev pub line_after : Edge → ℕ → ℕ → List Block
line_after e n d = if nat_le d (reach e) && nat_lt n d then line e d else []

-- the line next to an edge, and those of the next two 8x8 blocks, each with the lines that are done before
abbrev pub second : Edge → ℕ
second e = 3 - half e.depth e.y

abbrev pub near_done : Edge → ℕ
near_done e = done_after e 1 0 (line_after e 0 1)

abbrev pub second_done : Edge → ℕ
second_done e = done_after e (second e) (near_done e) (line_after e (near_done e) (second e))

-- a neighbour that is visited: how much its vectors weigh, and whether it counts as one above
pub record Neighbour : Type 0 where
  pub block : Block
  pub weight : ℕ
  pub is_above : Bool

abbrev pub neighbour : Edge → ℕ → Block → Neighbour
neighbour e d b = record { block = b; weight = weight_of e d b; is_above = e.is_above }

-- those that the line gives
abbrev pub neighbours_after : Edge → ℕ → ℕ → List Neighbour
neighbours_after e n d = map (neighbour e d) (line_after e n d)

-- a neighbour at a corner
abbrev pub corner : Grid → ℕ → ℕ → Neighbour
corner g x y = record { block = block_at g x y; weight = 4; is_above = true }

abbrev pub top_right : Grid → BlockOffset → BlockSize → Bool → List Neighbour
top_right g bo size has_tr =
    if has_tr && nat_lt 0 bo.y && nat_lt (bo.x + width_mi size) g.cols then corner g (bo.x + width_mi size) (bo.y - 1) ∷ [] else []

abbrev pub top_left : Grid → BlockOffset → List Neighbour
top_left g bo = if nat_lt 0 bo.x && nat_lt 0 bo.y then corner g (bo.x - 1) (bo.y - 1) ∷ [] else []

-- a row above and a column to the left, each at its distance unless it is done
unfoldable pub row_and_column : Edge → Edge → ℕ → ℕ → ℕ → ℕ → List Neighbour
row_and_column u l row column rows_done columns_done =
    neighbours_after u rows_done row ++ neighbours_after l columns_done column

abbrev pub around : Grid → BlockOffset → BlockSize → ℕ → ℕ → ℕ → ℕ → List Neighbour
around g bo size row column rows_done columns_done =
    row_and_column (edge Upper g bo size) (edge Left g bo size) row column rows_done columns_done

-- the nearest row and column, and the top right corner
unfoldable pub near_neighbours : Grid → BlockOffset → BlockSize → Bool → List Neighbour
near_neighbours g bo size has_tr =
    around g bo size 1 1 0 0 ++ top_right g bo size has_tr

-- the top left corner, and the rows and columns further out
unfoldable pub far_neighbours : Grid → BlockOffset → BlockSize → List Neighbour
far_neighbours g bo size =
    let u = edge Upper g bo size in
    let l = edge Left g bo size in
    top_left g bo
    ++ around g bo size (second u) (second l) (near_done u) (near_done l)
    ++ around g bo size (second u + 2) (second l + 2) (second_done u) (second_done l)
