-- The contexts of a transform block by the coefficient edges (AV1 specification, "CDF selection process": all_zero and dc_sign).
use Rattle.std.specs.Prelude.{ℕ, ◌+◌, ◌/◌, ◌%◌, ◌^◌, List, [], Bool, not, ◌&&◌, min, max, fold, count_by}
use Rattle.std.specs.Prelude.{nat_eq, nat_lt, nat_le, if◌then◌else◌, slice_index_or, slice_range, ℤ, int_lt, pos}
use Rattle.std.specs.List.{list_any}
use Rattle.av1_geometry.specs.declared.block_offset.BlockOffset.{BlockOffset}
use Rattle.av1_geometry.specs.declared.block_size.BlockSize.{BlockSize}
use Rattle.av1_geometry.specs.declared.tx_size.TxSize.{TxSize}
use Rattle.av1_geometry.specs.BlockSize.{width_log2, height_log2}
use Rattle.av1_geometry.specs.TxSize.{tx_width_log2, tx_height_log2}
use Rattle.av1_blocks.specs.declared.block_context.BlockContext.{BlockContext}
use Rattle.av1_blocks.specs.declared.coefficients.TXB_CTX.{TXB_CTX}

-- an entry is the sum of the sizes of a transform block's levels, at most 63, and 64 more where its first level is negative, 128 more where it is positive
abbrev pub level_of : ℕ → ℕ
level_of v = v % 64

-- the entry of so many levels with this first one
abbrev pub with_dc_sign : ℕ → ℤ → ℕ
with_dc_sign levels first = levels + (if int_lt first (pos 0) then 64 else (if int_lt (pos 0) first then 128 else 0))

-- the greatest of the sums of levels
abbrev pub greatest : List ℕ → ℕ
greatest vs = fold (λ most v. max most (level_of v)) 0 vs

-- how many first levels are negative (1) or positive (2)
abbrev pub signs : ℕ → List ℕ → ℕ
signs sign vs = count_by (λ v. nat_eq (v / 64) sign) vs

-- 1 where more first levels are negative, 2 where more are positive
abbrev pub dc_sign_context : List ℕ → List ℕ → ℕ
dc_sign_context above left =
    let negative = signs 1 above + signs 1 left in
    let positive = signs 2 above + signs 2 left in
    if nat_lt positive negative then 1 else (if nat_lt negative positive then 2 else 0)

-- in luma: by the greatest sums above and to the left, unless the transform has the size of the block
abbrev pub luma_skip_context : Bool → ℕ → ℕ → ℕ
luma_skip_context whole above left =
    if whole then 0
    else (if nat_eq (max above left) 0 then 1
    else (if nat_eq (min above left) 0 then (if nat_lt 3 (max above left) then 3 else 2)
    else (if nat_le (max above left) 3 then 4
    else (if nat_le (min above left) 3 then 5 else 6))))

abbrev pub is_any : List ℕ → Bool
is_any vs = list_any (λ v. not (nat_eq v 0)) vs

-- in chroma: whether there is anything above and to the left, and whether the block is larger than the transform
abbrev pub chroma_skip_context : Bool → List ℕ → List ℕ → ℕ
chroma_skip_context larger above left = (if larger then 10 else 7) + (if is_any above then 1 else 0) + (if is_any left then 1 else 0)

abbrev pub has_sides : BlockSize → TxSize → Bool
has_sides size tx = nat_eq (width_log2 size) (tx_width_log2 tx) && nat_eq (height_log2 size) (tx_height_log2 tx)

abbrev pub is_larger : BlockSize → TxSize → Bool
is_larger size tx = nat_lt (tx_width_log2 tx + tx_height_log2 tx) (width_log2 size + height_log2 size)

-- the entries of a plane above and to the left of a transform block with so many samples inside the frame
abbrev pub entries_above : BlockContext → ℕ → BlockOffset → ℕ → ℕ → List ℕ
entries_above bc plane bo xdec width = let x = bo.x / 2 ^ xdec in slice_range (slice_index_or bc.above_coeff_context plane []) x (x + width / 4)

abbrev pub entries_left : BlockContext → ℕ → BlockOffset → ℕ → ℕ → List ℕ
entries_left bc plane bo ydec height = let y = bo.y % 16 / 2 ^ ydec in slice_range (slice_index_or bc.left_coeff_context plane []) y (y + height / 4)

-- both contexts of a transform block in a plane, by what stands above and to the left
abbrev pub txb_context : ℕ → BlockSize → TxSize → List ℕ → List ℕ → TXB_CTX
txb_context plane size tx above left = record {
  txb_skip_ctx =
      if nat_eq plane 0 then luma_skip_context (has_sides size tx) (greatest above) (greatest left)
      else chroma_skip_context (is_larger size tx) above left;
  dc_sign_ctx = dc_sign_context above left;
}

-- the contexts of a transform block in a block, of which so many columns and rows of samples are inside the frame
abbrev pub block_contexts : BlockContext → ℕ → BlockOffset → BlockSize → TxSize → ℕ → ℕ → ℕ → ℕ → TXB_CTX
block_contexts bc plane bo plane_bsize size xdec ydec width height =
    txb_context plane plane_bsize size (entries_above bc plane bo xdec width) (entries_left bc plane bo ydec height)
