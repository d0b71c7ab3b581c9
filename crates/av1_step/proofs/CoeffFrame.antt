-- How much of a transform block is inside the frame: no tile ends within a superblock but at the frame's end.
use Rattle.std.proofs.Common.{◌≡◌, ◌⊎◌, ℕ, zero, suc, ◌+◌, ◌-◌, ◌*◌, ◌/◌, ◌%◌, ◌^◌, ◌<◌, ◌≤◌, min, true, nat_eq, nat_lt, inl, inr, refl, sym, ap, subst, ◌∙◌, arith}
use Rattle.std.specs.Int.{div_ceil}
use Rattle.std.proofs.lemmas.Bool.Decides.{nat_tests}
use Rattle.av1_blocks.proofs.GoingBack.{halved_once, one_or_two}
use Rattle.av1_frame.specs.TileRules.{tiling_of}
use Rattle.av1_geometry.specs.ChromaSampling.{xdec_of, ydec_of}
use Rattle.av1_geometry.specs.TxSize.{tx_width_log2, tx_height_log2}
use Rattle.av1_geometry.specs.declared.block_offset.BlockOffset.{BlockOffset}
use Rattle.av1_geometry.specs.declared.tx_size.TxSize.{TxSize}
use Rattle.av1_geometry.specs.declared.tx_size.TxSize.TheVariants.{TX_4X4, TX_8X8, TX_16X16, TX_32X32, TX_64X64, TX_4X8, TX_8X4, TX_8X16, TX_16X8, TX_16X32, TX_32X16, TX_32X64, TX_64X32, TX_4X16, TX_16X4, TX_8X32, TX_32X8, TX_16X64, TX_64X16}
use Rattle.av1_step.specs.CoeffSteps.{columns_inside, rows_inside, xdec_in, ydec_in}
use Rattle.av1_step.specs.Kept.{IsKept, IsTransform}
use Rattle.av1_step.specs.Tile.{Tile, is_inside, sampling}
use Rattle.av1_step.proofs.CoeffSteps.{halved_down}
use Rattle.av1_step.proofs.Places.{both}

-- the sides of a transform in samples are four times those in blocks
four_times : (size : TxSize) → (2 ^ tx_width_log2 size ≡ 4 * 2 ^ (tx_width_log2 size - 2)) × (2 ^ tx_height_log2 size ≡ 4 * 2 ^ (tx_height_log2 size - 2))
four_times TX_4X4 = (refl, refl)
four_times TX_8X8 = (refl, refl)
four_times TX_16X16 = (refl, refl)
four_times TX_32X32 = (refl, refl)
four_times TX_64X64 = (refl, refl)
four_times TX_4X8 = (refl, refl)
four_times TX_8X4 = (refl, refl)
four_times TX_8X16 = (refl, refl)
four_times TX_16X8 = (refl, refl)
four_times TX_16X32 = (refl, refl)
four_times TX_32X16 = (refl, refl)
four_times TX_32X64 = (refl, refl)
four_times TX_64X32 = (refl, refl)
four_times TX_4X16 = (refl, refl)
four_times TX_16X4 = (refl, refl)
four_times TX_8X32 = (refl, refl)
four_times TX_32X8 = (refl, refl)
four_times TX_16X64 = (refl, refl)
four_times TX_64X16 = (refl, refl)

-- a side of a tile from so many spans of superblocks on ends with its span, or with the frame
whole_plane : (w span before half side x : ℕ) → side ≡ min (16 * span) (2 * half - before * (16 * span)) → x < side → x % 16 + w ≤ 16 →
    min (4 * w) (4 * (side - x)) ≡ min (4 * w) (4 * (2 * half - (before * (16 * span) + x)))
whole_plane w span before half side x is inside few = omega (arith, is, inside, few)

half_plane : (w span before half side x : ℕ) → side ≡ min (16 * span) (2 * half - before * (16 * span)) → x < side → x % 16 / 2 + w ≤ 8 →
    min (4 * w) (4 * (side / 2 - x / 2)) ≡ min (4 * w) (4 * (2 * half / 2 - (before * (16 * span) + x) / 2))
half_plane w span before half side x is inside few = omega (arith, is, inside, few)

side_inside : (m n w span before half side x : ℕ) → (m ≡ 1) ⊎ (m ≡ 2) → n ≡ 4 * w → side ≡ min (16 * span) (2 * half - before * (16 * span)) → x < side → x % 16 / m + w ≤ 16 / m →
    min n (4 * (side / m - x / m)) ≡ min n (4 * (2 * half / m - (before * (16 * span) + x) / m))
side_inside m n w span before half side x (inl one) four is inside few =
    let plain = whole_plane w span before half side x is inside (let f : x % 16 / 1 + w ≤ 16 / 1 = subst (λ k. x % 16 / k + w ≤ 16 / k) one few in omega (arith, f)) in
    subst (λ k. min n (4 * (side / k - x / k)) ≡ min n (4 * (2 * half / k - (before * (16 * span) + x) / k))) (sym one) (omega (arith, four, plain))
side_inside m n w span before half side x (inr two) four is inside few =
    let halved = half_plane w span before half side x is inside (let f : x % 16 / 2 + w ≤ 16 / 2 = subst (λ k. x % 16 / k + w ≤ 16 / k) two few in omega (arith, f)) in
    subst (λ k. min n (4 * (side / k - x / k)) ≡ min n (4 * (2 * half / k - (before * (16 * span) + x) / k))) (sym two) (ap (λ k. min k (4 * (side / 2 - x / 2))) four ∙ halved ∙ ap (λ k. min k (4 * (2 * half / 2 - (before * (16 * span) + x) / 2))) (sym four))

below : (n m : ℕ) → nat_lt n m ≡ true → n < m
below n m h = grind (arith, nat_tests)

pub columns_same : (t : Tile) (plane : ℕ) (bo : BlockOffset) (size : TxSize) → IsKept t → is_inside t bo ≡ true → IsTransform (sampling t) plane bo size →
    let m = 2 ^ xdec_in t plane in min (2 ^ tx_width_log2 size) (4 * (t.bc.blocks.cols / m - bo.x / m)) ≡ columns_inside t plane bo size
columns_same t plane bo size k inside fits =
    side_inside (2 ^ xdec_in t plane) (2 ^ tx_width_log2 size) (2 ^ (tx_width_log2 size - 2)) t.given.fi.tile_width_sb (t.number % (tiling_of t.given.fi).cols) (div_ceil t.given.fi.width 8) t.bc.blocks.cols bo.x
    (one_or_two (xdec_of (sampling t)) (nat_eq plane 0) (halved_once (sampling t))) (four_times size).0 k.sides.cols (below _ _ (both _ _ inside).0) fits.columns

pub rows_same : (t : Tile) (plane : ℕ) (bo : BlockOffset) (size : TxSize) → IsKept t → is_inside t bo ≡ true → IsTransform (sampling t) plane bo size →
    let m = 2 ^ ydec_in t plane in min (2 ^ tx_height_log2 size) (4 * (t.bc.blocks.rows / m - bo.y / m)) ≡ rows_inside t plane bo size
rows_same t plane bo size k inside fits =
    side_inside (2 ^ ydec_in t plane) (2 ^ tx_height_log2 size) (2 ^ (tx_height_log2 size - 2)) t.given.fi.tile_height_sb (t.number / (tiling_of t.given.fi).cols) (div_ceil t.given.fi.height 8) t.bc.blocks.rows bo.y
    (one_or_two (ydec_of (sampling t)) (nat_eq plane 0) (halved_down (sampling t))) (four_times size).1 k.sides.rows (below _ _ (both _ _ inside).1) fits.rows

-- what is left of a side, whichever way it is halved
pub left_by : (halvings samples side at left : ℕ) → halvings ≤ 1 → (halvings ≡ 0 → left ≡ min samples (4 * (side - at))) → (1 ≤ halvings → left ≡ min samples (4 * (side / 2 - at / 2))) →
    left ≡ min samples (4 * (side / 2 ^ halvings - at / 2 ^ halvings))
left_by zero samples side at left h whole half = whole refl ∙ (let e : min samples (4 * (side - at)) ≡ min samples (4 * (side / 1 - at / 1)) = omega arith in e)
left_by (suc zero) samples side at left h whole half = half (omega arith)
left_by (suc (suc n)) samples side at left h whole half = absurd (omega (arith, h))
