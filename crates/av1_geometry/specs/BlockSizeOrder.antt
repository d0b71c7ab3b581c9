-- The laws of the order of block sizes: the sides tell the size.
use Rattle.std.proofs.Common.{◌≡◌, Option, Some, refl, sym, ap, ◌∙◌, unwrap_or}
use Rattle.std.specs.declared.cmp.Ordering.{Ordering}
use Rattle.std.specs.declared.cmp.Ordering.TheVariants.{Equal}
use Rattle.std.specs.Ordering.{nat_cmp}
use Rattle.std.specs.Cmp.{IsPartialOrder, nat_cmp_total, on_total, ranked}
use denote.Enum.Bare.{sameb, same_true, true_same}
use Rattle.av1_geometry.specs.contracts.block_size.BlockSize.{the_type}
use Rattle.av1_geometry.specs.declared.block_size.BlockSize.{BlockSize}
use Rattle.av1_geometry.specs.declared.block_size.BlockSize.TheVariants.{BLOCK_4X4, BLOCK_4X8, BLOCK_8X4, BLOCK_8X8, BLOCK_8X16, BLOCK_16X8}
use Rattle.av1_geometry.specs.declared.block_size.BlockSize.TheVariants.{BLOCK_16X16, BLOCK_16X32, BLOCK_32X16, BLOCK_32X32, BLOCK_32X64}
use Rattle.av1_geometry.specs.declared.block_size.BlockSize.TheVariants.{BLOCK_64X32, BLOCK_64X64, BLOCK_64X128, BLOCK_128X64, BLOCK_128X128}
use Rattle.av1_geometry.specs.declared.block_size.BlockSize.TheVariants.{BLOCK_4X16, BLOCK_16X4, BLOCK_8X32, BLOCK_32X8, BLOCK_16X64, BLOCK_64X16}
use Rattle.av1_geometry.specs.BlockSize.{width_log2, height_log2, with_sides}
use Rattle.av1_geometry.specs.Sides.{by_sides}
use Rattle.av1_geometry.specs.SidesOrder.{ordered}

-- each size is the one with its sides
pub own_sides : (size : BlockSize) → with_sides (width_log2 size) (height_log2 size) ≡ Some size
own_sides BLOCK_4X4 = refl
own_sides BLOCK_4X8 = refl
own_sides BLOCK_8X4 = refl
own_sides BLOCK_8X8 = refl
own_sides BLOCK_8X16 = refl
own_sides BLOCK_16X8 = refl
own_sides BLOCK_16X16 = refl
own_sides BLOCK_16X32 = refl
own_sides BLOCK_32X16 = refl
own_sides BLOCK_32X32 = refl
own_sides BLOCK_32X64 = refl
own_sides BLOCK_64X32 = refl
own_sides BLOCK_64X64 = refl
own_sides BLOCK_64X128 = refl
own_sides BLOCK_128X64 = refl
own_sides BLOCK_128X128 = refl
own_sides BLOCK_4X16 = refl
own_sides BLOCK_16X4 = refl
own_sides BLOCK_8X32 = refl
own_sides BLOCK_32X8 = refl
own_sides BLOCK_16X64 = refl
own_sides BLOCK_64X16 = refl

pub same_sides : (s t : BlockSize) → width_log2 s ≡ width_log2 t → height_log2 s ≡ height_log2 t → s ≡ t
same_sides s t w h =
    let e : Some s ≡ Some t = sym (own_sides s) ∙ ap (λ x. with_sides x (height_log2 s)) w ∙ ap (λ y. with_sides (width_log2 t) y) h ∙ own_sides t in
    ap (λ o. unwrap_or o s) e

-- at most another where neither side is longer
abbrev pub compare_sizes : BlockSize → BlockSize → Option Ordering
compare_sizes s t = by_sides (nat_cmp (width_log2 s) (width_log2 t)) (nat_cmp (height_log2 s) (height_log2 t))

pub block_order : IsPartialOrder (sameb the_type) compare_sizes
block_order =
    ordered (on_total width_log2 nat_cmp_total) (on_total height_log2 nat_cmp_total) (sameb the_type)
    (λ s t. (same_true the_type tt s t, true_same the_type s t))
    (λ s t w h. same_sides s t (ranked _ _ Equal (sym w)) (ranked _ _ Equal (sym h)))
