-- The laws of the order of transform sizes: the sides tell the size.
use Rattle.std.proofs.Common.{◌≡◌, Option, Some, refl, sym, ap, ◌∙◌, unwrap_or}
use Rattle.std.specs.declared.cmp.Ordering.{Ordering}
use Rattle.std.specs.declared.cmp.Ordering.TheVariants.{Equal}
use Rattle.std.specs.Ordering.{nat_cmp}
use Rattle.std.specs.Cmp.{IsPartialOrder, nat_cmp_total, on_total, ranked}
use denote.Enum.Bare.{sameb, same_true, true_same}
use Rattle.av1_geometry.specs.contracts.tx_size.TxSize.{the_type}
use Rattle.av1_geometry.specs.declared.tx_size.TxSize.{TxSize}
use Rattle.av1_geometry.specs.declared.tx_size.TxSize.TheVariants.{TX_4X4, TX_8X8, TX_16X16, TX_32X32, TX_64X64, TX_4X8}
use Rattle.av1_geometry.specs.declared.tx_size.TxSize.TheVariants.{TX_8X4, TX_8X16, TX_16X8, TX_16X32, TX_32X16, TX_32X64}
use Rattle.av1_geometry.specs.declared.tx_size.TxSize.TheVariants.{TX_64X32, TX_4X16, TX_16X4, TX_8X32, TX_32X8, TX_16X64, TX_64X16}
use Rattle.av1_geometry.specs.TxSize.{tx_width_log2, tx_height_log2, tx_with_sides}
use Rattle.av1_geometry.specs.Sides.{by_sides}
use Rattle.av1_geometry.specs.SidesOrder.{ordered}

-- each size is the one with its sides
pub own_tx_sides : (size : TxSize) → tx_with_sides (tx_width_log2 size) (tx_height_log2 size) ≡ Some size
own_tx_sides TX_4X4 = refl
own_tx_sides TX_8X8 = refl
own_tx_sides TX_16X16 = refl
own_tx_sides TX_32X32 = refl
own_tx_sides TX_64X64 = refl
own_tx_sides TX_4X8 = refl
own_tx_sides TX_8X4 = refl
own_tx_sides TX_8X16 = refl
own_tx_sides TX_16X8 = refl
own_tx_sides TX_16X32 = refl
own_tx_sides TX_32X16 = refl
own_tx_sides TX_32X64 = refl
own_tx_sides TX_64X32 = refl
own_tx_sides TX_4X16 = refl
own_tx_sides TX_16X4 = refl
own_tx_sides TX_8X32 = refl
own_tx_sides TX_32X8 = refl
own_tx_sides TX_16X64 = refl
own_tx_sides TX_64X16 = refl

pub same_tx_sides : (s t : TxSize) → tx_width_log2 s ≡ tx_width_log2 t → tx_height_log2 s ≡ tx_height_log2 t → s ≡ t
same_tx_sides s t w h =
    let e : Some s ≡ Some t = sym (own_tx_sides s) ∙ ap (λ x. tx_with_sides x (tx_height_log2 s)) w
    ∙ ap (λ y. tx_with_sides (tx_width_log2 t) y) h ∙ own_tx_sides t in
    ap (λ o. unwrap_or o s) e

-- at most another where neither side is longer
abbrev pub compare_tx_sizes : TxSize → TxSize → Option Ordering
compare_tx_sizes s t = by_sides (nat_cmp (tx_width_log2 s) (tx_width_log2 t)) (nat_cmp (tx_height_log2 s) (tx_height_log2 t))

pub tx_size_order : IsPartialOrder (sameb the_type) compare_tx_sizes
tx_size_order =
    ordered (on_total tx_width_log2 nat_cmp_total) (on_total tx_height_log2 nat_cmp_total) (sameb the_type)
    (λ s t. (same_true the_type tt s t, true_same the_type s t))
    (λ s t w h. same_tx_sides s t (ranked _ _ Equal (sym w)) (ranked _ _ Equal (sym h)))
