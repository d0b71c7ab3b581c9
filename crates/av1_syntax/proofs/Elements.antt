-- Each element has one path to each of its values.
use Rattle.std.proofs.Common.{◌≡◌, ℕ, zero, suc, ◌-◌, ◌<◌, ◌≤◌, List, [], ◌∷◌, Bool, true, false, IsTrue, if◌then◌else◌, Some, None, codes, inl, inr, ◌⊎◌, refl, sym, ap, subst, ◌∙◌, arith, pos, negsuc, ◌≤ℤ◌}
use Rattle.std.specs.Prelude.{sum, map}
use Rattle.std.proofs.lemmas.Bool.Decides.{nat_tests}
use Rattle.av1_blocks.specs.Edges.{partition_context}
use Rattle.av1_blocks.specs.Grid.{Grid, skip_context}
use Rattle.av1_blocks.specs.declared.block_context.BlockContext.{BlockContext}
use Rattle.av1_cdf.specs.Context.{AreCdfs, contents}
use Rattle.av1_cdf.specs.Distribution.{Distribution, HasSymbols}
use Rattle.av1_cdf.specs.Distribution.Distribution.{Adaptive, Fixed}
use Rattle.av1_cdf.specs.Layout.{Slot, slot}
use Rattle.av1_cdf.proofs.Learning.{contents_long}
use Rattle.av1_geometry.specs.BlockSize.{number_of, width_log2, height_log2}
use Rattle.av1_geometry.specs.BlockTables.{size_group}
use Rattle.av1_geometry.specs.PartitionType.{partition_number}
use Rattle.av1_geometry.specs.PredictionMode.{prediction_mode_number}
use Rattle.av1_geometry.specs.declared.block_offset.BlockOffset.{BlockOffset}
use Rattle.av1_geometry.specs.declared.block_size.BlockSize.{BlockSize}
use Rattle.av1_geometry.specs.declared.block_size.BlockSize.TheVariants.{BLOCK_4X4}
use Rattle.av1_geometry.specs.declared.partition_type.PartitionType.{PartitionType}
use Rattle.av1_geometry.specs.declared.partition_type.PartitionType.TheVariants.{PARTITION_HORZ, PARTITION_VERT, PARTITION_SPLIT}
use Rattle.av1_geometry.specs.declared.prediction_mode.PredictionMode.{PredictionMode}
use Rattle.av1_geometry.specs.declared.prediction_mode.PredictionMode.TheVariants.{DC_PRED}
use Rattle.av1_model.specs.Element.{known, symbol, Reads}
use Rattle.av1_model.proofs.ElementLaws.{known_reads, reads_as, symbol_reads, choose_reads, after_reads}
use Rattle.av1_syntax.specs.Flags.{flag, flag_of, flag_number, skip_element, filter_intra_element}
use Rattle.av1_syntax.specs.IntraModes.{mode, mode_below, class_of, above_class, left_class, intra_mode_kf_element, intra_mode_element, cfl_allowed, uv_modes, uv_mode_element, angle_of, angle_number, angle_delta_element}
use Rattle.av1_syntax.specs.Palette.{off_of, off_where, palette_size, palette_element}
use Rattle.av1_syntax.specs.Partition.{partitions, probability, partition_slot, partition_below, partition_among, partition_element, vert_alike, horz_alike, split_or, split_number, has_cols, has_rows, IsParted, is_allowed}
use Rattle.av1_syntax.proofs.Gathering.{larger, context_bound, large_has, context_large, slot_has, allowed_few, few_allowed, partition_told, partition_past, partition_named, vert_told, horz_told, none_told, split_allowed_vert, split_allowed_horz, split_past, split_named, two_numbers, vert_few, horz_few}
use Rattle.av1_syntax.proofs.Slots.{skip_has, filter_intra_has, kf_y_has, y_mode_has, uv_mode_has, uv_mode_cfl_has, angle_delta_has, palette_y_has, palette_uv_has}
use Rattle.av1_syntax.proofs.Values.{flag_told, flag_past, flag_named, mode_below_told, mode_below_past, mode_below_named, mode_below_small, angle_told, angle_past, angle_named, angle_small, sides_of_eight}

pub flag_reads : (q : Distribution) → HasSymbols q 2 → Reads HasSymbols (flag q) (λ on. Unit {0}) 1
flag_reads q h =
    reads_as HasSymbols (flag q) (λ on. flag_of (flag_number on) ≡ Some on) (λ on. Unit {0}) 1 1 (λ on e. tt) (λ on t. flag_told on) (omega arith) (symbol_reads HasSymbols q 2 flag_of flag_number h flag_past flag_named)

skipped_few : (g : Grid) (bo : BlockOffset) → skip_context g bo < 3
skipped_few g bo = grind (arith, nat_tests)

pub skip_reads : (g : Grid) (bo : BlockOffset) → Reads HasSymbols (skip_element g bo) (λ on. Unit {0}) 1
skip_reads g bo = flag_reads _ (skip_has (skip_context g bo) (skipped_few g bo))

sizes : (size : BlockSize) → number_of size < 22
sizes BLOCK_4X4 = omega arith
sizes _ = omega arith

pub filter_intra_reads : (size : BlockSize) → Reads HasSymbols (filter_intra_element size) (λ on. Unit {0}) 1
filter_intra_reads size = flag_reads _ (filter_intra_has (number_of size) (sizes size))

mode_reads : (n : ℕ) (q : Distribution) → HasSymbols q n → Reads HasSymbols (mode n q) (λ m. prediction_mode_number m < n) 1
mode_reads n q h =
    reads_as HasSymbols (mode n q) (λ m. mode_below n (prediction_mode_number m) ≡ Some m) (λ m. prediction_mode_number m < n) 1 1 (λ m e. mode_below_small n (prediction_mode_number m) m e) (λ m l. mode_below_told n m l) (omega arith)
    (symbol_reads HasSymbols q n (mode_below n) prediction_mode_number h (mode_below_past n) (mode_below_named n))

classes : (m : PredictionMode) → class_of m < 5
classes DC_PRED = omega arith
classes _ = omega arith

class_or : (b : Bool) (m : PredictionMode) → (if b then 0 else class_of m) < 5
class_or true m = omega arith
class_or false m = classes m

pub intra_mode_kf_reads : (g : Grid) (bo : BlockOffset) → Reads HasSymbols (intra_mode_kf_element g bo) (λ m. prediction_mode_number m < 13) 1
intra_mode_kf_reads g bo = mode_reads 13 _ (kf_y_has (above_class g bo) (left_class g bo) (class_or _ _) (class_or _ _))

pub intra_mode_reads : (size : BlockSize) → Reads HasSymbols (intra_mode_element size) (λ m. prediction_mode_number m < 13) 1
intra_mode_reads size = mode_reads 13 _ (y_mode_has (size_group size) (omega arith))

uv_has : (b : Bool) (k : ℕ) → k < 13 → HasSymbols (Adaptive (slot (if b then codes "uv_mode_cfl_cdf" else codes "uv_mode_cdf") (k ∷ []))) (if b then 14 else 13)
uv_has true k h = uv_mode_cfl_has k h
uv_has false k h = uv_mode_has k h

pub uv_mode_reads : (luma : PredictionMode) (size : BlockSize) → prediction_mode_number luma < 13 → Reads HasSymbols (uv_mode_element luma size) (λ m. prediction_mode_number m < uv_modes size) 1
uv_mode_reads luma size h = mode_reads (uv_modes size) _ (uv_has (cfl_allowed size) (prediction_mode_number luma) h)

pub angle_delta_reads : (m : PredictionMode) → 1 ≤ prediction_mode_number m → prediction_mode_number m ≤ 8 → Reads HasSymbols (angle_delta_element m) (λ a. (negsuc 2 ≤ℤ a) × (a ≤ℤ pos 3)) 1
angle_delta_reads m l h =
    reads_as HasSymbols (angle_delta_element m) (λ a. angle_of (angle_number a) ≡ Some a) (λ a. (negsuc 2 ≤ℤ a) × (a ≤ℤ pos 3)) 1 1 (λ a e. angle_small (angle_number a) a e) (λ a b. angle_told a b.0 b.1) (omega arith)
    (symbol_reads HasSymbols _ 7 angle_of angle_number (angle_delta_has (prediction_mode_number m - 1) (omega (arith, l, h))) angle_past angle_named)

off_past : (s : ℕ) → 2 ≤ s → off_of s ≡ None
off_past zero h = absurd (omega (arith, h))
off_past (suc s) h = refl

off_named : (s : ℕ) (on : Bool) → off_of s ≡ Some on → flag_number on ≡ s
off_named zero on h = let e : false ≡ on = cc in ap flag_number (sym e)
off_named (suc s) on h = cc

off_only : (on : Bool) → off_of (flag_number on) ≡ Some on → on ≡ false
off_only true h = cc
off_only false h = refl

only_off : (on : Bool) → on ≡ false → off_of (flag_number on) ≡ Some on
only_off true h = cc
only_off false h = refl

pub off_reads : (asked : Bool) (q : Distribution) → HasSymbols q 2 → Reads HasSymbols (off_where asked q) (λ on. on ≡ false) 1
off_reads asked q h =
    choose_reads HasSymbols asked (symbol q off_of flag_number) (known false) (λ on. on ≡ false) 1
    (λ e. reads_as HasSymbols (symbol q off_of flag_number) (λ on. off_of (flag_number on) ≡ Some on) (λ on. on ≡ false) 1 1 off_only only_off (omega arith) (symbol_reads HasSymbols q 2 off_of flag_number h off_past off_named))
    (λ e. reads_as HasSymbols (known false) (λ on. on ≡ false) (λ on. on ≡ false) 0 1 (λ on e. e) (λ on e. e) (omega arith) (known_reads HasSymbols false))

pub palette_reads : (luma chroma : Bool) (size : BlockSize) → 3 ≤ number_of size → width_log2 size ≤ 6 → height_log2 size ≤ 6 → Reads HasSymbols (palette_element luma chroma size) (λ on. on ≡ false) 2
palette_reads luma chroma size l w h =
    let first = slot (codes "palette_y_mode_cdfs") (palette_size size ∷ 0 ∷ []) in
    let second = slot (codes "palette_uv_mode_cdfs") (0 ∷ []) in
    let eight = sides_of_eight size l in
    reads_as HasSymbols (palette_element luma chroma size) (λ on. (on ≡ false) × (on ≡ false)) (λ on. on ≡ false) 2 2 (λ on e. e.0) (λ on e. (e, e)) (omega arith)
    (after_reads HasSymbols (off_where luma (Adaptive first)) (λ y. off_where chroma (Adaptive second)) (λ on. on) (λ y. y ≡ false) (λ y on. on ≡ false) 1 1 (λ y on p q. q ∙ sym p)
    (off_reads luma (Adaptive first) (palette_y_has (palette_size size) 0 (omega (arith, eight, w, h)) (omega arith))) (λ y p. off_reads chroma (Adaptive second) (palette_uv_has 0 (omega arith))))

-- partitions where both halves begin inside
both_reads : (size : BlockSize) (s : Slot) (cdf : List ℕ) → HasSymbols (Adaptive s) (partitions size) → Reads HasSymbols (partition_among true true s cdf) (λ p. IsTrue (is_allowed true true size p)) 1
both_reads size s cdf h =
    let n = h.1 in
    reads_as HasSymbols (partition_among true true s cdf) (λ p. partition_below s.len (partition_number p) ≡ Some p) (λ p. IsTrue (is_allowed true true size p)) 1 1
    (λ p e. few_allowed size p (let l = partition_named s.len (partition_number p) p e in omega (arith, l.1, n))) (λ p a. partition_told s.len p (let l = allowed_few size p a in omega (arith, l, n))) (omega arith)
    (symbol_reads HasSymbols (Adaptive s) s.len (partition_below s.len) partition_number (h.0, refl) (partition_past s.len) (λ k p e. (partition_named s.len k p e).0))

-- partitions where a flag tells the other direction
split_reads : (either : PartitionType) (IsP : PartitionType → Type 0) (s : Slot) (cdf : List ℕ) (few : ℕ) → (split_number either ≡ 0) → few < 32768 → ((p : PartitionType) → split_or either (split_number p) ≡ Some p → IsP p) → ((p : PartitionType) → IsP p → split_or either (split_number p) ≡ Some p) →
    Reads HasSymbols (symbol (Fixed (few ∷ 0 ∷ [])) (split_or either) split_number) IsP 1
split_reads either IsP s cdf few z l to from =
    reads_as HasSymbols (symbol (Fixed (few ∷ 0 ∷ [])) (split_or either) split_number) (λ p. split_or either (split_number p) ≡ Some p) IsP 1 1 to from (omega arith)
    (symbol_reads HasSymbols (Fixed (few ∷ 0 ∷ [])) 2 (split_or either) split_number (two_numbers few l, refl) (split_past either) (split_named either z))

among_reads : (cols rows : Bool) (size : BlockSize) (s : Slot) (cdf : List ℕ) → HasSymbols (Adaptive s) (partitions size) → ((cols ≡ false) ⊎ (rows ≡ false) → sum (map (probability cdf) vert_alike) < 32768) →
    ((cols ≡ false) ⊎ (rows ≡ false) → sum (map (probability cdf) horz_alike) < 32768) → Reads HasSymbols (partition_among cols rows s cdf) (λ p. IsTrue (is_allowed cols rows size p)) 1
among_reads true true size s cdf h v z = both_reads size s cdf h
among_reads true false size s cdf h v z =
    split_reads PARTITION_HORZ (λ p. IsTrue (is_allowed true false size p)) s cdf (sum (map (probability cdf) vert_alike)) refl (v (inr refl)) (split_allowed_vert size) (vert_told size)
among_reads false true size s cdf h v z =
    split_reads PARTITION_VERT (λ p. IsTrue (is_allowed false true size p)) s cdf (sum (map (probability cdf) horz_alike)) refl (z (inl refl)) (split_allowed_horz size) (horz_told size)
among_reads false false size s cdf h v z =
    reads_as HasSymbols (known PARTITION_SPLIT) (λ p. p ≡ PARTITION_SPLIT) (λ p. IsTrue (is_allowed false false size p)) 0 1 (λ p e. subst (λ p. IsTrue (is_allowed false false size p)) (sym e) refl) (none_told size) (omega arith)
    (known_reads HasSymbols PARTITION_SPLIT)

pub partition_reads : (fc : List ℕ) (bc : BlockContext) (bo : BlockOffset) (size : BlockSize) → AreCdfs fc → IsParted bc.blocks bo size →
    Reads HasSymbols (partition_element fc bc bo size) (λ p. IsTrue (is_allowed (has_cols bc.blocks bo size) (has_rows bc.blocks bo size) size p)) 1
partition_reads fc bc bo size v h =
    let k = partition_context bc bo size in
    let s = partition_slot k in
    let has = slot_has bc bo size h.least h.most in
    let valid = v.valid s has.0 in
    let long = λ (e : (has_cols bc.blocks bo size ≡ false) ⊎ (has_rows bc.blocks bo size ≡ false)).
    contents_long fc s v has.0 ∙ (large_has k (context_large bc bo size (larger bc.blocks bo size h e)) (context_bound bc bo size h.most)).1 in
    among_reads (has_cols bc.blocks bo size) (has_rows bc.blocks bo size) size s (contents fc s) has (λ e. vert_few (contents fc s) valid (long e)) (λ e. horz_few (contents fc s) valid (long e))
