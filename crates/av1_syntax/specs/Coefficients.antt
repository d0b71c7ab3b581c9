-- The coefficients of a transform block: the type of the transform and the levels in scan order.
use Rattle.std.specs.Prelude.{◌≡◌, ℕ, zero, suc, ◌+◌, ◌-◌, ◌*◌, ◌/◌, ◌%◌, ◌^◌, ◌<◌, ◌≤◌, List, [], ◌∷◌, Bool, true, false, if◌then◌else◌, nat_eq}
use Rattle.std.specs.Prelude.{nat_le, min, map, take, drop, length, slice_index, slice_index_or, codes, ℤ, pos, unsigned_abs, IsTrue, Result}
use Rattle.std.specs.List.{sum_by}
use Rattle.av1_blocks.specs.Coefficients.{with_dc_sign}
use Rattle.av1_blocks.specs.declared.block_context.BlockContext.{BlockContext}
use Rattle.av1_blocks.specs.declared.coefficients.TXB_CTX.{TXB_CTX}
use Rattle.av1_cdf.specs.Distribution.{Distribution}
use Rattle.av1_cdf.specs.Distribution.Distribution.{Adaptive}
use Rattle.av1_cdf.specs.Layout.{Slot, slot}
use Rattle.av1_coef.specs.Causal.{AreCausal}
use Rattle.av1_coef.specs.Contexts.{base_context, range_context, last_context, size_context, coded_width, coded_height, coded_area}
use Rattle.av1_coef.specs.Padded.{level_in, in_block, IsPadded}
use Rattle.av1_coef.specs.Scans.{is_in, IsScan}
use Rattle.av1_geometry.specs.PredictionMode.{prediction_mode_number}
use Rattle.av1_geometry.specs.declared.block_offset.BlockOffset.{BlockOffset}
use Rattle.av1_geometry.specs.declared.block_size.BlockSize.{BlockSize}
use Rattle.av1_geometry.specs.declared.prediction_mode.PredictionMode.{PredictionMode}
use Rattle.av1_geometry.specs.declared.tx_size.TxSize.{TxSize}
use Rattle.av1_geometry.specs.declared.tx_type.TxClass.{TxClass}
use Rattle.av1_geometry.specs.declared.tx_type.TxClass.TheVariants.{TX_CLASS_2D, TX_CLASS_HORIZ, TX_CLASS_VERT}
use Rattle.av1_geometry.specs.declared.tx_type.TxType.{TxType}
use Rattle.av1_geometry.specs.declared.tx_type.TxType.TheVariants.{DCT_DCT}
use Rattle.av1_geometry.specs.TxTables.{class_of, tx_set, uses}
use Rattle.av1_ec.specs.declared.known.Known.{Ghosts}
use Rattle.av1_model.specs.Element.{Element, known, choose, after, renamed}
use Rattle.av1_syntax.specs.Calls.{adaptive, Coded}
use Rattle.av1_syntax.specs.EndOfBlock.{end_element}
use Rattle.av1_syntax.specs.Flags.{flag}
use Rattle.av1_syntax.specs.Levels.{coeff_size_element, least, sizes_after, levels_after, cut_level, sign_by}
use Rattle.av1_syntax.specs.declared.coefficients.CoeffBlock.{CoeffBlock}
use Rattle.av1_syntax.specs.declared.context_writer.ContextWriter.{ContextWriter}
use Rattle.av1_syntax.specs.TransformTypes.{tx_type_element}

-- the coefficient at a position
abbrev pub value_at : List ℤ → ℕ → ℤ
value_at values p = slice_index_or values p (pos 0)

-- the coefficients at the first n positions of a scan
abbrev pub levels_at : List ℤ → List ℕ → ℕ → List ℤ
levels_at values scan n = map (value_at values) (take n scan)

-- the size at a place of a scan, up to 15, and the sizes from a place on up to place n
abbrev pub size_at : List ℤ → List ℕ → ℕ → ℕ
size_at values scan c = cut_level (value_at values (slice_index scan c))

abbrev pub sizes_from : List ℤ → List ℕ → ℕ → ℕ → List ℕ
sizes_from values scan n c = drop c (map cut_level (levels_at values scan n))

-- sizes by position, where the sizes at these positions are known; none elsewhere
abbrev pub placed : List ℕ → List ℕ → ℕ → ℕ
placed [] sizes q = 0
placed (p ∷ positions) [] q = 0
placed (p ∷ positions) (a ∷ sizes) q = if nat_eq p q then a else placed positions sizes q

-- the sizes of a block by column and row, where those after place c of a scan are known
abbrev pub known_after : TxSize → List ℕ → ℕ → List ℕ → ℕ → ℕ → ℕ
known_after size scan c later = in_block (coded_width size) (coded_height size) (placed (drop (c + 1) scan) later)

-- what codes the first symbol of the size at place c of a scan, in luma (0) or chroma (1), by the sizes that come later
abbrev pub base_distribution : TxSize → ℕ → TxClass → List ℕ → ℕ → List ℕ → Distribution
base_distribution size p class scan c [] = adaptive (codes "coeff_base_eob_cdf") (size_context size ∷ p ∷ last_context (coded_area size) c ∷ [])
base_distribution size p class scan c (a ∷ later) =
    let h = coded_height size in
    let at = slice_index scan c in
    adaptive (codes "coeff_base_cdf") (size_context size ∷ p ∷ base_context class size (known_after size scan c (a ∷ later)) (at / h) (at % h) ∷ [])

-- and what codes the others
abbrev pub range_distribution : TxSize → ℕ → TxClass → List ℕ → ℕ → List ℕ → Distribution
range_distribution size p class scan c later =
    let h = coded_height size in
    let at = slice_index scan c in
    adaptive (codes "coeff_br_cdf") (min (size_context size) 3 ∷ p ∷ range_context class (known_after size scan c later) (at / h) (at % h) ∷ [])

-- the same from padded levels: what codes the first symbol of a size by its context, and what codes the others at a position
abbrev pub base_by : TxSize → ℕ → Bool → ℕ → Distribution
base_by size p is_last context =
    if is_last then adaptive (codes "coeff_base_eob_cdf") (size_context size ∷ p ∷ context ∷ [])
    else adaptive (codes "coeff_base_cdf") (size_context size ∷ p ∷ context ∷ [])

abbrev pub range_by : TxSize → ℕ → TxClass → List ℕ → ℕ → Distribution
range_by size p class levels at =
    let h = coded_height size in
    adaptive (codes "coeff_br_cdf") (min (size_context size) 3 ∷ p ∷ range_context class (level_in h levels) (at / h) (at % h) ∷ [])

-- what codes the sign at a place
abbrev pub sign_distribution : ℕ → ℕ → ℕ → Distribution
sign_distribution p context c = sign_by (nat_eq c 0) (slot (codes "dc_sign_cdf") (p ∷ context ∷ []))

-- whether a class is not the two-dimensional one
abbrev pub one_dimensional : TxClass → ℕ
one_dimensional TX_CLASS_2D = 0
one_dimensional TX_CLASS_HORIZ = 1
one_dimensional TX_CLASS_VERT = 1

-- the size of a level at place c of a scan, up to 15, by the sizes that come later
abbrev pub size_after : TxSize → ℕ → TxClass → List ℕ → ℕ → List ℕ → Element Distribution ℕ
size_after size p class scan c later =
    coeff_size_element (base_distribution size p class scan c later) (range_distribution size p class scan c later) (least later)

-- the sizes of the levels at the first n places of a scan, up to 15
abbrev pub sizes_element : TxSize → ℕ → TxClass → List ℕ → ℕ → Element Distribution (List ℕ)
sizes_element size p class scan n = sizes_after (base_distribution size p class scan) (range_distribution size p class scan) n []

-- the levels of these sizes up to 15
abbrev pub signs_element : ℕ → ℕ → List ℕ → Element Distribution (List ℤ)
signs_element p context sizes = levels_after (sign_distribution p context) [] sizes

-- one or more levels in the order of a scan: their number, whose class goes by the coded area or by the whole, their sizes up to 15, and they themselves
abbrev pub block_element : Bool → TxSize → ℕ → ℕ → TxClass → List ℕ → Element Distribution (List ℤ)
block_element by_coded size p context class scan =
    after (end_element by_coded size p (one_dimensional class))
    (λ n. after (sizes_element size p class scan n) (signs_element p context) (map cut_level)) length

abbrev pub are_none : List ℤ → Bool
are_none [] = true
are_none (level ∷ levels) = false

-- 0 for luma, 1 for chroma
abbrev pub plane_type : ℕ → ℕ
plane_type zero = 0
plane_type (suc plane) = 1

-- The type of a transform and its levels. `types` tells the type of a block that has levels, `without` is that of one that has
-- none, and `scans` has a scan for each class.
abbrev pub coeffs_among : Bool → Element Distribution TxType → TxType → TxSize → ℕ → TXB_CTX → (TxClass → List ℕ) → Element Distribution (TxType × List ℤ)
coeffs_among by_coded types without size p contexts scans =
    after (flag (adaptive (codes "txb_skip_cdf") (size_context size ∷ contexts.txb_skip_ctx ∷ [])))
    (λ none. choose none (known (without, []))
    (after types (λ t.
    let levels = block_element by_coded size p contexts.dc_sign_ctx (class_of t) (scans (class_of t)) in
    renamed levels (λ levels. (t, levels)) (λ a. a.1)) (λ a. a.0))) (λ a. are_none a.1)

abbrev pub is_inter : PredictionMode → Bool
is_inter mode = nat_le 14 (prediction_mode_number mode)

-- the type of a transform block that has levels: it is coded for luma, and known for chroma
abbrev pub types_element : ℕ → TxSize → PredictionMode → Bool → TxType → Element Distribution TxType
types_element zero size mode reduced given = tx_type_element size mode (is_inter mode) reduced
types_element (suc plane) size mode reduced given = known given

-- the type of one that has none
abbrev pub type_without : ℕ → TxType → TxType
type_without zero given = DCT_DCT
type_without (suc plane) given = given

-- a type that a block with levels may have
abbrev pub IsTyped : ℕ → TxSize → PredictionMode → Bool → TxType → TxType → Type 0
IsTyped zero size mode reduced given t = IsTrue (uses (tx_set size (is_inter mode) reduced) t)
IsTyped (suc plane) size mode reduced given t = t ≡ given

-- the coefficients of a transform block of a plane, where chroma has the given type
abbrev pub coeffs_element : Bool → ℕ → TxSize → PredictionMode → Bool → TxType → TXB_CTX → (TxClass → List ℕ) → Element Distribution (TxType × List ℤ)
coeffs_element by_coded plane size mode reduced given contexts scans =
    coeffs_among by_coded (types_element plane size mode reduced given) (type_without plane given) size (plane_type plane) contexts scans

-- levels of which the last is not 0, each of a size below 2^20, and no more than are coded
pub record AreLevels (most : ℕ) (levels : List ℤ) : Type 0 where
  pub few : length levels ≤ most
  pub small : (k : ℕ) → k < length levels → unsigned_abs (slice_index_or levels k (pos 0)) < 2 ^ 20
  pub last : 0 < length levels → 1 ≤ unsigned_abs (slice_index_or levels (length levels - 1) (pos 0))

-- a type and levels: one of these types, or the one without levels
pub record AreCoeffs (IsType : TxType → Type 0) (without : TxType) (most : ℕ) (a : TxType × List ℤ) : Type 0 where
  pub levels : AreLevels most a.1
  pub none : length a.1 ≡ 0 → a.0 ≡ without
  pub some : 1 ≤ length a.1 → IsType a.0

-- coefficients by position, of which the first n positions of a scan have all that are not 0
pub record AreCoded (size : TxSize) (class : TxClass) (scan : List ℕ) (n : ℕ) (values : List ℤ) : Type 0 where
  pub order : IsScan size class scan
  pub area : coded_area size ≤ length values
  pub few : n ≤ coded_area size
  pub levels : AreLevels (coded_area size) (levels_at values scan n)
  pub none : (p : ℕ) → is_in (take n scan) p ≡ false → value_at values p ≡ pos 0

-- the padded levels of these coefficients
pub record ArePadded (size : TxSize) (values : List ℤ) (levels : List ℕ) : Type 0 where
  pub padded : IsPadded (coded_width size) (coded_height size) (λ p. unsigned_abs (value_at values p)) levels
  pub room : (coded_width size + 4) * (coded_height size + 4) ≤ length levels

-- contexts of the first n places of a scan by padded levels
pub record AreContexts (size : TxSize) (class : TxClass) (levels scan : List ℕ) (n : ℕ) (contexts : List ℤ) : Type 0 where
  pub causal : AreCausal size class levels scan n contexts
  pub long : n ≤ length contexts

-- the entry of these levels in the edges: the sum of their sizes up to 63, with the sign of the first
abbrev pub entry_of : List ℤ → ℕ
entry_of levels = with_dc_sign (min 63 (sum_by unsigned_abs levels)) (slice_index_or levels 0 (pos 0))

abbrev pub entry_at : List ℤ → List ℕ → ℕ → ℕ
entry_at values scan n = entry_of (levels_at values scan n)

-- the type of a transform: DCT where luma has no levels, and else, in luma, one of its set
pub record HasType (plane : ℕ) (size : TxSize) (mode : PredictionMode) (reduced : Bool) (n : ℕ) (t : TxType) : Type 0 where
  pub none : plane ≡ 0 → n ≡ 0 → t ≡ DCT_DCT
  pub some : plane ≡ 0 → 1 ≤ n → IsTrue (uses (tx_set size (is_inter mode) reduced) t)

-- they went the path of the coefficients of a transform of a plane, or its beginning, whichever scans the other classes have
abbrev pub TransformCoded : {W U E : Type 0} → Ghosts W → Result U E → ℕ → TxSize → PredictionMode → Bool → TxType → TXB_CTX →
    List ℕ → List ℤ → W → W → ContextWriter → ContextWriter → Type 0
TransformCoded known r plane size mode reduced t contexts scan levels w u old new =
    (scans : TxClass → List ℕ) → scans (class_of t) ≡ scan →
    Coded known r (coeffs_element old.eob_by_coded plane size mode reduced t contexts scans) (t, levels) w u old new

-- What the calls of a transform block code, by what they know of it: the end, the size at a position, up to 15, by padded levels, the
-- one at place c of a scan, those at its first n places, the levels of known sizes, and all three in turn.
abbrev pub end_in : Bool → CoeffBlock → Element Distribution ℕ
end_in by_coded b = end_element by_coded b.tx_size b.plane_type (one_dimensional b.tx_class)

abbrev pub SizeByCoded : {W U E : Type 0} → Ghosts W → Result U E → CoeffBlock → Slot → List ℕ → ℕ → Bool → ℕ → W → W → ContextWriter → ContextWriter → Type 0
SizeByCoded known r b base levels at is_last size w u old new =
    let range = range_by b.tx_size b.plane_type b.tx_class levels at in
    Coded known r (coeff_size_element (Adaptive base) range (if is_last then 1 else 0)) (min size 15) w u old new

abbrev pub SizeCoded : {W U E : Type 0} → Ghosts W → Result U E → CoeffBlock → List ℤ → List ℕ → ℕ → ℕ → W → W → ContextWriter → ContextWriter → Type 0
SizeCoded known r b values scan n c w u old new =
    let element = size_after b.tx_size b.plane_type b.tx_class scan c (sizes_from values scan n (c + 1)) in
    Coded known r element (size_at values scan c) w u old new

abbrev pub SizesCoded : {W U E : Type 0} → Ghosts W → Result U E → CoeffBlock → List ℤ → List ℕ → ℕ → W → W → ContextWriter → ContextWriter → Type 0
SizesCoded known r b values scan n w u old new =
    Coded known r (sizes_element b.tx_size b.plane_type b.tx_class scan n) (sizes_from values scan n 0) w u old new

abbrev pub SignsCoded : {W U E : Type 0} → Ghosts W → Result U E → CoeffBlock → ℕ → List ℤ → List ℕ → ℕ → W → W → ContextWriter → ContextWriter → Type 0
SignsCoded known r b context values scan n w u old new =
    Coded known r (signs_element b.plane_type context (sizes_from values scan n 0)) (levels_at values scan n) w u old new

abbrev pub BlockCoded : {W U E : Type 0} → Ghosts W → Result U E → CoeffBlock → ℕ → List ℤ → List ℕ → ℕ → W → W → ContextWriter → ContextWriter → Type 0
BlockCoded known r b context values scan n w u old new =
    let levels = block_element old.eob_by_coded b.tx_size b.plane_type context b.tx_class scan in
    Coded known r levels (levels_at values scan n) w u old new
