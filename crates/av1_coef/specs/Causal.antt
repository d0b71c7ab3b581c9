-- What a context may know of a block: the levels at positions that come later in the scan, up to 15.
use Rattle.std.specs.Prelude.{◌≡◌, ℕ, ◌+◌, ◌/◌, ◌%◌, ◌<◌, List, true, drop, min, length, slice_index, slice_index_or, ℤ, pos}
use Rattle.av1_geometry.specs.declared.tx_size.TxSize.{TxSize}
use Rattle.av1_geometry.specs.declared.tx_type.TxClass.{TxClass}
use Rattle.av1_coef.specs.Contexts.{base_context, scan_context, range_context, coded_width, coded_height}
use Rattle.av1_coef.specs.Padded.{in_block, cut, IsPadded}
use Rattle.av1_coef.specs.Scans.{is_in, IsScan}

-- two functions of positions have the same levels, up to 15, at all positions after place i of a scan
abbrev pub AlikeAfter : List ℕ → ℕ → (ℕ → ℕ) → (ℕ → ℕ) → Type 0
AlikeAfter scan i f g = (p : ℕ) → is_in (drop (i + 1) scan) p ≡ true → min (f p) 15 ≡ min (g p) 15

-- base and range context of a position are the same in two blocks
pub record SameContexts (size : TxSize) (class : TxClass) (f g : ℕ → ℕ) (p : ℕ) : Type 0 where
  pub base : let w = coded_width size in let h = coded_height size in
      base_context class size (in_block w h f) (p / h) (p % h) ≡ base_context class size (in_block w h g) (p / h) (p % h)
  pub range : let w = coded_width size in let h = coded_height size in
      range_context class (in_block w h f) (p / h) (p % h) ≡ range_context class (in_block w h g) (p / h) (p % h)

-- in a scan that breaks no rule, the contexts of a position are the same whatever stands at positions that come no later
abbrev pub ContextsKnowLaterLevels : Type 0
ContextsKnowLaterLevels =
    (size : TxSize) (class : TxClass) (scan : List ℕ) (i : ℕ) (f g : ℕ → ℕ) → IsScan size class scan → i < length scan → AlikeAfter scan i f g →
    SameContexts size class f g (slice_index scan i)

-- contexts are the same whether levels are up to 127 or up to 15
abbrev pub ContextsKnowLevelsUpTo15 : Type 0
ContextsKnowLevelsUpTo15 = (size : TxSize) (class : TxClass) (f : ℕ → ℕ) (p : ℕ) → SameContexts size class (cut 127 f) (cut 15 f) p

-- the contexts of the first n positions are those of any block that is alike after each of them
abbrev pub AreCausal : TxSize → TxClass → List ℕ → List ℕ → ℕ → List ℤ → Type 0
AreCausal size class levels scan n contexts =
    let w = coded_width size in
    let h = coded_height size in
    (at known : ℕ → ℕ) (i : ℕ) → IsPadded w h at levels → IsScan size class scan → i < n → AlikeAfter scan i at known →
    slice_index_or contexts i (pos 0) ≡ pos (scan_context class size (in_block w h known) scan n i)

-- the range context of a position is that of any block that is alike after it
abbrev pub IsCausal : TxSize → TxClass → List ℕ → ℕ → ℕ → Type 0
IsCausal size class levels p context =
    let w = coded_width size in
    let h = coded_height size in
    (at known : ℕ → ℕ) (scan : List ℕ) (i : ℕ) → IsPadded w h at levels → IsScan size class scan → i < length scan → slice_index scan i ≡ p →
    AlikeAfter scan i at known → context ≡ range_context class (in_block w h known) (p / h) (p % h)
