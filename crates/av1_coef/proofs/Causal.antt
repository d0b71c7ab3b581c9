-- Contexts depend on later positions of the scan alone.
use Rattle.std.proofs.Common.{◌≡◌, ℕ, ℤ, pos, zero, suc, ◌+◌, ◌*◌, ◌/◌, ◌%◌, ◌^◌, ◌<◌, ◌≤◌, List, [], ◌∷◌, ◌++◌, true, false, ◌&&◌, nat_eq, nat_lt, min, sum, map, if◌then◌else◌, slice_index, drop, length, refl, sym, ◌∙◌, ap, subst, arith, add-one}
use Rattle.std.specs.List.{range_with_len}
use Rattle.std.proofs.Math.Nat.{div-lt_iff_lt-mul, mod-lt}
use Rattle.std.proofs.lemmas.Nat.{pow_pos}
use Rattle.av1_geometry.specs.declared.tx_size.TxSize.{TxSize}
use Rattle.av1_geometry.specs.declared.tx_type.TxClass.{TxClass}
use Rattle.av1_geometry.specs.declared.tx_type.TxClass.TheVariants.{TX_CLASS_2D, TX_CLASS_HORIZ, TX_CLASS_VERT}
use Rattle.av1_coef.specs.Contexts.{Step, base_steps, range_steps, base_context, range_context, range_offset, is_corner, place_offset, last_context, scan_context, coded_width, coded_height, coded_height_log2, coded_area}
use Rattle.av1_coef.specs.Padded.{level_in, in_block, cut, IsPadded}
use Rattle.av1_coef.specs.Scans.{is_in, each_once, all_there, steps_later, keeps_order, is_whole, is_ordered, IsScan}
use Rattle.av1_coef.specs.Causal.{AlikeAfter, SameContexts, IsCausal, AreCausal}
use Rattle.av1_coef.proofs.Filling.{filled_at}
use Rattle.av1_coef.proofs.ScanRules.{both_hold}
use Rattle.av1_coef.proofs.ScanSteps.{once_below}
use Rattle.av1_coef.proofs.Tests.{both}

-- two level functions are alike, up to `most`, at these steps from a place
abbrev Alike : ℕ → (ℕ → ℕ → ℕ) → (ℕ → ℕ → ℕ) → ℕ → ℕ → List Step → Type 0
Alike most f g c r [] = Unit {0}
Alike most f g c r (s ∷ steps) = (min (f (c + s.columns) (r + s.rows)) most ≡ min (g (c + s.columns) (r + s.rows)) most) × Alike most f g c r steps

alike_map : (most : ℕ) (f g : ℕ → ℕ → ℕ) (c r : ℕ) (steps : List Step) → Alike most f g c r steps →
    map (λ (s : Step). min (f (c + s.columns) (r + s.rows)) most) steps ≡ map (λ (s : Step). min (g (c + s.columns) (r + s.rows)) most) steps
alike_map most f g c r [] h = refl
alike_map most f g c r (s ∷ steps) h =
    ap (λ a. a ∷ map (λ (s : Step). min (f (c + s.columns) (r + s.rows)) most) steps) h.0
    ∙ ap (λ l. min (g (c + s.columns) (r + s.rows)) most ∷ l) (alike_map most f g c r steps h.1)

alike_base : (class : TxClass) (size : TxSize) (f g : ℕ → ℕ → ℕ) (c r : ℕ) → Alike 3 f g c r (base_steps class) → base_context class size f c r ≡ base_context class size g c r
alike_base class size f g c r h =
    ap (λ l. if is_corner class c r then 0 else min ((sum l + 1) / 2) 4 + place_offset class size c r) (alike_map 3 f g c r (base_steps class) h)

alike_range : (class : TxClass) (f g : ℕ → ℕ → ℕ) (c r : ℕ) → Alike 15 f g c r (range_steps class) → range_context class f c r ≡ range_context class g c r
alike_range class f g c r h = ap (λ l. min ((sum l + 1) / 2) 6 + range_offset class c r) (alike_map 15 f g c r (range_steps class) h)

-- the steps of a range context are steps of a base context
base_has_range : (class : TxClass) (most : ℕ) (f g : ℕ → ℕ → ℕ) (c r : ℕ) → Alike most f g c r (base_steps class) → Alike most f g c r (range_steps class)
base_has_range TX_CLASS_2D most f g c r h = (h.0, (h.1.0, (h.1.1.0, tt)))
base_has_range TX_CLASS_HORIZ most f g c r h = (h.0, (h.1.0, (h.1.1.0, tt)))
base_has_range TX_CLASS_VERT most f g c r h = (h.0, (h.1.0, (h.1.1.0, tt)))

-- alike up to 15 is alike up to 3
less_alike : (f g : ℕ → ℕ → ℕ) (c r : ℕ) (steps : List Step) → Alike 15 f g c r steps → Alike 3 f g c r steps
less_alike f g c r [] h = tt
less_alike f g c r (s ∷ steps) h = (less (f (c + s.columns) (r + s.rows)) (g (c + s.columns) (r + s.rows)) h.0, less_alike f g c r steps h.1)
  where
    less : (a b : ℕ) → min a 15 ≡ min b 15 → min a 3 ≡ min b 3
    less a b e = omega (arith, e)

-- the same levels up to 15 at later positions
abbrev SameIn : List ℕ → (ℕ → ℕ) → (ℕ → ℕ) → Type 0
SameIn later f g = (p : ℕ) → is_in later p ≡ true → min (f p) 15 ≡ min (g p) 15

inside_alike : (w h c r : ℕ) (later : List ℕ) (f g : ℕ → ℕ) → (if nat_lt c w && nat_lt r h then is_in later (c * h + r) else true) ≡ true → SameIn later f g →
    min (in_block w h f c r) 15 ≡ min (in_block w h g c r) 15
inside_alike w h c r later f g t s =
    (elim (nat_lt c w && nat_lt r h) as (λ b. (if b then is_in later (c * h + r) else true) ≡ true → min (if b then f (c * h + r) else 0) 15 ≡ min (if b then g (c * h + r) else 0) 15) [
      | true ↦ λ t. s (c * h + r) t
      | false ↦ λ t. refl
    ]) t

later_alike : (w h : ℕ) (steps : List Step) (p : ℕ) (later : List ℕ) (f g : ℕ → ℕ) → steps_later w h (is_in later) p steps ≡ true → SameIn later f g →
    Alike 15 (in_block w h f) (in_block w h g) (p / h) (p % h) steps
later_alike w h [] p later f g t s = tt
later_alike w h (st ∷ steps) p later f g t s =
    let c = p / h + st.columns in
    let r = p % h + st.rows in
    let b = both (if nat_lt c w && nat_lt r h then is_in later (c * h + r) else true) (steps_later w h (is_in later) p steps) t in
    (inside_alike w h c r later f g b.0 s, later_alike w h steps p later f g b.1 s)

later_at : (w h : ℕ) (steps : List Step) (scan : List ℕ) (i : ℕ) → i < length scan → keeps_order w h steps scan ≡ true →
    steps_later w h (is_in (drop (suc i) scan)) (slice_index scan i) steps ≡ true
later_at w h steps [] i l k = absurd (omega (arith, l))
later_at w h steps (p ∷ ps) zero l k = (both (steps_later w h (is_in ps) p steps) (keeps_order w h steps ps) k).0
later_at w h steps (p ∷ ps) (suc i) l k = later_at w h steps ps i (omega (arith, l)) (both (steps_later w h (is_in ps) p steps) (keeps_order w h steps ps) k).1

-- what a scan that breaks no rule keeps
pub scan_keeps : (size : TxSize) (class : TxClass) (scan : List ℕ) → IsScan size class scan → (is_whole size class scan ≡ true) × (is_ordered size class scan ≡ true)
scan_keeps size class scan h = both_hold (is_whole size class scan) (is_ordered size class scan) h

same_of : (size : TxSize) (class : TxClass) (f g : ℕ → ℕ) (p : ℕ) →
    Alike 15 (in_block (coded_width size) (coded_height size) f) (in_block (coded_width size) (coded_height size) g) (p / coded_height size) (p % coded_height size) (base_steps class) →
    SameContexts size class f g p
same_of size class f g p a =
    let w = coded_width size in
    let h = coded_height size in
    record {
      base = alike_base class size (in_block w h f) (in_block w h g) (p / h) (p % h) (less_alike (in_block w h f) (in_block w h g) (p / h) (p % h) (base_steps class) a);
      range = alike_range class (in_block w h f) (in_block w h g) (p / h) (p % h) (base_has_range class 15 (in_block w h f) (in_block w h g) (p / h) (p % h) a);
    }

-- the contexts of a position are the same whatever stands at positions that come no later
pub causal : (size : TxSize) (class : TxClass) (scan : List ℕ) (i : ℕ) (f g : ℕ → ℕ) → IsScan size class scan → i < length scan → AlikeAfter scan i f g → SameContexts size class f g (slice_index scan i)
causal size class scan i f g k l s =
    let w = coded_width size in
    let h = coded_height size in
    same_of size class f g (slice_index scan i)
    (later_alike w h (base_steps class) (slice_index scan i) (drop (suc i) scan) f g (later_at w h (base_steps class) scan i l (scan_keeps size class scan k).1)
    (subst (λ n. SameIn (drop n scan) f g) (add-one i) s))

-- levels up to 127 are as good as levels up to 15
cut_alike : (w h : ℕ) (f : ℕ → ℕ) (c r : ℕ) (steps : List Step) → Alike 15 (in_block w h (cut 127 f)) (in_block w h (cut 15 f)) c r steps
cut_alike w h f c r [] = tt
cut_alike w h f c r (s ∷ steps) =
    let x = c + s.columns in
    let y = r + s.rows in (
      (elim (nat_lt x w && nat_lt y h) as (λ b. min (if b then min (f (x * h + y)) 127 else 0) 15 ≡ min (if b then min (f (x * h + y)) 15 else 0) 15) [
        | true ↦ omega arith
        | false ↦ refl
      ]),
      cut_alike w h f c r steps,
    )

pub cut_same : (size : TxSize) (class : TxClass) (f : ℕ → ℕ) (p : ℕ) → SameContexts size class (cut 127 f) (cut 15 f) p
cut_same size class f p =
    let h = coded_height size in
    same_of size class (cut 127 f) (cut 15 f) p (cut_alike (coded_width size) h f (p / h) (p % h) (base_steps class))

-- steps stay within the padding
abbrev Near : List Step → Type 0
Near [] = Unit {0}
Near (s ∷ steps) = (s.columns ≤ 4) × (s.rows ≤ 4) × Near steps

base_near : (class : TxClass) → Near (base_steps class)
base_near TX_CLASS_2D = (omega arith, omega arith, (omega arith, omega arith, (omega arith, omega arith, (omega arith, omega arith, (omega arith, omega arith, tt)))))
base_near TX_CLASS_HORIZ = (omega arith, omega arith, (omega arith, omega arith, (omega arith, omega arith, (omega arith, omega arith, (omega arith, omega arith, tt)))))
base_near TX_CLASS_VERT = (omega arith, omega arith, (omega arith, omega arith, (omega arith, omega arith, (omega arith, omega arith, (omega arith, omega arith, tt)))))

padded_alike : (w h : ℕ) (at : ℕ → ℕ) (levels : List ℕ) (c r : ℕ) (steps : List Step) → c < w → r < h → Near steps → IsPadded w h at levels →
    Alike 15 (level_in h levels) (in_block w h (cut 127 at)) c r steps
padded_alike w h at levels c r [] l m n p = tt
padded_alike w h at levels c r (s ∷ steps) l m n p =
    (ap (λ a. min a 15) (p (c + s.columns) (r + s.rows) (omega (arith, l, n.0)) (omega (arith, m, n.1))), padded_alike w h at levels c r steps l m n.2 p)

module _ (size : TxSize) (class : TxClass) (levels : List ℕ) (at known : ℕ → ℕ) (scan : List ℕ) (i : ℕ)
    (padded : IsPadded (coded_width size) (coded_height size) at levels) (keeps : IsScan size class scan) (l : i < length scan) (alike : AlikeAfter scan i at known)
    (inside : slice_index scan i < coded_area size) where
  row_inside : slice_index scan i % coded_height size < coded_height size
  row_inside = mod-lt (slice_index scan i) (pow_pos (coded_height_log2 size))

  column_inside : slice_index scan i / coded_height size < coded_width size
  column_inside = (div-lt_iff_lt-mul {k = coded_height size} {x = slice_index scan i} {y = coded_width size} (pow_pos (coded_height_log2 size))).1 inside

  here : Alike 15 (level_in (coded_height size) levels) (in_block (coded_width size) (coded_height size) (cut 127 at)) (slice_index scan i / coded_height size) (slice_index scan i % coded_height size) (base_steps class)
  here = padded_alike (coded_width size) (coded_height size) at levels (slice_index scan i / coded_height size) (slice_index scan i % coded_height size) (base_steps class) column_inside row_inside (base_near class) padded

  cut_too : (p : ℕ) → is_in (drop (i + 1) scan) p ≡ true → min (min (at p) 127) 15 ≡ min (known p) 15
  cut_too p m = omega (arith, alike p m)

  there : SameContexts size class (cut 127 at) known (slice_index scan i)
  there = causal size class scan i (cut 127 at) known keeps l cut_too

  pub padded_base : base_context class size (level_in (coded_height size) levels) (slice_index scan i / coded_height size) (slice_index scan i % coded_height size)
      ≡ base_context class size (in_block (coded_width size) (coded_height size) known) (slice_index scan i / coded_height size) (slice_index scan i % coded_height size)
  padded_base =
      let f = level_in (coded_height size) levels in
      let g = in_block (coded_width size) (coded_height size) (cut 127 at) in
      let c = slice_index scan i / coded_height size in
      let r = slice_index scan i % coded_height size in
      alike_base class size f g c r (less_alike f g c r (base_steps class) here) ∙ there.base

  pub padded_range : range_context class (level_in (coded_height size) levels) (slice_index scan i / coded_height size) (slice_index scan i % coded_height size)
      ≡ range_context class (in_block (coded_width size) (coded_height size) known) (slice_index scan i / coded_height size) (slice_index scan i % coded_height size)
  padded_range =
      let f = level_in (coded_height size) levels in
      let g = in_block (coded_width size) (coded_height size) (cut 127 at) in
      let c = slice_index scan i / coded_height size in
      let r = slice_index scan i % coded_height size in
      alike_range class f g c r (base_has_range class 15 f g c r here) ∙ there.range

  -- the context of the call that goes through the first n positions
  pub padded_scan : (n : ℕ) → scan_context class size (level_in (coded_height size) levels) scan n i ≡ scan_context class size (in_block (coded_width size) (coded_height size) known) scan n i
  padded_scan n = ap (λ x. if nat_eq (i + 1) n then last_context (coded_area size) i else x) padded_base

-- the positions of a scan
pub scan_inside : (size : TxSize) (class : TxClass) (scan : List ℕ) (i : ℕ) → IsScan size class scan → i < length scan → slice_index scan i < coded_area size
scan_inside size class scan i keeps l =
    once_below (coded_area size) scan i (both (each_once (coded_area size) scan) (all_there (coded_area size) scan) (scan_keeps size class scan keeps).0).0 l

-- what the calls answer
pub range_causal : (size : TxSize) (class : TxClass) (levels : List ℕ) (p bhl context : ℕ) → bhl ≡ coded_height_log2 size →
    context ≡ range_context class (level_in (2 ^ bhl) levels) (p / 2 ^ bhl) (p % 2 ^ bhl) → IsCausal size class levels p context
range_causal size class levels p bhl context e v at known scan i padded keeps l is alike =
    let w = coded_width size in
    let h = coded_height size in
    v ∙ ap (λ b. range_context class (level_in (2 ^ b) levels) (p / 2 ^ b) (p % 2 ^ b)) e
    ∙ ap (λ q. range_context class (level_in h levels) (q / h) (q % h)) (sym is)
    ∙ padded_range size class levels at known scan i padded keeps l alike (scan_inside size class scan i keeps l)
    ∙ ap (λ q. range_context class (in_block w h known) (q / h) (q % h)) is

pub scan_causal : (size : TxSize) (class : TxClass) (levels scan : List ℕ) (n : ℕ) (contexts old : List ℤ) → n ≤ length scan → ((i : ℕ) → i < n → slice_index scan i < coded_area size) →
    contexts ≡ map (λ i. pos (scan_context class size (level_in (coded_height size) levels) scan n i)) (range_with_len 0 n) ++ drop n old → AreCausal size class levels scan n contexts
scan_causal size class levels scan n contexts old long inside e at known i padded keeps l alike =
    filled_at (λ i. pos (scan_context class size (level_in (coded_height size) levels) scan n i)) old contexts n i (pos 0) l e
    ∙ ap pos (padded_scan size class levels at known scan i padded keeps (omega (arith, l, long)) alike (inside i l) n)
