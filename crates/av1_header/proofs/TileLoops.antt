-- Loops that write tiles, a step at a time, and how many tiles there are.
use Rattle.std.proofs.Common.{◌≡◌, ℕ, zero, suc, ◌+◌, ◌-◌, ◌*◌, ◌/◌, ◌%◌, ◌^◌, ◌<◌, ◌≤◌, max, min, List, Bool, true, false, nat_lt, nat_le, subst, sym, ap, refl, arith, inl, inr, ◌∙◌}
use Rattle.std.specs.Prelude.{◌==◌, if◌then◌else◌}
use Rattle.std.proofs.Math.Nat.{mul-le-mul_left}
use Rattle.std.proofs.lemmas.Bool.{cases_lt}
use Rattle.std.proofs.lemmas.Bool.Decides.{nat_tests}
use Rattle.std.proofs.lemmas.Grind.{div_ceil_times}
use Rattle.std.proofs.lemmas.Nat.{pow-add}
use Rattle.av1_frame.specs.Tiling.{doublings, least_log2, tiling}
use Rattle.av1_frame.specs.declared.tiling.TilingInfo.{TilingInfo}
use Rattle.av1_header.specs.Rows.{Wrote, WroteFlag, WroteNumber, ns}
use Rattle.av1_header.specs.Tiles.{TilingFits, logs_of, increments, spans}
use Rattle.av1_header.specs.declared.tiles.Spans.{Spans}
use Rattle.av1_header.specs.declared.tiles.TileLogs.{TileLogs}
use Rattle.av1_header.proofs.RowLaws.{flag_then, number_then, wrote_done, wrote_if, wrote_else}

pub increments_done : (n k goal : ℕ) (p : Bool) (old : List Bool) → n ≡ 0 → Wrote (increments n k) goal k p p old old
unfolding increments
increments_done n k goal p old e = subst (λ m. Wrote (increments m k) goal k p p old old) (sym e) (wrote_done goal k k p old refl)

pub increments_stop : (n m k goal : ℕ) (value told p q : Bool) (old new : List Bool) → n ≡ suc m → WroteFlag true false value told p q old new → value ≡ nat_lt k goal → told ≡ false →
    Wrote (increments n k) goal k p q old new
unfolding increments
increments_stop n m k goal value told p q old new e w v t = subst (λ i. Wrote (increments i k) goal k p q old new) (sym e)
    (flag_then _ _ _ _ _ _ _ _ _ _ _ _ _ _ _ _ _ w refl refl v (wrote_else _ _ _ _ _ _ _ _ _ t (wrote_done goal k k q new refl)))

pub increments_on : (n m k goal a : ℕ) (value told p q r : Bool) (old mid new : List Bool) → n ≡ suc m → WroteFlag true false value told p q old mid → value ≡ nat_lt k goal → told ≡ true →
    Wrote (increments m (k + 1)) goal a q r mid new → Wrote (increments n k) goal a p r old new
unfolding increments
increments_on n m k goal a value told p q r old mid new e w v t x = subst (λ i. Wrote (increments i k) goal a p r old new) (sym e)
    (flag_then _ _ _ _ _ _ _ _ _ _ _ _ _ _ _ _ _ w refl refl v (wrote_if _ _ _ _ _ _ _ _ _ t x))

-- whether one more was said
pub said_more : (k goal : ℕ) (value told p q : Bool) (old new : List Bool) → WroteFlag true false value told p q old new → value ≡ nat_lt k goal → told ≡ true → k < goal
said_more k goal value told p q old new w v t = let more : nat_lt k goal ≡ true = sym v ∙ w.told ∙ t in grind (arith, nat_tests)

pub said_enough : (k goal : ℕ) (value told p q : Bool) (old new : List Bool) → WroteFlag true false value told p q old new → value ≡ nat_lt k goal → told ≡ false → goal ≤ k
said_enough k goal value told p q old new w v t = let more : nat_lt k goal ≡ false = sym v ∙ w.told ∙ t in grind (arith, nat_tests)

pub spans_done : (n most left count widest side : ℕ) (p : Bool) (old : List Bool) → left ≡ 0 → Wrote (spans n most left count widest) side (record { count = count; widest = widest }) p p old old
unfolding spans
spans_done zero most left count widest side p old e = wrote_done side _ _ p old refl
spans_done (suc n) most left count widest side p old e =
    let none : (left == 0) ≡ true = grind (arith, nat_tests) in
    wrote_if _ _ _ _ _ _ _ _ _ none (wrote_done side _ _ p old refl)

pub spans_on : (n m most left count widest size value further side told : ℕ) (a : Spans) (p q r : Bool) (old mid new : List Bool) → n ≡ suc m → 0 < left →
    WroteNumber true 0 (ns size) value told p q old mid → size ≡ min most left → value ≡ min side left - 1 → further ≡ max widest (told + 1) →
    Wrote (spans m most (left - (told + 1)) (count + 1) further) side a q r mid new → Wrote (spans n most left count widest) side a p r old new
unfolding spans
spans_on n m most left count widest size value further side told a p q r old mid new e some w z v f x =
    let more : (left == 0) ≡ false = grind (arith, nat_tests) in
    let y : Wrote (spans m most (left - (told + 1)) (count + 1) (max widest (told + 1))) side a q r mid new = subst (λ i. Wrote (spans m most (left - (told + 1)) (count + 1) i) side a q r mid new) f x in
    subst (λ i. Wrote (spans i most left count widest) side a p r old new) (sym e)
    (wrote_else _ _ _ _ _ _ _ _ _ more (number_then _ _ _ _ _ _ _ _ _ _ _ _ _ _ _ _ _ _ _ w refl refl (ap ns z) v y))

-- a number of spans that is just enough
pub just_enough : (total side count : ℕ) → 0 < side → total ≤ count * side → count * side < total + side → count ≡ total / side + min 1 (total % side)
just_enough total side count some enough few =
    let d = total / side + min 1 (total % side) in
    let both = div_ceil_times total side some in
    elim (cases_lt count d) [
      | inl less ↦ absurd (omega (arith, both.1, enough, mul-le-mul_left side (let more : count + 1 ≤ d = omega arith in more)))
      | inr others ↦ elim (cases_lt d count) [
        | inl more ↦ absurd (omega (arith, both.0, few, mul-le-mul_left side (let less : d + 1 ≤ count = omega arith in less)))
        | inr same ↦ omega (arith, others, same)
      ]
    ]

doublings_reach : (n size target : ℕ) → 0 < size → target ≤ size + n → target ≤ size * 2 ^ doublings n size target
doublings_reach zero size target some near = omega arith
doublings_reach (suc n) size target some near = elim (cases_lt size target) [
  | inl less ↦
      let more : nat_le target size ≡ false = grind (arith, nat_tests) in
      let d = doublings n (size * 2) target in
      let h : target ≤ size * 2 * 2 ^ d = doublings_reach n (size * 2) target (omega arith) (omega arith) in
      let e : 2 ^ (d + 1) ≡ 2 ^ d * 2 = pow-add 2 d 1 in
      let above : target ≤ size * 2 ^ (d + 1) = omega (arith, h, ap (λ x. size * x) e) in
      let g : target ≤ size * 2 ^ suc d = subst (λ k. target ≤ size * 2 ^ k) (let same : d + 1 ≡ suc d = omega arith in same) above in
      subst (λ b. target ≤ size * 2 ^ (if b then 0 else suc d)) (sym more) g
  | inr enough ↦
      let done : nat_le target size ≡ true = grind (arith, nat_tests) in
      subst (λ b. target ≤ size * 2 ^ (if b then 0 else suc (doublings n (size * 2) target))) (sym done) (omega arith)
]

-- a power of two that is at least a number
pub log2_reaches : (n : ℕ) → n ≤ 2 ^ least_log2 1 n
unfolding least_log2
log2_reaches n = omega (arith, doublings_reach n 1 n (omega arith) (omega arith))

-- a tile has a number of as many bits as both logarithms
pub tile_number : (id cols rows : ℕ) → id < cols * rows → id < 2 ^ (least_log2 1 cols + least_log2 1 rows)
tile_number id cols rows within =
    let p = 2 ^ least_log2 1 cols in
    let q = 2 ^ least_log2 1 rows in
    let e : 2 ^ (least_log2 1 cols + least_log2 1 rows) ≡ p * q = pow-add 2 (least_log2 1 cols) (least_log2 1 rows) in
    let one : cols * rows ≤ cols * q = mul-le-mul_left cols (log2_reaches rows) in
    let two : q * cols ≤ q * p = mul-le-mul_left q (log2_reaches cols) in
    omega (arith, e, one, two)

-- the same increments between the same numbers
pub increments_at : (least least' most most' goal a : ℕ) (p q : Bool) (old new : List Bool) → least ≡ least' → most ≡ most' → Wrote (increments (most - least) least) goal a p q old new → Wrote (increments (most' - least') least') goal a p q old new
increments_at least least' most most' goal a p q old new e f w = subst (λ m. Wrote (increments (m - least') least') goal a p q old new) f (subst (λ l. Wrote (increments (most - l) l) goal a p q old new) e w)

-- the same spans of the same length at most
pub spans_at : (most most' total side : ℕ) (a : Spans) (p q : Bool) (old new : List Bool) → most ≡ most' → Wrote (spans total most total 0 0) side a p q old new → Wrote (spans total most' total 0 0) side a p q old new
spans_at most most' total side a p q old new e w = subst (λ m. Wrote (spans total m total 0 0) side a p q old new) e w

pub same_logs : (a b c d : ℕ) → a ≡ c → b ≡ d → let one : TileLogs = record { cols = a; rows = b } in let other : TileLogs = record { cols = c; rows = d } in one ≡ other
same_logs a b c d e f =
    let first : ℕ → TileLogs = λ x. record { cols = x; rows = b } in
    let second : ℕ → TileLogs = λ y. record { cols = c; rows = y } in
    ap first e ∙ ap second f

-- a tile has a small number
pub small_number : (id cols rows : ℕ) → id < cols * rows → cols ≤ 64 → rows ≤ 64 → id < 2 ^ 32
small_number id cols rows within few few' = omega (arith, within, mul-le-mul_left cols few', mul-le-mul_left 64 few)

col_logs : (t : TilingInfo) → TilingFits t → t.tile_cols_log2 ≡ least_log2 1 t.cols
unfolding tiling
col_logs t fits = ap (λ (x : TilingInfo). x.tile_cols_log2) fits.made ∙ sym (ap (λ (x : TilingInfo). least_log2 1 x.cols) fits.made)

row_logs : (t : TilingInfo) → TilingFits t → t.tile_rows_log2 ≡ least_log2 1 t.rows
unfolding tiling
row_logs t fits = ap (λ (x : TilingInfo). x.tile_rows_log2) fits.made ∙ sym (ap (λ (x : TilingInfo). least_log2 1 x.rows) fits.made)

-- and as many bits as the rows of tiles give it
pub number_within : (t : TilingInfo) (id : ℕ) (logs : TileLogs) → TilingFits t → id < t.cols * t.rows → logs ≡ logs_of t → id < 2 ^ (logs.cols + logs.rows)
number_within t id logs fits within e =
    let h : id < 2 ^ (t.tile_cols_log2 + t.tile_rows_log2) =
    subst (λ k. id < 2 ^ (k + t.tile_rows_log2)) (sym (col_logs t fits)) (subst (λ k. id < 2 ^ (least_log2 1 t.cols + k)) (sym (row_logs t fits)) (tile_number id t.cols t.rows within)) in
    subst (λ (l : TileLogs). id < 2 ^ (l.cols + l.rows)) (sym e) h
