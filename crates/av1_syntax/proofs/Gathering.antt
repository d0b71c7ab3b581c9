-- The slots of partitions, and the distributions that are gathered from them.
use Rattle.std.proofs.Common.{◌≡◌, ℕ, zero, suc, ◌+◌, ◌-◌, ◌%◌, ◌^◌, ◌<◌, ◌≤◌, ◌⊎◌, inl, inr, Bool, Some, None, Option, IsTrue, Result, subst, sym, ap, ◌∙◌, List, [], ◌∷◌, length, get_or, map, nat_lt, nat_eq, if◌then◌else◌, true, false, refl, arith}
use Rattle.std.specs.Prelude.{codes, sum, IfSome}
use Rattle.std.proofs.lemmas.Bool.{cases_lt}
use Rattle.std.proofs.lemmas.Bool.Decides.{nat_tests}
use Rattle.av1_geometry.specs.declared.block_offset.BlockOffset.{BlockOffset}
use Rattle.av1_geometry.specs.declared.block_size.BlockSize.{BlockSize}
use Rattle.av1_geometry.specs.declared.partition_type.PartitionType.{PartitionType}
use Rattle.av1_geometry.specs.declared.partition_type.PartitionType.TheVariants.{PARTITION_NONE, PARTITION_HORZ, PARTITION_VERT, PARTITION_SPLIT}
use Rattle.av1_geometry.specs.BlockSize.{width_mi, width_log2}
use Rattle.av1_geometry.specs.PartitionType.{partition_number, partition_of}
use Rattle.av1_blocks.specs.declared.block_context.BlockContext.{BlockContext}
use Rattle.av1_blocks.specs.Edges.{partition_context}
use Rattle.av1_blocks.specs.Grid.{Grid}
use Rattle.av1_cdf.specs.Distribution.{HasSymbols}
use Rattle.av1_cdf.specs.Distribution.Distribution.{Adaptive}
use Rattle.av1_cdf.specs.Layout.{Slot, slot}
use Rattle.av1_cdf.proofs.Cells.{is_lt, lt_is, lt_not}
use Rattle.av1_model.specs.Cdf.{IsCdf}
use Rattle.av1_model.specs.Comes.{Standing, Wrote}
use Rattle.av1_syntax.specs.Calls.{Context, coded_in, learnt_in}
use Rattle.av1_syntax.specs.Partition.{partitions, probability, vert_alike, horz_alike, partition_slot, partition_below, has_cols, has_rows, IsParted, is_allowed, split_or, split_number, partition_among}
use Rattle.av1_geometry.proofs.Numbers.{partition_numbered}
use Rattle.av1_syntax.proofs.Values.{past, told_below}
use Rattle.av1_syntax.proofs.Slots.{partition_w8_has, partition_has}

below_all : (n k : ℕ) → n < 32768 → k + 1 < 2 → get_or (n ∷ 0 ∷ []) k 0 < 32768
below_all n zero h l = h
below_all n (suc k) h l = absurd (omega arith)

falls_all : (n j k : ℕ) → j ≤ k → k + 1 < 2 → get_or (n ∷ 0 ∷ []) k 0 ≤ get_or (n ∷ 0 ∷ []) j 0
falls_all n zero zero a b = omega arith
falls_all n (suc j) zero a b = absurd (omega arith)
falls_all n j (suc k) a b = absurd (omega arith)

-- a number below 32768 and 0 are a distribution
pub two_numbers : (n : ℕ) → n < 32768 → IsCdf (n ∷ 0 ∷ [])
two_numbers n h = record { two = omega arith; few = omega arith; below = λ k l. below_all n k h l; falls = falls_all n; count = omega arith }

-- the gathered parts leave something of the whole
pub vert_few : (cdf : List ℕ) → IsCdf cdf → length cdf ≡ 10 → sum (map (probability cdf) vert_alike) < 32768
vert_few cdf v e =
    let f = λ (k : ℕ) (h : k + 2 < 10). v.falls k (k + 1) (omega arith) (omega (arith, e)) in
    let a = v.below 1 (omega (arith, e)) in
    rw e (omega (arith, a, f 1 (omega arith), f 2 (omega arith), f 3 (omega arith), f 4 (omega arith), f 5 (omega arith), f 6 (omega arith), f 7 (omega arith)))

pub horz_few : (cdf : List ℕ) → IsCdf cdf → length cdf ≡ 10 → sum (map (probability cdf) horz_alike) < 32768
horz_few cdf v e =
    let f = λ (k : ℕ) (h : k + 2 < 10). v.falls k (k + 1) (omega arith) (omega (arith, e)) in
    let a = v.below 0 (omega (arith, e)) in
    rw e (omega (arith, a, f 0 (omega arith), f 1 (omega arith), f 2 (omega arith), f 3 (omega arith), f 4 (omega arith), f 5 (omega arith), f 6 (omega arith), f 7 (omega arith)))

-- at the edge of the tile a block is larger than 8x8
pub larger : (g : Grid) (bo : BlockOffset) (size : BlockSize) → IsParted g bo size → (has_cols g bo size ≡ false) ⊎ (has_rows g bo size ≡ false) → 4 ≤ width_log2 size
larger g bo size h e = elim (cases_lt (width_log2 size) 4) [
  | inl l ↦
      let three : width_log2 size ≡ 3 = omega (arith, h.least) in
      let two : width_mi size ≡ 2 = ap (λ n. 2 ^ (n - 2)) three in
      let x : bo.x % 2 ≡ 0 = ap (λ m. bo.x % m) (sym two) ∙ h.aligned.0 in
      let y : bo.y % 2 ≡ 0 = ap (λ m. bo.y % m) (sym two) ∙ h.aligned.1 in
      let a = h.column in let b = h.row in let c = h.pairs.0 in let d = h.pairs.1 in
      grind (arith, nat_tests, two)
  | inr m ↦ m
]

-- its context is that of larger blocks
pub context_large : (bc : BlockContext) (bo : BlockOffset) (size : BlockSize) → 4 ≤ width_log2 size → 4 ≤ partition_context bc bo size
context_large bc bo size h = omega arith

pub context_small : (bc : BlockContext) (bo : BlockOffset) (size : BlockSize) → width_log2 size ≡ 3 → partition_context bc bo size < 4
context_small bc bo size h = omega arith

-- every partition is one of those that larger blocks may have
few : (p : PartitionType) → partition_number p < 10
few PARTITION_NONE = omega arith
few _ = omega arith

-- the slot of a context, by the size that has it
pub small_has : (ctx : ℕ) → ctx < 4 → HasSymbols (Adaptive (partition_slot ctx)) 4
small_has ctx h = subst (λ (b : Bool). HasSymbols (Adaptive (if b then slot (codes "partition_w8_cdf") (ctx ∷ []) else slot (codes "partition_cdf") ((ctx - 4) ∷ []))) 4) (sym (lt_is ctx 4 h)) (partition_w8_has ctx h)

pub large_has : (ctx : ℕ) → 4 ≤ ctx → ctx < 16 → HasSymbols (Adaptive (partition_slot ctx)) 10
large_has ctx h l =
    subst (λ (b : Bool). HasSymbols (Adaptive (if b then slot (codes "partition_w8_cdf") (ctx ∷ []) else slot (codes "partition_cdf") ((ctx - 4) ∷ []))) 10) (sym (lt_not ctx 4 h)) (partition_has (ctx - 4) (omega (arith, l)))

pub context_bound : (bc : BlockContext) (bo : BlockOffset) (size : BlockSize) → width_log2 size ≤ 6 → partition_context bc bo size < 16
context_bound bc bo size h = omega arith

pub slot_has : (bc : BlockContext) (bo : BlockOffset) (size : BlockSize) → 3 ≤ width_log2 size → width_log2 size ≤ 6 → HasSymbols (Adaptive (partition_slot (partition_context bc bo size))) (partitions size)
slot_has bc bo size least most = elim (cases_lt (width_log2 size) 4) [
  | inl l ↦
      let three : width_log2 size ≡ 3 = omega (arith, least) in
      let e : nat_eq (width_log2 size) 3 ≡ true = grind (arith, nat_tests, three) in
      subst (λ (b : Bool). HasSymbols (Adaptive (partition_slot (partition_context bc bo size))) (if b then 4 else 10)) (sym e) (small_has (partition_context bc bo size) (context_small bc bo size three))
  | inr m ↦
      let e : nat_eq (width_log2 size) 3 ≡ false = grind (arith, nat_tests, m) in
      subst (λ (b : Bool). HasSymbols (Adaptive (partition_slot (partition_context bc bo size))) (if b then 4 else 10)) (sym e)
      (large_has (partition_context bc bo size) (context_large bc bo size m) (context_bound bc bo size most))
]

allowed_by : (b : Bool) (p : PartitionType) → IsTrue (if b then nat_lt (partition_number p) 4 else true) → partition_number p < (if b then 4 else 10)
allowed_by true p h = is_lt (partition_number p) 4 h
allowed_by false p h = few p

by_allowed : (b : Bool) (p : PartitionType) → partition_number p < (if b then 4 else 10) → IsTrue (if b then nat_lt (partition_number p) 4 else true)
by_allowed true p h = lt_is (partition_number p) 4 h
by_allowed false p h = refl

-- at the edge of the tile there are ten
pub ten_large : (g : Grid) (bo : BlockOffset) (size : BlockSize) → IsParted g bo size → (has_cols g bo size ≡ false) ⊎ (has_rows g bo size ≡ false) → partitions size ≡ 10
ten_large g bo size h e = let large = larger g bo size h e in grind (arith, nat_tests, large)

-- where both halves begin inside, a partition is allowed that has a symbol
pub allowed_few : (size : BlockSize) (p : PartitionType) → IsTrue (is_allowed true true size p) → partition_number p < partitions size
allowed_few size p h = allowed_by (nat_eq (width_log2 size) 3) p h

pub few_allowed : (size : BlockSize) (p : PartitionType) → partition_number p < partitions size → IsTrue (is_allowed true true size p)
few_allowed size p h = by_allowed (nat_eq (width_log2 size) 3) p h

told : (p : PartitionType) → partition_of (partition_number p) ≡ Some p
told PARTITION_NONE = refl
told _ = refl

pub partition_told : (n : ℕ) (p : PartitionType) → partition_number p < n → partition_below n (partition_number p) ≡ Some p
partition_told n p h = ap (λ (b : Bool). if b then partition_of (partition_number p) else None) (lt_is (partition_number p) n h) ∙ told p

-- whether a block is parted in both directions is the symbol, where it is parted in one
pub vert_told : (size : BlockSize) (p : PartitionType) → IsTrue (is_allowed true false size p) → split_or PARTITION_HORZ (split_number p) ≡ Some p
vert_told size PARTITION_HORZ h = refl
vert_told size PARTITION_SPLIT h = refl
vert_told size _ h = absurd cc

pub horz_told : (size : BlockSize) (p : PartitionType) → IsTrue (is_allowed false true size p) → split_or PARTITION_VERT (split_number p) ≡ Some p
horz_told size PARTITION_VERT h = refl
horz_told size PARTITION_SPLIT h = refl
horz_told size _ h = absurd cc

pub none_told : (size : BlockSize) (p : PartitionType) → IsTrue (is_allowed false false size p) → p ≡ PARTITION_SPLIT
none_told size PARTITION_SPLIT h = refl
none_told size _ h = absurd cc

pub wrote_among : {U E : Type 0} (r : Result U E) (cols rows c d : Bool) (s : Slot) (cdf : List ℕ) (p : PartitionType) (old new : Standing Context) → cols ≡ c → rows ≡ d →
    Wrote coded_in learnt_in r (partition_among c d s cdf).tree p old new → Wrote coded_in learnt_in r (partition_among cols rows s cdf).tree p old new
wrote_among r cols rows c d s cdf p old new e f h =
    subst (λ c. Wrote coded_in learnt_in r (partition_among c rows s cdf).tree p old new) (sym e) (subst (λ d. Wrote coded_in learnt_in r (partition_among c d s cdf).tree p old new) (sym f) h)

pub allowed_at : (cols rows c d : Bool) (size : BlockSize) (p : PartitionType) → cols ≡ c → rows ≡ d → IsTrue (is_allowed cols rows size p) → IsTrue (is_allowed c d size p)
allowed_at cols rows c d size p e f h = subst (λ d. IsTrue (is_allowed c d size p)) f (subst (λ c. IsTrue (is_allowed c rows size p)) e h)

pub partition_past : (n s : ℕ) → n ≤ s → partition_below n s ≡ None
partition_past n s h = past n s (partition_of s) h

numbered : (o : Option PartitionType) (p : PartitionType) (n : ℕ) → IfSome o (λ value. partition_number value ≡ n) → o ≡ Some p → partition_number p ≡ n
numbered o p n h e = subst (λ (o : Option PartitionType). IfSome o (λ value. partition_number value ≡ n)) e h

pub partition_named : (n s : ℕ) (p : PartitionType) → partition_below n s ≡ Some p → (partition_number p ≡ s) × (s < n)
partition_named n s p h = let t = told_below n s (partition_of s) p h in (numbered (partition_of s) p s (partition_numbered s) t.1, t.0)

pub split_past : (p : PartitionType) (s : ℕ) → 2 ≤ s → split_or p s ≡ None
split_past p zero h = absurd (omega (arith, h))
split_past p (suc zero) h = absurd (omega (arith, h))
split_past p (suc (suc s)) h = refl

pub split_named : (p : PartitionType) → split_number p ≡ 0 → (s : ℕ) (q : PartitionType) → split_or p s ≡ Some q → split_number q ≡ s
split_named p z zero q h = let e : p ≡ q = cc in ap split_number (sym e) ∙ z
split_named p z (suc zero) q h = let e : PARTITION_SPLIT ≡ q = cc in ap split_number (sym e)
split_named p z (suc (suc s)) q h = cc

pub split_allowed_vert : (size : BlockSize) (p : PartitionType) → split_or PARTITION_HORZ (split_number p) ≡ Some p → IsTrue (is_allowed true false size p)
split_allowed_vert size PARTITION_HORZ h = refl
split_allowed_vert size PARTITION_SPLIT h = refl
split_allowed_vert size _ h = absurd cc

pub split_allowed_horz : (size : BlockSize) (p : PartitionType) → split_or PARTITION_VERT (split_number p) ≡ Some p → IsTrue (is_allowed false true size p)
split_allowed_horz size PARTITION_VERT h = refl
split_allowed_horz size PARTITION_SPLIT h = refl
split_allowed_horz size _ h = absurd cc
