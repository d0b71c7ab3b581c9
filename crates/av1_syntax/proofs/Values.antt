-- The values that symbols stand for.
use Rattle.std.proofs.Common.{◌≡◌, ℕ, zero, suc, ◌+◌, ◌<◌, ◌≤◌, Bool, true, false, Option, Some, None, if◌then◌else◌, nat_lt, refl, sym, ap, subst, ◌∙◌, arith, ℤ, pos, negsuc, ◌+ℤ◌, ◌-ℤ◌, ◌≤ℤ◌, unsigned_abs, inl, inr}
use Rattle.std.specs.Prelude.{IfSome}
use Rattle.std.proofs.lemmas.Bool.{cases_lt}
use Rattle.std.proofs.lemmas.Bool.Decides.{nat_tests}
use Rattle.std.proofs.lemmas.Int.{ints}
use mir.Val.{bool_byte}
use Rattle.av1_cdf.proofs.Cells.{lt_is, lt_not}
use Rattle.av1_geometry.specs.BlockSize.{number_of, width_log2, height_log2}
use Rattle.av1_geometry.specs.declared.block_size.BlockSize.{BlockSize}
use Rattle.av1_geometry.specs.declared.block_size.BlockSize.TheVariants.{BLOCK_4X4, BLOCK_4X8, BLOCK_8X4}
use Rattle.av1_geometry.specs.declared.prediction_mode.PredictionMode.{PredictionMode}
use Rattle.av1_geometry.specs.declared.prediction_mode.PredictionMode.TheVariants.{DC_PRED}
use Rattle.av1_geometry.specs.PredictionMode.{prediction_mode_number, prediction_mode_of}
use Rattle.av1_geometry.proofs.Numbers.{prediction_mode_numbered}
use Rattle.av1_syntax.specs.Flags.{flag_of, flag_number}
use Rattle.av1_syntax.specs.IntraModes.{mode_below, angle_of, angle_number, cfl_allowed}

-- a flag is one of two symbols
pub flag_told : (on : Bool) → flag_of (flag_number on) ≡ Some on
flag_told true = refl
flag_told false = refl

-- a flag as the code casts it
pub flag_byte : (on : Bool) → bool_byte on ≡ flag_number on
flag_byte true = refl
flag_byte false = refl

pub flag_past : (s : ℕ) → 2 ≤ s → flag_of s ≡ None
flag_past zero h = absurd (omega (arith, h))
flag_past (suc zero) h = absurd (omega (arith, h))
flag_past (suc (suc s)) h = refl

pub flag_named : (s : ℕ) (on : Bool) → flag_of s ≡ Some on → flag_number on ≡ s
flag_named zero on h = let e : false ≡ on = cc in ap flag_number (sym e)
flag_named (suc zero) on h = let e : true ≡ on = cc in ap flag_number (sym e)
flag_named (suc (suc s)) on h = cc

mode_told : (m : PredictionMode) → prediction_mode_of (prediction_mode_number m) ≡ Some m
mode_told DC_PRED = refl
mode_told _ = refl

-- a value below a bound
pub below : {A : Type 0} (n s : ℕ) (o : Option A) → s < n → (if nat_lt s n then o else None) ≡ o
below n s o h = ap (λ (b : Bool). if b then o else None) (lt_is s n h)

pub past : {A : Type 0} (n s : ℕ) (o : Option A) → n ≤ s → (if nat_lt s n then o else None) ≡ None
past n s o h = ap (λ (b : Bool). if b then o else None) (lt_not s n h)

-- a value that is told by a number below a bound
pub told_below : {A : Type 0} (n s : ℕ) (o : Option A) (a : A) → (if nat_lt s n then o else None) ≡ Some a → (s < n) × (o ≡ Some a)
told_below n s o a h = elim (cases_lt s n) [
  | inl l ↦ (l, sym (below n s o l) ∙ h)
  | inr m ↦ absurd (let e = past n s o m in cc)
]

pub mode_below_told : (n : ℕ) (m : PredictionMode) → prediction_mode_number m < n → mode_below n (prediction_mode_number m) ≡ Some m
mode_below_told n m h = below n (prediction_mode_number m) (prediction_mode_of (prediction_mode_number m)) h ∙ mode_told m

pub mode_below_past : (n s : ℕ) → n ≤ s → mode_below n s ≡ None
mode_below_past n s h = past n s (prediction_mode_of s) h

numbered : (o : Option PredictionMode) (m : PredictionMode) (n : ℕ) → IfSome o (λ value. prediction_mode_number value ≡ n) → o ≡ Some m → prediction_mode_number m ≡ n
numbered o m n h e = subst (λ (o : Option PredictionMode). IfSome o (λ value. prediction_mode_number value ≡ n)) e h

pub mode_below_named : (n s : ℕ) (m : PredictionMode) → mode_below n s ≡ Some m → prediction_mode_number m ≡ s
mode_below_named n s m h = numbered (prediction_mode_of s) m s (prediction_mode_numbered s) (told_below n s (prediction_mode_of s) m h).1

pub mode_below_small : (n s : ℕ) (m : PredictionMode) → mode_below n s ≡ Some m → prediction_mode_number m < n
mode_below_small n s m h = let e = mode_below_named n s m h in let l = (told_below n s (prediction_mode_of s) m h).0 in omega (arith, e, l)

pub allowed_is : (size : BlockSize) → (width_log2 size ≤ 5) × (height_log2 size ≤ 5) → cfl_allowed size ≡ true
allowed_is size h = let a = h.0 in let b = h.1 in grind (arith, nat_tests)

pub not_allowed : (size : BlockSize) → ((width_log2 size ≤ 5) × (height_log2 size ≤ 5) → ⊥) → cfl_allowed size ≡ false
not_allowed size h = elim (cases_lt 5 (width_log2 size)) [
  | inl a ↦ grind (arith, nat_tests, a)
  | inr a ↦ elim (cases_lt 5 (height_log2 size)) [
    | inl b ↦ grind (arith, nat_tests, a, b)
    | inr b ↦ absurd (h (a, b))
  ]
]

-- an angle from -3 to 3
pub angle_below : (a : ℤ) → negsuc 2 ≤ℤ a → a ≤ℤ pos 3 → angle_number a < 7
angle_below a l h = omega (arith, ints, l, h)

pub angle_told : (a : ℤ) → negsuc 2 ≤ℤ a → a ≤ℤ pos 3 → angle_of (angle_number a) ≡ Some a
angle_told a l h =
    below 7 (angle_number a) (Some (pos (angle_number a) -ℤ pos 3)) (angle_below a l h) ∙ ap Some (let e : pos (unsigned_abs (a +ℤ pos 3)) -ℤ pos 3 ≡ a = omega (arith, ints, l, h) in e)

-- sizes from 8x8 on have an area of at least 64
pub sides_of_eight : (size : BlockSize) → 3 ≤ number_of size → (2 ≤ width_log2 size) × (2 ≤ height_log2 size) × (6 ≤ width_log2 size + height_log2 size)
sides_of_eight BLOCK_4X4 h = absurd (omega (arith, h))
sides_of_eight BLOCK_4X8 h = absurd (omega (arith, h))
sides_of_eight BLOCK_8X4 h = absurd (omega (arith, h))
sides_of_eight _ h = (omega arith, omega arith, omega arith)

pub angle_past : (s : ℕ) → 7 ≤ s → angle_of s ≡ None
angle_past s h = past 7 s (Some (pos s -ℤ pos 3)) h

angle_at : (s : ℕ) (a : ℤ) → angle_of s ≡ Some a → (s < 7) × (pos s -ℤ pos 3 ≡ a)
angle_at s a h = let t = told_below 7 s (Some (pos s -ℤ pos 3)) a h in (t.0, let e = t.1 in let f : pos s -ℤ pos 3 ≡ a = cc in f)

pub angle_named : (s : ℕ) (a : ℤ) → angle_of s ≡ Some a → angle_number a ≡ s
angle_named s a h = let t = angle_at s a h in let e = t.1 in omega (arith, ints, e)

pub angle_small : (s : ℕ) (a : ℤ) → angle_of s ≡ Some a → (negsuc 2 ≤ℤ a) × (a ≤ℤ pos 3)
angle_small s a h = let t = angle_at s a h in let e = t.1 in let l = t.0 in (omega (arith, ints, e, l), omega (arith, ints, e, l))
