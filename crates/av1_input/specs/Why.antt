-- Why a value is not read.
use Rattle.std.specs.Prelude.{◌≡◌, ◌++◌, ℕ, List, Option, Some, None, Result, Ok, Err, string_bytes}
use Rattle.av1_input.specs.declared.error.ShapeError.{ShapeError}
use Rattle.av1_input.specs.declared.error.ShapeError.TheVariants.{BadText, BadShape, OutOfMemory}
use Rattle.av1_input.specs.Fitted.{Fitted, Fits, Unfit}

-- an error tells the path of the first place that doesn't fit, but for want of memory
abbrev pub IsWhy : {A : Type 0} → ShapeError → Fitted A → Type 0
IsWhy BadText outcome = ⊥
IsWhy (BadShape path) outcome = outcome ≡ Unfit (string_bytes path)
IsWhy OutOfMemory outcome = Unit {0}

-- an answer is the outcome, but for want of memory
abbrev pub Answers : {A : Type 0} → Result A ShapeError → Fitted A → Type 0
Answers (Ok x) outcome = outcome ≡ Fits x
Answers (Err error) outcome = IsWhy error outcome

-- the error of a place below, seen from this step above it
abbrev pub IsUnder : List ℕ → ShapeError → ShapeError → Type 0
IsUnder step BadText after = after ≡ BadText
IsUnder step OutOfMemory after = after ≡ OutOfMemory
IsUnder step (BadShape path) BadText = ⊥
IsUnder step (BadShape path) OutOfMemory = Unit {0}
IsUnder step (BadShape path) (BadShape longer) = string_bytes longer ≡ step ++ string_bytes path

-- the error that something at this path doesn't fit, but for want of memory
abbrev pub IsUnfitAt : List ℕ → ShapeError → Type 0
IsUnfitAt path BadText = ⊥
IsUnfitAt path (BadShape found) = string_bytes found ≡ path
IsUnfitAt path OutOfMemory = Unit {0}

-- the error tells that a text is no JSON, or the path of the first place that doesn't fit, but for want of memory
abbrev pub IsCause : {A : Type 0} → ShapeError → Option (Fitted A) → Type 0
IsCause BadText shape = shape ≡ None
IsCause (BadShape path) shape = shape ≡ Some (Unfit (string_bytes path))
IsCause OutOfMemory shape = Unit {0}
