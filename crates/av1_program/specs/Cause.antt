-- Why a text gives no unit.
use Rattle.std.specs.Prelude.{◌≡◌, string_bytes}
use Rattle.av1_input.specs.declared.error.ShapeError.{ShapeError}
use Rattle.av1_input.specs.declared.error.ShapeError.TheVariants.{BadText, BadShape, OutOfMemory}
use Rattle.av1_program.specs.Shape.{Shape, NoReading, Unfit}

-- an error tells what the text is, but for want of memory
abbrev pub IsCause : ShapeError → Shape → Type 0
IsCause BadText s = s ≡ NoReading
IsCause (BadShape path) s = s ≡ Unfit (string_bytes path)
IsCause OutOfMemory s = Unit {0}
