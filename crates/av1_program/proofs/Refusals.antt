-- What an error of a unit says of what stands for it.
use Rattle.std.proofs.Common.{◌≡◌, Some, Result, Ok, Err, ◌⊎◌, inl, inr, subst, sym}
use Rattle.std.specs.Prelude.{IfErr}
use Rattle.std.specs.Result.{IsErrAnd}
use Rattle.av1_tile.specs.declared.error.UnitError.{UnitError}
use Rattle.av1_tile.specs.declared.error.UnitError.TheVariants.{Refused, BadScript, TooLong, SinkFault, OutOfMemory}
use Rattle.av1_tile.specs.declared.coding.Via.{Via}
use Rattle.av1_unit.specs.Findings.{first_refusal}
use Rattle.av1_unit.specs.Plain.{PlainUnit}
use Rattle.av1_unit.proofs.Written.{no_sink}
use Rattle.av1_program.specs.Run.{IsRefusal}
use Rattle.av1_program.specs.Shape.{Shape, Fits}
use Rattle.av1_program.specs.declared.status.Status.{Status}
use Rattle.av1_program.specs.Status.{of_unit_error}

-- the status of an error has its cause
pub is_refusal : (shape : Shape) (unit : PlainUnit) (via : Via) (error : UnitError) → shape ≡ Fits (unit, via) → (error ≡ OutOfMemory) ⊎ (first_refusal unit ≡ Some error)
    → IsRefusal (of_unit_error error) shape
is_refusal shape unit via (Refused place rule) fits (inl e) = absurd cc
is_refusal shape unit via (Refused place rule) fits (inr e) = record { unit = unit; via = via; fits = fits; is = e }
is_refusal shape unit via (BadScript tile item) fits (inl e) = absurd cc
is_refusal shape unit via (BadScript tile item) fits (inr e) = record { unit = unit; via = via; fits = fits; is = e }
is_refusal shape unit via (TooLong place) fits (inl e) = absurd cc
is_refusal shape unit via (TooLong place) fits (inr e) = record { unit = unit; via = via; fits = fits; is = e }
is_refusal shape unit via SinkFault fits (inl e) = absurd cc
is_refusal shape unit via SinkFault fits (inr e) = absurd (no_sink unit e)
is_refusal shape unit via OutOfMemory fits cause = tt

-- a result that is this status has what the status has
pub status_has_cause : {X : Type 0} (r : Result X Status) (status : Status) (P : Status → Type 0) → IsErrAnd r (λ s. s ≡ status) → P status → IfErr r P
status_has_cause (Ok x) status P is cause = absurd is
status_has_cause (Err s) status P is cause = subst P (sym is) cause
