use Rattle.std.proofs.Common.{refl}
use Rattle.av1_unit.specs.Plain.{plain}
use Rattle.av1_program.specs.Run.{IsRefusal}
use Rattle.av1_program.specs.Shape.{Fits}
use Rattle.av1_program.specs.Status.{of_unit_error}
use Rattle.av1_program.proofs.Refusals.{is_refusal, status_has_cause}
use Rattle.av1_program.proofs.run.output_of_unit.Goals as goal

pub returns-in_err-bytes-clause-refused : goal.returns-in_err-bytes-clause-refused
returns-in_err-bytes-clause-refused c =
    let unit = plain c.args.unit.now in
    let cause = is_refusal (Fits (unit, c.args.via)) unit c.args.via c.in_err-bytes.field-0.0 refl c.in_err-bytes.ensures.refused in
    status_has_cause c.from_residual.result (of_unit_error c.in_err-bytes.field-0.0) (λ status. IsRefusal status (Fits (unit, c.args.via))) c.from_residual.ensures.1 cause
