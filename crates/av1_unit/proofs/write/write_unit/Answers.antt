use Rattle.std.proofs.Common.{◌≡◌, Err, rules}
use Rattle.av1_unit.specs.Plain.{plain}
use Rattle.av1_unit.proofs.Written.{not_sink}
use Rattle.av1_unit.proofs.write.write_unit.Goals as goal

pub returns-in_err-bytes-clause-fault : goal.returns-in_err-bytes-clause-fault
returns-in_err-bytes-clause-fault g c =
    let e = c.in_err-bytes.field-0.0 in
    let is : c.from_residual.result ≡ Err e = search rules in
    let never = not_sink (plain c.args.unit.now) e c.in_err-bytes.ensures.refused in
    λ h. absurd (never (cc (is, h)))

pub returns-in_err-bytes-clause-front : goal.returns-in_err-bytes-clause-front
returns-in_err-bytes-clause-front g c =
    let e = c.in_err-bytes.field-0.0 in
    let is : c.from_residual.result ≡ Err e = search rules in
    let never = not_sink (plain c.args.unit.now) e c.in_err-bytes.ensures.refused in
    λ h. absurd (never (cc (is, h)))
