use Rattle.std.proofs.Common.{arith}
use Rattle.av1_model.proofs.Costs.{log_below}
use Rattle.av1_ec.proofs.frac.log_eighths.Goals as goal

pub returns-clause-is : goal.returns-clause-is
returns-clause-is c =
    let first = c.log_digit-first.ensures.digits 2 in
    let second = c.log_digit-second.ensures.digits 1 in
    let third = c.log_digit-third.ensures.digits 0 in
    omega (arith, first, second, third, log_below 0 c.log_digit-third.result.1)
