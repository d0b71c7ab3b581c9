use Rattle.std.proofs.Common.{◌≡◌, Err, inr, rules}
use Rattle.av1_tile.proofs.Standing.{right_item}
use Rattle.av1_tile.proofs.coding.TileCoder.code_item.Goals as goal

pub returns-clause-right : goal.returns-clause-right
returns-clause-right g c start p s rest = let r = c.in_ok-check.ensures.ok start p s in right_item c.args.n p c.args.item.now rest r.0 r.1

pub returns-in_err-check-clause-err : goal.returns-in_err-check-clause-err
returns-in_err-check-clause-err g c =
    let is : c.from_residual.result ≡ Err c.in_err-check.field-0.0 = search rules in
    rw (is) (inr (λ start p s rest. c.in_err-check.ensures.err start p s rest))
