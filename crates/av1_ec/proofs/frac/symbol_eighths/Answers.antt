use Rattle.std.proofs.Common.{◌∙◌, ap, arith}
use Rattle.av1_model.specs.Interval.{narrow}
use Rattle.av1_model.specs.Eighths.{log_digits, eighths}
use Rattle.av1_ec.proofs.Costs.{cost_of}
use Rattle.av1_ec.proofs.frac.symbol_eighths.Goals as goal

pub overflow_shl-width : goal.overflow_shl-width
overflow_shl-width c =
    let k = cost_of _ _ _ c.requires.wide (omega arith) c.token-fl.ensures.valid c.lr_compute-width.ensures.width in
    omega (arith, k.few)

pub log_eighths-requires-2-clause-least : goal.log_eighths-requires-2-clause-least
log_eighths-requires-2-clause-least c =
    let k = cost_of _ _ _ c.requires.wide (omega arith) c.token-fl.ensures.valid c.lr_compute-width.ensures.width in
    omega (arith, k.wide, c.from-2.ensures)

pub overflow_sub-result : goal.overflow_sub-result
overflow_sub-result c =
    let k = cost_of _ _ _ c.requires.wide (omega arith) c.token-fl.ensures.valid c.lr_compute-width.ensures.width in
    let from = c.log_eighths.ensures.is ∙ ap (log_digits 3) c.from.ensures in
    let to = c.log_eighths-2.ensures.is ∙ ap (log_digits 3) c.from-2.ensures in
    omega (arith, k.rises, from, to)

pub returns : goal.returns
returns c i f =
    let k = cost_of _ _ _ c.requires.wide (omega arith) c.token-fl.ensures.valid c.lr_compute-width.ensures.width in
    let from = c.log_eighths.ensures.is ∙ ap (log_digits 3) c.from.ensures in
    let to = c.log_eighths-2.ensures.is ∙ ap (log_digits 3) c.from-2.ensures in
    let last = ap (λ t. eighths (narrow i t)) c.token-fl.ensures.is in
    omega (arith, k.cost i f, from, to, last)
