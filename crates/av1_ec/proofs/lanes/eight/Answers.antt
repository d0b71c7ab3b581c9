use Rattle.std.proofs.Common.{◌+◌, ◌-◌, get_or, take, drop, ap, zero-add, ◌∙◌, arith, get_or-drop, get_or-take}
use Rattle.std.proofs.lemmas.Simd.{get_or-chunk}
use Rattle.av1_ec.proofs.lanes.eight.Goals as goal

pub returns-clause-lanes : goal.returns-clause-lanes
returns-clause-lanes c i h =
    let at = c.args.at in
    let xs = c.args.cdf.now in
    let n = at + 8 - at in
    get_or-chunk 0 8 (take n (drop at xs)) i 0 h
    ∙ ap (λ j. get_or (take n (drop at xs)) j 0) (zero-add i)
    ∙ get_or-take n (drop at xs) i 0 (omega arith)
    ∙ get_or-drop at xs i 0
