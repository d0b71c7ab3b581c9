use Rattle.std.proofs.Common.{◌≡◌, ◌+◌, ◌*◌, sym, subst, arith}
use Rattle.av1_syntax.specs.Restoration.{number_at, flat_bits_by, IsCounted}
use Rattle.av1_syntax.specs.declared.restoration.RestorationFilter.{RestorationFilter}
use Rattle.av1_syntax.proofs.Counting.{flat_long}
use Rattle.av1_syntax.proofs.FilterWrites.{weight_fits}
use Rattle.av1_syntax.proofs.count_lrf.flat_cost.Goals as goal

pub returns-in-Sgrproj-clause-value : goal.returns-in-Sgrproj-clause-value
returns-in-Sgrproj-clause-value g c =
    let is = c.in-Sgrproj.is in
    let counted = subst IsCounted is c.requires.filter in
    let refs = c.args.refs in
    let ws = c.in-Sgrproj.xqd in
    subst (λ (f : RestorationFilter). 32 + c.weight_cost.result + c.weight_cost-in-Sgrproj.result ≡ 8 * flat_bits_by refs f) (sym is)
    (flat_long refs ws c.in-Sgrproj.set c.weight_cost.result c.weight_cost-in-Sgrproj.result (weight_fits 0 (number_at refs 0) (omega arith) (c.requires.references 0 (omega arith))) (weight_fits 1 (number_at refs 1) (omega arith) (c.requires.references 1 (omega arith)))
    (weight_fits 0 (number_at ws 0) (omega arith) (counted.1 0 (omega arith))) (weight_fits 1 (number_at ws 1) (omega arith) (counted.1 1 (omega arith))) c.weight_cost.ensures.value c.weight_cost-in-Sgrproj.ensures.value)
