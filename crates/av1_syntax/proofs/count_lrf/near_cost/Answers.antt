use Rattle.std.proofs.Common.{◌*◌, ◌∙◌, List, Bool, length, ap, arith}
use Rattle.av1_syntax.proofs.FilterWrites.{near_word_is, near_short}
use Rattle.av1_syntax.proofs.count_lrf.near_cost.Goals as goal

pub returns-clause-value : goal.returns-clause-value
returns-clause-value g c =
    c.count_signed_subexp_with_ref.ensures ∙ ap (λ (bits : List Bool). 8 * length bits) (near_word_is c.args.least c.args.greatest c.args.reference c.args.v c.args.k c.ranges.least c.ranges.greatest c.ranges.reference c.ranges.v c.from.result c.from-2.result c.from-3.result c.from-4.result c.from.ensures c.from-2.ensures c.from-3.ensures c.from-4.ensures)

pub returns-clause-few : goal.returns-clause-few
returns-clause-few g c =
    let e = c.count_signed_subexp_with_ref.ensures ∙ ap (λ (bits : List Bool). 8 * length bits) (near_word_is c.args.least c.args.greatest c.args.reference c.args.v c.args.k c.ranges.least c.ranges.greatest c.ranges.reference c.ranges.v c.from.result c.from-2.result c.from-3.result c.from-4.result c.from.ensures c.from-2.ensures c.from-3.ensures c.from-4.ensures) in
    let short = near_short c.args.least c.args.greatest c.args.reference c.args.v c.args.k c.ranges.least c.ranges.greatest c.ranges.reference c.ranges.v c.from.result c.from-2.result c.from-3.result c.from-4.result c.from.ensures c.from-2.ensures c.from-3.ensures c.from-4.ensures c.requires.reference c.requires.k in
    omega (arith, e, short)
