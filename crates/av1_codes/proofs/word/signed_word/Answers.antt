use Rattle.std.proofs.Common.{arith}
use Rattle.std.proofs.lemmas.Int.{ints}
use Rattle.av1_codes.proofs.SignedRange.{counted}
use Rattle.av1_codes.proofs.word.signed_word.Goals as goal

pub returns : goal.returns
returns c =
    let n = counted c.args.low c.args.high c.args.high c.ranges.low c.ranges.high c.requires.few (omega (arith, ints)) (omega (arith, ints)) in
    let r = counted c.args.low c.args.high c.args.r c.ranges.low c.ranges.r c.requires.few c.requires.reference_from (omega (arith, ints)) in
    let v = counted c.args.low c.args.high c.args.v c.ranges.low c.ranges.v c.requires.few c.requires.value_from (omega (arith, ints)) in
    rw (n, r, v) at c.refsubexp_word.ensures
