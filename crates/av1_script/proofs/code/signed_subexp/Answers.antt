use Rattle.std.proofs.Common.{arith}
use Rattle.std.proofs.lemmas.Int.{ints}
use Rattle.av1_script.proofs.code.signed_subexp.Goals as goal

pub returns : goal.returns
returns c = (
  (omega (arith, ints, c.in_ok-low.ensures, c.in_ok-high.ensures, c.in_ok-v.ensures), omega (arith, ints, c.in_ok-low.ensures, c.in_ok-high.ensures, c.in_ok-v.ensures)),
  (omega (arith, ints, c.in_ok-low.ensures, c.in_ok-high.ensures, c.in_ok-r.ensures), omega (arith, ints, c.in_ok-low.ensures, c.in_ok-high.ensures, c.in_ok-r.ensures)),
  omega (arith, ints, c.in_ok-low.ensures, c.in_ok-high.ensures, c.from.ensures, c.from-2.ensures, c.from-3.ensures, c.if-from.false),
  omega (arith, c.in_ok-k.ensures),
)
