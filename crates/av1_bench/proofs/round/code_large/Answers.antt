use Rattle.std.proofs.Common.{lit<}
use Rattle.av1_bench.proofs.Skews.{skew_13, skew_14, skew_15, skew_16}
use Rattle.av1_bench.proofs.round.code_large.Goals as goal

pub coded-requires-2-clause-cdf : goal.coded-requires-2-clause-cdf
coded-requires-2-clause-cdf g c = skew_13

pub coded-requires-3-clause-cdf : goal.coded-requires-3-clause-cdf
coded-requires-3-clause-cdf g c = skew_14

pub coded-requires-4-clause-cdf : goal.coded-requires-4-clause-cdf
coded-requires-4-clause-cdf g c = skew_15

pub coded-requires-5-clause-cdf : goal.coded-requires-5-clause-cdf
coded-requires-5-clause-cdf g c = skew_16

pub coded-requires-3-clause-s : goal.coded-requires-3-clause-s
coded-requires-3-clause-s g c = c.requires.symbols 12 (lit< tt)

pub coded-requires-4-clause-s : goal.coded-requires-4-clause-s
coded-requires-4-clause-s g c = c.requires.symbols 13 (lit< tt)

pub coded-requires-5-clause-s : goal.coded-requires-5-clause-s
coded-requires-5-clause-s g c = c.requires.symbols 14 (lit< tt)
