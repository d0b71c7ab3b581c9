use Rattle.av1_bench.proofs.Skews.{skew_14, skew_15, skew_16}
use Rattle.av1_bench.proofs.round.skew.Goals as goal

pub returns-in-14-clause-cdf : goal.returns-in-14-clause-cdf
returns-in-14-clause-cdf c = skew_14

pub returns-in-15-clause-cdf : goal.returns-in-15-clause-cdf
returns-in-15-clause-cdf c = skew_15

pub returns-in_default-clause-cdf : goal.returns-in_default-clause-cdf
returns-in_default-clause-cdf c = skew_16
