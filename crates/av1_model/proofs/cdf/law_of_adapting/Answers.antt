use Rattle.av1_model.proofs.Adapting.{adapt_after, adapt_before, adapt_count, adapt_valid, length-adapt}
use Rattle.av1_model.proofs.cdf.law_of_adapting.Goals as goal

pub returns-clause-valid : goal.returns-clause-valid
returns-clause-valid c cdf s v = adapt_valid cdf s v

pub returns-clause-same_length : goal.returns-clause-same_length
returns-clause-same_length c cdf s = length-adapt cdf s

pub returns-clause-before : goal.returns-clause-before
returns-clause-before c cdf s k v h a = adapt_before cdf s k h a

pub returns-clause-after : goal.returns-clause-after
returns-clause-after c cdf s k v h a = adapt_after cdf s k h a

pub returns-clause-count : goal.returns-clause-count
returns-clause-count c cdf s v = adapt_count cdf s v
