use Rattle.av1_ec.proofs.OneRate.{tokens_recorded, replayed}
use Rattle.av1_ec.proofs.rates.law_of_replaying.Goals as goal

pub returns-clause-tokens : goal.returns-clause-tokens
returns-clause-tokens c = tokens_recorded

pub returns-clause-interval : goal.returns-clause-interval
returns-clause-interval c = replayed
