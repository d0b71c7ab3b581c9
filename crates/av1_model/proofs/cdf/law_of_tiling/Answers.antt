use Rattle.av1_model.proofs.Symbols.{end_part, next_part}
use Rattle.av1_model.proofs.cdf.law_of_tiling.Goals as goal

pub returns-clause-next : goal.returns-clause-next
returns-clause-next c i cdf s w v h = next_part i cdf s w v h

pub returns-clause-last : goal.returns-clause-last
returns-clause-last c i cdf s w v h = end_part i cdf s w v h
