use Rattle.av1_model.proofs.Symbols.{symbol_wide}
use Rattle.av1_model.proofs.cdf.law_of_symbols.Goals as goal

pub returns-clause-wide : goal.returns-clause-wide
returns-clause-wide c i cdf s w v h = symbol_wide i cdf s w v h
