use Rattle.av1_model.proofs.Symbols.{decoded_found, decoded_none, decoded_tells, decodes}
use Rattle.av1_model.proofs.cdf.law_of_decoding.Goals as goal

pub returns-clause-found : goal.returns-clause-found
returns-clause-found c bytes i cdf w v h = decoded_found bytes i cdf w v h

pub returns-clause-exact : goal.returns-clause-exact
returns-clause-exact c bytes i cdf s w v = (decoded_tells bytes i cdf s, λ h. decodes bytes i cdf s w v h.0 h.1)

pub returns-clause-none : goal.returns-clause-none
returns-clause-none c bytes i cdf w v h = decoded_none bytes i cdf w v h
