use Rattle.av1_coef.proofs.Causal.{causal, cut_same}
use Rattle.av1_coef.proofs.laws.law_of_contexts.Goals as goal

pub returns : goal.returns
returns c = record { later = causal; cut = cut_same }
