use Rattle.av1_cdf.proofs.Distributions.{keeps_cdfs}
use Rattle.av1_cdf.proofs.laws.law_of_distributions.Goals as goal

pub returns : goal.returns
returns c learns = keeps_cdfs learns
