use Rattle.av1_cdf.proofs.Learning.{cdfs_adapted}
use Rattle.av1_cdf.proofs.laws.law_of_learning.Goals as goal

pub returns : goal.returns
returns c numbers s symbol v h = cdfs_adapted numbers s symbol v h
