use Rattle.av1_cdf.proofs.Learning.{cdfs_of_tables, cdfs_of_uniform}
use Rattle.av1_cdf.proofs.laws.law_of_starting.Goals as goal

pub returns-clause-tables : goal.returns-clause-tables
returns-clause-tables c sets quantizer h = cdfs_of_tables sets quantizer h

pub returns-clause-uniform : goal.returns-clause-uniform
returns-clause-uniform c = cdfs_of_uniform
