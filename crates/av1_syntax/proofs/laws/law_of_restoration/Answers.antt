use Rattle.av1_syntax.proofs.Restoring.{lrf_reads, starting_references, renewed_references}
use Rattle.av1_syntax.proofs.laws.law_of_restoration.Goals as goal

pub returns-clause-filters : goal.returns-clause-filters
returns-clause-filters c = lrf_reads

pub returns-clause-starting : goal.returns-clause-starting
returns-clause-starting c = starting_references

pub returns-clause-renewed : goal.returns-clause-renewed
returns-clause-renewed c = renewed_references
