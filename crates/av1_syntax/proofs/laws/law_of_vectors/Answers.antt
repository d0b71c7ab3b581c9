use Rattle.av1_syntax.proofs.VectorReads.{component_reads, coded_is, vector_reads}
use Rattle.av1_syntax.proofs.laws.law_of_vectors.Goals as goal

pub returns-clause-component : goal.returns-clause-component
returns-clause-component c = component_reads

pub returns-clause-coded : goal.returns-clause-coded
returns-clause-coded c = coded_is

pub returns-clause-vector : goal.returns-clause-vector
returns-clause-vector c = vector_reads
