use Rattle.av1_syntax.proofs.Elements.{partition_reads}
use Rattle.av1_syntax.proofs.laws.law_of_partitions.Goals as goal

pub returns : goal.returns
returns c = partition_reads
