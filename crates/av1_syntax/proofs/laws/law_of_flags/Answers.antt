use Rattle.av1_syntax.proofs.Elements.{skip_reads, filter_intra_reads}
use Rattle.av1_syntax.proofs.laws.law_of_flags.Goals as goal

pub returns-clause-skip : goal.returns-clause-skip
returns-clause-skip c = skip_reads

pub returns-clause-filter_intra : goal.returns-clause-filter_intra
returns-clause-filter_intra c = filter_intra_reads
