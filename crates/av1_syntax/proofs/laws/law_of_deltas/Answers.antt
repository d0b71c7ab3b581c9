use Rattle.av1_syntax.proofs.DeltaReads.{deltas_reads}
use Rattle.av1_syntax.proofs.laws.law_of_deltas.Goals as goal

pub returns : goal.returns
returns c = deltas_reads
