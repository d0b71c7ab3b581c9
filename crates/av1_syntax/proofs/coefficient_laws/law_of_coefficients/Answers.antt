use Rattle.av1_syntax.proofs.CoeffWhole.{element_reads}
use Rattle.av1_syntax.proofs.coefficient_laws.law_of_coefficients.Goals as goal

pub returns : goal.returns
returns c = element_reads
