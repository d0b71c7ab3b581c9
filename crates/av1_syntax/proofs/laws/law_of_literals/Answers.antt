use Rattle.av1_syntax.proofs.Readings.{literals_read}
use Rattle.av1_syntax.proofs.laws.law_of_literals.Goals as goal

pub returns : goal.returns
returns c = literals_read
