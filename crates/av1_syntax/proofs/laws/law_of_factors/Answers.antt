use Rattle.av1_syntax.proofs.Readings.{factors_read}
use Rattle.av1_syntax.proofs.laws.law_of_factors.Goals as goal

pub returns : goal.returns
returns c = factors_read
