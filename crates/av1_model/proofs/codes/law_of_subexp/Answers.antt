use Rattle.av1_model.proofs.CodesSubexp.{subexp-prefix}
use Rattle.av1_model.proofs.codes.law_of_subexp.Goals as goal

pub returns : goal.returns
returns c = subexp-prefix
