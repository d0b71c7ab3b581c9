use Rattle.av1_model.proofs.CodesSubexp.{refsubexp-prefix}
use Rattle.av1_model.proofs.codes.law_of_refsubexp.Goals as goal

pub returns : goal.returns
returns c = refsubexp-prefix
