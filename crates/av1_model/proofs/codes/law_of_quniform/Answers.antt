use Rattle.av1_model.proofs.CodesQuniform.{quniform-prefix}
use Rattle.av1_model.proofs.codes.law_of_quniform.Goals as goal

pub returns : goal.returns
returns c = quniform-prefix
