use Rattle.av1_model.proofs.CodesLeb128.{leb128-bytes, leb128-read, leb128-shortest}
use Rattle.av1_model.proofs.codes.law_of_leb128.Goals as goal

pub returns-clause-bytes : goal.returns-clause-bytes
returns-clause-bytes c = leb128-bytes

pub returns-clause-back : goal.returns-clause-back
returns-clause-back c = leb128-read

pub returns-clause-shortest : goal.returns-clause-shortest
returns-clause-shortest c = leb128-shortest
