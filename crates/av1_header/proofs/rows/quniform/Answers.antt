use Rattle.std.proofs.Common.{refl}
use Rattle.av1_header.proofs.Words.{word_of_ns}
use Rattle.av1_header.proofs.rows.quniform.Goals as goal

pub returns : goal.returns
returns c = record { grown = c.put_quniform.ensures; fits = λ e. word_of_ns _ _ c.requires.value; told = refl }
