use Rattle.std.proofs.Common.{refl}
use Rattle.av1_header.proofs.Words.{word_of_leb}
use Rattle.av1_header.proofs.rows.leb128.Goals as goal

pub returns : goal.returns
returns c = record { grown = c.put_leb128.ensures; fits = λ e. word_of_leb _ c.ranges.value.fits; told = refl }
