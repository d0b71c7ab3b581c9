use Rattle.std.proofs.Common.{rules}
use Rattle.av1_header.proofs.Words.{word_of_bits}
use Rattle.av1_header.proofs.rows.number_or.Goals as goal

pub returns-then-there : goal.returns-then-there
returns-then-there c = record { grown = c.put_bits.ensures; fits = λ e. word_of_bits _ _ (c.requires.fits e); told = search rules }

pub returns-else-there : goal.returns-else-there
returns-else-there c = record { grown = c.put_bits.ensures; fits = λ e. word_of_bits _ _ (c.requires.fits e); told = search rules }
