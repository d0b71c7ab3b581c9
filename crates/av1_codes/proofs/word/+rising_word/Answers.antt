use Rattle.av1_model.proofs.CodesSubexp.{from-last}
use Rattle.av1_codes.proofs.word.+rising_word.Goals as goal

pub returns-in-Some-clause-bits : goal.returns-in-Some-clause-bits
returns-in-Some-clause-bits t c steps enough = from-last steps _ _ _ _ enough c.in-Some.ensures.bits
