use Rattle.av1_model.proofs.Final.{final_digits, final_short, final_small, holds_final, point_least}
use Rattle.av1_model.proofs.interval.law_of_final_bytes.Goals as goal

pub returns-clause-within : goal.returns-clause-within
returns-clause-within c i v = holds_final i v

pub returns-clause-odd : goal.returns-clause-odd
returns-clause-odd c low = point_least low

pub returns-clause-digits : goal.returns-clause-digits
returns-clause-digits c i v = final_digits i v

pub returns-clause-short : goal.returns-clause-short
returns-clause-short c i = final_short i

pub returns-clause-bytes : goal.returns-clause-bytes
returns-clause-bytes c i = final_small i
