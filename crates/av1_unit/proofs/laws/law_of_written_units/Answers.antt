use Rattle.av1_unit.proofs.Written.{written_is}
use Rattle.av1_unit.proofs.laws.law_of_written_units.Goals as goal

pub returns-clause-bytes : goal.returns-clause-bytes
returns-clause-bytes c u bytes report w = (written_is u bytes report w).0

pub returns-clause-report : goal.returns-clause-report
returns-clause-report c u bytes report w = (written_is u bytes report w).1
