use Rattle.av1_ec.proofs.Lengths.{flat_valid}
use Rattle.av1_ec.proofs.OneRate.{frac_rises, tell_rises}
use Rattle.av1_ec.proofs.rates.law_of_rising.Goals as goal

pub returns-clause-frac : goal.returns-clause-frac
returns-clause-frac c p ts v valid = frac_rises p ts v.interval valid

pub returns-clause-whole : goal.returns-clause-whole
returns-clause-whole c = tell_rises

pub returns-clause-flat : goal.returns-clause-flat
returns-clause-flat c = flat_valid
