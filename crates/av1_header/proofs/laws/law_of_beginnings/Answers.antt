use Rattle.av1_header.proofs.ReadBack.{same_values, same_told, same_rest, no_beginning}
use Rattle.av1_header.proofs.laws.law_of_beginnings.Goals as goal

pub returns-clause-values : goal.returns-clause-values
returns-clause-values g c t s u xs ys h k e = same_values t s u xs ys h k e

pub returns-clause-told : goal.returns-clause-told
returns-clause-told g c t s u xs ys h k e = same_told t s u xs ys h k e

pub returns-clause-rest : goal.returns-clause-rest
returns-clause-rest g c t s u xs ys h k e = same_rest t s u xs ys h k e

pub returns-clause-none : goal.returns-clause-none
returns-clause-none g c t s u xs h k e = no_beginning t s u xs h k e
