use Rattle.av1_ec.proofs.Lengths.{golomb_length, quniform_length, subexp_length, refsubexp_length, between_length, flat_near}
use Rattle.av1_model.proofs.BitsNumbers.{length-bits_of}
use Rattle.av1_ec.proofs.laws.law_of_lengths.Goals as goal

pub returns-clause-literal : goal.returns-clause-literal
returns-clause-literal c = length-bits_of

pub returns-clause-golomb : goal.returns-clause-golomb
returns-clause-golomb c = golomb_length

pub returns-clause-quniform : goal.returns-clause-quniform
returns-clause-quniform c = quniform_length

pub returns-clause-subexp : goal.returns-clause-subexp
returns-clause-subexp c = subexp_length

pub returns-clause-refsubexp : goal.returns-clause-refsubexp
returns-clause-refsubexp c = refsubexp_length

pub returns-clause-between : goal.returns-clause-between
returns-clause-between c = between_length

pub returns-clause-near : goal.returns-clause-near
returns-clause-near c = flat_near
