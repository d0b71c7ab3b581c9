use Rattle.av1_ec.proofs.CodeTrees.{literal_reads, golomb_reads, quniform_reads, subexp_reads, refsubexp_reads, between_reads}
use Rattle.av1_ec.proofs.laws.law_of_code_trees.Goals as goal

pub returns-clause-literal : goal.returns-clause-literal
returns-clause-literal g c q n = literal_reads q n

pub returns-clause-quniform : goal.returns-clause-quniform
returns-clause-quniform g c q n = quniform_reads q n

pub returns-clause-subexp : goal.returns-clause-subexp
returns-clause-subexp g c q n k = subexp_reads q n k

pub returns-clause-refsubexp : goal.returns-clause-refsubexp
returns-clause-refsubexp g c q n k r h = refsubexp_reads q n k r h

pub returns-clause-between : goal.returns-clause-between
returns-clause-between g c q low high r k from to = between_reads q low high r k from to

pub returns-clause-golomb : goal.returns-clause-golomb
returns-clause-golomb g c q most = golomb_reads q most
