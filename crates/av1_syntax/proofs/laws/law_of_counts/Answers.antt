use Rattle.av1_syntax.proofs.Counts.{entered_here, counts_same, counts_noted}
use Rattle.av1_syntax.proofs.laws.law_of_counts.Goals as goal

pub returns-clause-entered : goal.returns-clause-entered
returns-clause-entered c = entered_here

pub returns-clause-kept : goal.returns-clause-kept
returns-clause-kept c = counts_same

pub returns-clause-noted : goal.returns-clause-noted
returns-clause-noted c = counts_noted
