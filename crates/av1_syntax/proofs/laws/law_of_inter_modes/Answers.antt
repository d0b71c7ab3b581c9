use Rattle.av1_syntax.proofs.InterReads.{is_inter_reads, drl_mode_reads, inter_mode_reads, compound_mode_reads}
use Rattle.av1_syntax.proofs.laws.law_of_inter_modes.Goals as goal

pub returns-clause-inter : goal.returns-clause-inter
returns-clause-inter c = is_inter_reads

pub returns-clause-drl : goal.returns-clause-drl
returns-clause-drl c = drl_mode_reads

pub returns-clause-mode : goal.returns-clause-mode
returns-clause-mode c = inter_mode_reads

pub returns-clause-compound : goal.returns-clause-compound
returns-clause-compound c = compound_mode_reads
