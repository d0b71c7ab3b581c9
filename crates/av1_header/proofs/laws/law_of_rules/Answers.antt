use Rattle.av1_header.proofs.FrameFitLaws.{sequence_within, frame_within}
use Rattle.av1_header.proofs.laws.law_of_rules.Goals as goal

pub returns-clause-sequence : goal.returns-clause-sequence
returns-clause-sequence c fi fs refs e k = sequence_within fi fs refs e k

pub returns-clause-frame : goal.returns-clause-frame
returns-clause-frame c fi fs refs e k some few = frame_within fi fs refs e k (some, few)
