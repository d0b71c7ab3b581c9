use Rattle.av1_syntax.proofs.InterReads.{ref_frames_reads}
use Rattle.av1_syntax.proofs.laws.law_of_ref_frames.Goals as goal

pub returns : goal.returns
returns c = ref_frames_reads
