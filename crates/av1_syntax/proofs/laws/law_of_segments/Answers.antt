use Rattle.av1_syntax.proofs.Readings.{segment_reads}
use Rattle.av1_syntax.proofs.Segments.{interleaved_below, interleaved_back, deinterleaved_below, deinterleaved_back}
use Rattle.av1_syntax.proofs.laws.law_of_segments.Goals as goal

pub returns-clause-below : goal.returns-clause-below
returns-clause-below c = interleaved_below

pub returns-clause-back : goal.returns-clause-back
returns-clause-back c = interleaved_back

pub returns-clause-forth : goal.returns-clause-forth
returns-clause-forth c n r s a b = (deinterleaved_below n r s a b, deinterleaved_back n r s a b)

pub returns-clause-segment : goal.returns-clause-segment
returns-clause-segment c = segment_reads
