use Rattle.av1_ec.proofs.Recording.{recording_begun}
use Rattle.av1_ec.proofs.recorder.WriterRecorder.new.Goals as goal

pub invariant_of-result-clause-window : goal.invariant_of-result-clause-window
invariant_of-result-clause-window c = ∣ recording_begun _ c.new.ensures.items ∣₁
