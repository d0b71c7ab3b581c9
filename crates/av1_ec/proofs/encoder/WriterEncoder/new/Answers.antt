use Rattle.av1_ec.proofs.Encoding.{fresh}
use Rattle.av1_ec.proofs.encoder.WriterEncoder.new.Goals as goal

pub invariant_of-result-clause-window : goal.invariant_of-result-clause-window
invariant_of-result-clause-window c = ∣ fresh _ c.new.ensures.items ∣₁
