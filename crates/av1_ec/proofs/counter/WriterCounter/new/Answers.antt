use Rattle.av1_ec.proofs.Counting.{count_begun}
use Rattle.av1_ec.proofs.counter.WriterCounter.new.Goals as goal

pub invariant_of-result-clause-window : goal.invariant_of-result-clause-window
invariant_of-result-clause-window c = ∣ count_begun ∣₁
