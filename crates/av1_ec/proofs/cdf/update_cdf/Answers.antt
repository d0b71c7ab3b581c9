use Rattle.std.proofs.Common.{◌≡◌, ℕ, ◌+◌, ◌-◌, ◌/◌, ◌<◌, length, subst, sym, ap, ◌∙◌, arith}
use Rattle.std.specs.Prelude.{slice_index}
use Rattle.av1_model.specs.Cdf.{IsCdf, rate, adapted}
use Rattle.av1_model.proofs.Adapting.{adapt_valid, adapt_written}
use Rattle.av1_ec.specs.Learning.{moved}
use Rattle.av1_ec.proofs.Moving.{adapted_moved}
use Rattle.av1_ec.proofs.cdf.update_cdf.Goals.{then-cdf-ge8, else-cdf-ge8}
use Rattle.av1_ec.proofs.cdf.update_cdf.Goals as goal

-- each number but the count, by either way
written : (c : goal.Joined-cdf-ge8) (k : ℕ) → k + 1 < length c.args.cdf.now → slice_index c.if-cdf-ge8.cdf k ≡ adapted c.args.cdf.now c.args.val k
written c k h =
    let cdf = c.args.cdf.now in
    let slow : 3 + c.min.result + slice_index cdf (length cdf - 1) / 16 ≡ rate cdf = ap (λ m. 3 + m + slice_index cdf (length cdf - 1) / 16) c.min.ensures in
    let learned = ap (λ r. moved r c.args.val k (slice_index cdf k)) slow ∙ sym (adapted_moved cdf c.args.val k h) in
    elim c.if-cdf-ge8.branch [
      | then-cdf-ge8 w ↦ ap (λ xs. slice_index xs k) w.cdf-is ∙ w.learn_long.ensures.moved k (omega arith) ∙ learned
      | else-cdf-ge8 w ↦ ap (λ xs. slice_index xs k) w.cdf-is ∙ w.learn_short.ensures.moved k h ∙ learned
    ]

pub returns-clause-adapted : goal.returns-clause-adapted
returns-clause-adapted c = adapt_written c.args.cdf.now c.if-cdf-ge8.cdf c.args.val c.requires.cdf c.if-cdf-ge8.auto.cdf (written c)

pub returns-clause-valid : goal.returns-clause-valid
returns-clause-valid c =
    let e = adapt_written c.args.cdf.now c.if-cdf-ge8.cdf c.args.val c.requires.cdf c.if-cdf-ge8.auto.cdf (written c) in
    subst IsCdf (sym e) (adapt_valid c.args.cdf.now c.args.val c.requires.cdf)
