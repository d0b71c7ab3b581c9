use Rattle.std.proofs.Common.{◌∙◌, get_or, ap, sym, arith, inl, inr}
use Rattle.std.proofs.lemmas.Bool.{cases_eq}
use Rattle.std.proofs.lemmas.List.{get_or_default}
use Rattle.av1_mvref.specs.declared.candidate.CandidateMV.{CandidateMV}
use Rattle.av1_mvref.specs.Candidates.{same, no_vector}
use Rattle.av1_mvref.proofs.stack.place_of.Goals as goal

pub loop-k-preserved : goal.loop-k-preserved
loop-k-preserved c = λ j d h.
    let zero : CandidateMV = record { this_mv = no_vector; comp_mv = no_vector; weight = 0 } in
    elim (cases_eq j c.loop-k.k) [
      | inl e ↦
          ap (λ i. same c.args.seen (get_or c.args.stack.now i d)) e
          ∙ ap (same c.args.seen) (get_or_default c.args.stack.now c.loop-k.k d zero (omega arith))
          ∙ sym c.is_same.ensures ∙ c.if-is_same.false
      | inr n ↦ c.loop-k.invariant j d (omega arith)
    ]
