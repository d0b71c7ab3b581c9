use Rattle.std.proofs.Common.{◌≡◌, ◌+◌, ◌∙◌, suc, get_or, set, ap, arith}
use Rattle.av1_mvref.specs.declared.candidate.CandidateMV.{CandidateMV}
use Rattle.av1_mvref.specs.Candidates.{no_vector}
use Rattle.av1_mvref.specs.Noted.{nearer}
use Rattle.av1_mvref.proofs.Noting.{heaviest-at}
use Rattle.av1_mvref.proofs.Raised.{up_to, up_to-more, get_or-up_to}
use Rattle.av1_mvref.proofs.stack.raise_all.Goals as goal

abbrev zero : CandidateMV
zero = record { this_mv = no_vector; comp_mv = no_vector; weight = 0 }

pub raise-requires : goal.raise-requires
raise-requires c =
    let same = ap (λ xs. get_or xs c.loop-k.k zero) c.loop-k.invariant ∙ get_or-up_to nearer c.args.stack.now c.loop-k.k zero (omega arith) in
    let w = ap (λ (d : CandidateMV). d.weight) same in
    let light = heaviest-at c.args.stack.now c.loop-k.k zero (omega arith) in
    omega arith

pub loop-k-preserved : goal.loop-k-preserved
loop-k-preserved c =
    let same = ap (λ xs. get_or xs c.loop-k.k zero) c.loop-k.invariant ∙ get_or-up_to nearer c.args.stack.now c.loop-k.k zero (omega arith) in
    let next : suc c.loop-k.k ≡ c.loop-k.k + 1 = omega arith in
    ap (λ (d : CandidateMV). set c.loop-k.stack c.loop-k.k d) (c.raise.ensures ∙ ap nearer same)
    ∙ ap (λ xs. set xs c.loop-k.k (nearer (get_or c.args.stack.now c.loop-k.k zero))) c.loop-k.invariant
    ∙ up_to-more nearer c.args.stack.now c.loop-k.k zero (omega arith)
    ∙ ap (λ k. up_to nearer k c.args.stack.now) next
