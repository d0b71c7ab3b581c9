use Rattle.std.proofs.Common.{◌≡◌, ◌+◌, ◌∙◌, suc, get_or, set, ap, arith}
use Rattle.av1_mvref.specs.declared.candidate.CandidateMV.{CandidateMV}
use Rattle.av1_mvref.specs.Candidates.{no_vector, clamped}
use Rattle.av1_mvref.proofs.Raised.{up_to, up_to-more, get_or-up_to}
use Rattle.av1_mvref.proofs.clamp.clamp_all.Goals as goal

abbrev zero : CandidateMV
zero = record { this_mv = no_vector; comp_mv = no_vector; weight = 0 }

pub loop-k-preserved : goal.loop-k-preserved
loop-k-preserved c =
    let f = clamped c.args.blocks.now c.args.bo.0 c.args.bsize in
    let same = ap (λ xs. get_or xs c.loop-k.k zero) c.loop-k.invariant ∙ get_or-up_to f c.args.list.now c.loop-k.k zero (omega arith) in
    let next : suc c.loop-k.k ≡ c.loop-k.k + 1 = omega arith in
    ap (λ (d : CandidateMV). set c.loop-k.list c.loop-k.k d) (c.clamped.ensures ∙ ap f same)
    ∙ ap (λ xs. set xs c.loop-k.k (f (get_or c.args.list.now c.loop-k.k zero))) c.loop-k.invariant
    ∙ up_to-more f c.args.list.now c.loop-k.k zero (omega arith)
    ∙ ap (λ k. up_to f k c.args.list.now) next
