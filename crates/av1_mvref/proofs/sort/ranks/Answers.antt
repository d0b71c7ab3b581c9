use Rattle.std.proofs.Common.{◌≡◌, ◌+◌, ◌-◌, ◌++◌, [], ◌∷◌, length, take, length-take, get_or, ◌∙◌, ap, sym, arith, suc}
use Rattle.av1_mvref.specs.declared.candidate.CandidateMV.{CandidateMV}
use Rattle.av1_mvref.specs.Candidates.{no_vector}
use Rattle.av1_mvref.specs.Sorted.{ranks_from}
use Rattle.av1_mvref.proofs.Sorting.{length-ranks, ranks-take}
use Rattle.av1_mvref.proofs.sort.ranks.Goals as goal

pub push-requires : goal.push-requires
push-requires c =
    let long : length c.loop-k.ranks.items ≡ c.loop-k.k = ap length c.loop-k.invariant ∙ length-ranks 0 (take c.loop-k.k c.args.stack.now) ∙ omega (arith, length-take c.loop-k.k c.args.stack.now) in
    omega arith

pub loop-k-preserved : goal.loop-k-preserved
loop-k-preserved c =
    let zero : CandidateMV = record { this_mv = no_vector; comp_mv = no_vector; weight = 0 } in
    let place : c.loop-k.k ≡ 0 + c.loop-k.k = omega arith in
    let next : suc c.loop-k.k ≡ c.loop-k.k + 1 = omega arith in
    let e = ranks-take 0 c.loop-k.k c.args.stack.now zero (omega arith) in
    c.push.ensures.items
    ∙ ap (λ rs. rs ++ (4294967295 - (get_or c.args.stack.now c.loop-k.k zero).weight, c.loop-k.k) ∷ []) c.loop-k.invariant
    ∙ ap (λ m. ranks_from 0 (take c.loop-k.k c.args.stack.now) ++ (4294967295 - (get_or c.args.stack.now c.loop-k.k zero).weight, m) ∷ []) place
    ∙ sym e ∙ ap (λ m. ranks_from 0 (take m c.args.stack.now)) next
