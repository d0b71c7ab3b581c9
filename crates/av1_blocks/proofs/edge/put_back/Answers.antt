use Rattle.std.proofs.Common.{◌+◌, List, ℕ, ◌∙◌, sym, ap, set, get_or}
use Rattle.av1_blocks.proofs.Places.{put-none, put-more}
use Rattle.av1_blocks.proofs.edge.put_back.Goals as goal

pub loop-k-init : goal.loop-k-init
loop-k-init c = sym (put-none _ _ _)

pub loop-k-preserved : goal.loop-k-preserved
loop-k-preserved c = ap (λ (xs : List ℕ). set xs (c.args.from + c.loop-k.k) (get_or c.args.saved.now c.loop-k.k 0)) c.loop-k.invariant ∙ put-more _ _ _ _
