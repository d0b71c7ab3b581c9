use Rattle.std.proofs.Common.{List, ℕ, ◌∙◌, sym, ap, set, arith}
use Rattle.av1_blocks.proofs.Places.{filled-none, filled-more}
use Rattle.av1_blocks.proofs.edge.fill.Goals as goal

pub loop-k-init : goal.loop-k-init
loop-k-init c = sym (filled-none _ _ _)

pub loop-k-preserved : goal.loop-k-preserved
loop-k-preserved c = ap (λ (xs : List ℕ). set xs c.loop-k.k c.args.value) c.loop-k.invariant ∙ filled-more _ _ _ _ (omega arith)
