use Rattle.std.proofs.Common.{◌≡◌}
use Rattle.av1_make.specs.Blocks.{first_levels}
use Rattle.av1_make.specs.Draws.{after, drawn}
use Rattle.av1_make.proofs.blocks.draw_levels.Given as goal

abbrev pub invariant-loop-k : goal.invariant-loop-k
invariant-loop-k l =
    (l.levels.items ≡ first_levels l.count l.k (λ k. drawn (after k l.initial.maker.state)))
    × (l.maker.state ≡ after l.k l.initial.maker.state)
    × (l.maker.items ≡ l.initial.maker.items)
