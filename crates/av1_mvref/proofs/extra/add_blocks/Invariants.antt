use Rattle.std.proofs.Common.{◌-◌, ◌≤◌, length}
use Rattle.av1_mvref.specs.Neighbours.{edge, at_distance}
use Rattle.av1_mvref.specs.ExtraSearch.{with_block}
use Rattle.av1_mvref.proofs.Walked.{IsPartWalked}
use Rattle.av1_mvref.proofs.extra.add_blocks.Given as goal

abbrev pub invariant-loop-i : goal.invariant-loop-i
invariant-loop-i l =
    let e = edge l.beside.to l.blocks l.beside.bo.0 l.beside.bsize in
    IsPartWalked (with_block l.sign_bias l.to) (at_distance e 1) e.side_of l.n l.initial.stack.items l.stack.items l.i × (length l.stack.items ≤ 3)

abbrev pub decreases-loop-i : goal.decreases-loop-i
decreases-loop-i l = l.n - l.i
