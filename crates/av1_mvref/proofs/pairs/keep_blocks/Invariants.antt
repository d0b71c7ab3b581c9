use Rattle.std.proofs.Common.{◌-◌}
use Rattle.av1_mvref.specs.Neighbours.{edge, at_distance}
use Rattle.av1_mvref.specs.Noted.{kept_same, kept_others}
use Rattle.av1_mvref.proofs.Walked.{IsPartKept}
use Rattle.av1_mvref.proofs.pairs.keep_blocks.Given as goal

abbrev pub invariant-loop-i : goal.invariant-loop-i
invariant-loop-i l =
    let e = edge l.beside.to l.blocks l.beside.bo.0 l.beside.bsize in
    IsPartKept (kept_same l.to) (kept_others l.sign_bias l.to) (at_distance e 1) e.side_of l.n l.initial.same.items l.initial.others.items l.same.items l.others.items l.i

abbrev pub decreases-loop-i : goal.decreases-loop-i
decreases-loop-i l = l.n - l.i
