use Rattle.std.proofs.Common.{◌-◌}
use Rattle.av1_mvref.specs.Neighbours.{edge}
use Rattle.av1_mvref.proofs.PartWay.{IsPartWay}
use Rattle.av1_mvref.proofs.scan.scan_line.Given as goal

abbrev pub invariant-loop-i : goal.invariant-loop-i
invariant-loop-i l = IsPartWay l.wanted (edge l.beside.to l.blocks l.beside.bo.0 l.beside.bsize) l.distance l.initial.stack.items l.initial.done l.initial.new l.stack.items l.found l.new l.done l.i

abbrev pub decreases-loop-i : goal.decreases-loop-i
decreases-loop-i l = l.shown - l.i
