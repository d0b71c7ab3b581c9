use Rattle.std.proofs.Common.{◌-◌, length}
use Rattle.av1_coef.proofs.AllScans.{ClassesBegun}
use Rattle.av1_coef.proofs.diagonal_order.diagonal_of_size.Given as goal

abbrev pub invariant-loop-alloc : goal.invariant-loop-alloc
invariant-loop-alloc l = ClassesBegun l.fn.tx_size l.scans.items

abbrev pub decreases-loop-alloc : goal.decreases-loop-alloc
decreases-loop-alloc l = 3 - length l.scans.items
