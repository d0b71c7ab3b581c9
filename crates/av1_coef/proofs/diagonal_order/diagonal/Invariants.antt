use Rattle.std.proofs.Common.{map}
use Rattle.av1_coef.proofs.AllScans.{SizesBegun}
use Rattle.av1_coef.proofs.diagonal_order.diagonal.Given as goal

abbrev pub invariant-loop-tx_size : goal.invariant-loop-tx_size
invariant-loop-tx_size l = SizesBegun (map (λ v. v.items) l.scans.items) l.tx_size-index
