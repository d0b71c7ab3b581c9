use Rattle.std.proofs.Common.{◌+◌, ◌*◌}
use Rattle.av1_coef.proofs.DiagonalSteps.{IsBegun}
use Rattle.av1_coef.proofs.diagonal_order.diagonal_positions.Given as goal

abbrev pub invariant-loop-line : goal.invariant-loop-line
invariant-loop-line l = IsBegun l.w l.h (64 * l.line + 0) l.positions.items

abbrev pub invariant-loop-col : goal.invariant-loop-col
invariant-loop-col l = IsBegun l.w l.h (64 * l.line + l.col) l.positions.items
