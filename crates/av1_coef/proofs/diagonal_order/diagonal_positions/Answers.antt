use Rattle.std.proofs.Common.{◌≡◌, ◌+◌, ◌*◌, ◌-◌, ◌≤◌, ◌<◌, subst, arith}
use Rattle.av1_coef.proofs.DiagonalSteps.{IsBegun, diagonal_place, diagonal_gap, diagonal_line, diagonal_done}
use Rattle.av1_coef.proofs.diagonal_order.diagonal_positions.Goals.{then-col-line+then-line-col+in_ok-push, else-col-line, else-col-line-via-then-col-line+else-line-col, else-col-line-via-else-col-line}
use Rattle.av1_coef.proofs.diagonal_order.diagonal_positions.Goals as goal

pub loop-col-preserved : goal.loop-col-preserved
loop-col-preserved c = elim c.if-col-line.branch [
  | then-col-line+then-line-col+in_ok-push w ↦
      rw (w.positions-is, w.in_ok-push.ensures.items)
      (diagonal_place c.args.w c.args.h c.loop-line.line c.loop-col.col c.loop-col.positions.items c.requires.some c.requires.width c.loop-col-test.true w.if-col-line.true w.if-line-col.true c.loop-col.invariant)
  | else-col-line w ↦
      let out : c.loop-col.col ≤ c.loop-line.line → c.loop-line.line - c.loop-col.col < c.args.h → ⊥ = elim w.else-col-line.branch [
        | else-col-line-via-then-col-line+else-line-col w' ↦ λ l m. omega (arith, w'.if-line-col.false, m)
        | else-col-line-via-else-col-line w' ↦ λ l m. omega (arith, w'.if-col-line.false, l)
      ] in
      rw w.positions-is (diagonal_gap c.args.w c.args.h c.loop-line.line c.loop-col.col c.loop-col.positions.items c.requires.some c.requires.width c.loop-col-test.true out c.loop-col.invariant)
]

pub loop-line-preserved : goal.loop-line-preserved
loop-line-preserved c =
    let end : c.loop-col.col ≡ c.args.w = omega (arith, c.loop-col-test.false, c.loop-col.auto.col-end) in
    diagonal_line c.args.w c.args.h c.loop-line.line c.loop-col.positions.items c.requires.some c.requires.width
    (subst (λ n. IsBegun c.args.w c.args.h (64 * c.loop-line.line + n) c.loop-col.positions.items) end c.loop-col.invariant)

pub returns : goal.returns
returns c =
    let end : c.loop-line.line ≡ c.args.w + c.args.h - 1 = omega (arith, c.loop-line-test.false, c.loop-line.auto.line-end) in
    diagonal_done c.args.w c.args.h c.loop-line.positions.items c.requires.some c.requires.width
    (subst (λ n. IsBegun c.args.w c.args.h (64 * n + 0) c.loop-line.positions.items) end c.loop-line.invariant)
