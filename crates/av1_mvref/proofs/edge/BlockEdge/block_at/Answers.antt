use Rattle.std.proofs.Common.{◌∙◌, ap, arith}
use Rattle.av1_mvref.specs.Neighbours.{pick}
use Rattle.av1_mvref.proofs.edge.BlockEdge.block_at.Goals as goal

pub overflow_add-along : goal.overflow_add-along
overflow_add-along c =
    let to = c.args.self.to in
    let end = c.pick-end.ensures ∙ ap (λ n. pick to n c.rows.result) c.cols.ensures ∙ ap (λ n. pick to c.args.blocks.now.cols n) c.rows.ensures in
    omega arith

pub overflow_add-along-2 : goal.overflow_add-along-2
overflow_add-along-2 c =
    let to = c.args.self.to in
    let end = c.pick-end.ensures ∙ ap (λ n. pick to n c.rows.result) c.cols.ensures ∙ ap (λ n. pick to c.args.blocks.now.cols n) c.rows.ensures in
    omega arith
