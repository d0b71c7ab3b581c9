use Rattle.std.proofs.Common.{◌+◌, ◌*◌, List, ◌∙◌, sym, ap, arith, if◌then◌else◌}
use Rattle.std.proofs.Math.Nat.{mul-le-mul_right}
use Rattle.av1_blocks.specs.declared.block.Block.{Block}
use Rattle.av1_blocks.specs.Entry.{entered}
use Rattle.av1_blocks.specs.Places.{changed, within}
use Rattle.av1_blocks.proofs.Places.{area-none, area-more}
use Rattle.av1_blocks.proofs.area.Area.enter.Goals as goal

pub overflow_add-y : goal.overflow_add-y
overflow_add-y c = omega (arith, mul-le-mul_right {m = c.loop-y.y + 1} {n = c.args.self.bottom} c.args.cols (omega arith))

pub loop-y-init : goal.loop-y-init
loop-y-init c = sym (area-none _ _ _ _ (λ _ b. entered c.args.entry b) _)

pub loop-y-preserved : goal.loop-y-preserved
loop-y-preserved c =
    let y = c.loop-y.y in
    let cols = c.args.cols in
    c.enter_between.ensures
    ∙ ap (λ (xs : List Block). changed (λ k x. if within (y * cols + c.args.self.left) (y * cols + c.args.self.right) k then entered c.args.entry x else x) xs) c.loop-y.invariant
    ∙ area-more cols c.args.self.left c.args.self.right c.args.self.top y (λ _ b. entered c.args.entry b) _ c.requires.some c.requires.right c.loop-y.auto.y
