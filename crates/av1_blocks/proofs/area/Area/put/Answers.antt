use Rattle.std.proofs.Common.{◌+◌, ◌-◌, ◌*◌, ◌/◌, ◌%◌, ℕ, List, ◌∙◌, sym, ap, get_or, if◌then◌else◌}
use Rattle.av1_blocks.specs.declared.block.Block.{Block}
use Rattle.av1_blocks.specs.declared.block.TheConstants.Block.{DEFAULT}
use Rattle.av1_blocks.specs.Places.{changed, within}
use Rattle.av1_blocks.proofs.Places.{same, area-none, area-more, row_places, when}
use Rattle.av1_blocks.proofs.area.Area.put.Goals as goal

pub loop-y-init : goal.loop-y-init
loop-y-init c =
    let a = c.args.self in
    let cols = c.args.cols in
    sym (area-none cols a.left a.right a.top (λ k _. get_or c.args.items.now ((k / cols - a.top) * (a.right - a.left) + (k % cols - a.left)) DEFAULT) _)

pub loop-y-preserved : goal.loop-y-preserved
loop-y-preserved c =
    let a = c.args.self in
    let cols = c.args.cols in
    let y = c.loop-y.y in
    let from = y * cols + a.left in
    let to = y * cols + a.right in
    let item = λ (i : ℕ). get_or c.args.items.now i DEFAULT in
    let row : ℕ → Block → Block = λ k b. if within from to k then item ((y - a.top) * (a.right - a.left) + (k - from)) else b in
    let placed : ℕ → Block = λ k. item ((k / cols - a.top) * (a.right - a.left) + (k % cols - a.left)) in
    c.put_between.ensures
    ∙ ap (λ (xs : List Block). changed row xs) c.loop-y.invariant
    ∙ same row (λ k b. if within from to k then placed k else b) _ (λ k b. when (within from to k) _ _ b
    (λ e. ap item (row_places cols a.left a.right a.top y k c.requires.some c.requires.right e)))
    ∙ area-more cols a.left a.right a.top y (λ k _. placed k) _ c.requires.some c.requires.right c.loop-y.auto.y
