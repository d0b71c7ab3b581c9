use Rattle.std.proofs.Common.{◌+◌, ◌-◌, List, ◌∙◌, sym, ap, set, get_or, arith}
use Rattle.av1_blocks.specs.declared.block.Block.{Block}
use Rattle.av1_blocks.specs.declared.block.TheConstants.Block.{DEFAULT}
use Rattle.av1_blocks.proofs.Places.{between-none, given-more}
use Rattle.av1_blocks.proofs.Zero.{zero_block, any_default}
use Rattle.av1_blocks.proofs.area.put_between.Goals as goal

pub loop-k-init : goal.loop-k-init
loop-k-init c = sym (between-none _ (λ k _. get_or c.args.items.now (c.args.first + (k - c.args.from)) DEFAULT) _)

pub loop-k-preserved : goal.loop-k-preserved
loop-k-preserved c =
    let k = c.loop-k.k in
    ap (λ (b : Block). set c.loop-k.blocks k b) (any_default c.args.items.now (c.args.first + (k - c.args.from)) zero_block DEFAULT (omega arith))
    ∙ ap (λ (xs : List Block). set xs k (get_or c.args.items.now (c.args.first + (k - c.args.from)) DEFAULT)) c.loop-k.invariant
    ∙ given-more c.args.from k (λ k. get_or c.args.items.now (c.args.first + (k - c.args.from)) DEFAULT) _ (omega arith)
