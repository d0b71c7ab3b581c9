use Rattle.std.proofs.Common.{List, ◌∙◌, sym, ap, set, get_or, arith}
use Rattle.av1_blocks.specs.Entry.{entered}
use Rattle.av1_blocks.specs.declared.block.Block.{Block}
use Rattle.av1_blocks.proofs.Places.{between-none, between-more}
use Rattle.av1_blocks.proofs.Zero.{zero_block}
use Rattle.av1_blocks.proofs.area.enter_between.Goals as goal

pub loop-k-init : goal.loop-k-init
loop-k-init c = sym (between-none _ (λ _ b. entered c.args.entry b) _)

pub loop-k-preserved : goal.loop-k-preserved
loop-k-preserved c =
    ap (λ (b : Block). set c.loop-k.blocks c.loop-k.k b) c.enter.ensures
    ∙ ap (λ (xs : List Block). set xs c.loop-k.k (entered c.args.entry (get_or xs c.loop-k.k zero_block))) c.loop-k.invariant
    ∙ between-more c.args.from c.loop-k.k (λ _ b. entered c.args.entry b) _ zero_block c.loop-k.auto.k (omega arith)
