use Rattle.std.proofs.Common.{◌∙◌, ap, arith}
use Rattle.av1_geometry.specs.BlockTables.{max_tx_size}
use Rattle.av1_geometry.specs.declared.tx_size.TxSize.{TxSize}
use Rattle.av1_syntax.specs.TransformSizes.{longer, depths, depth_of, depth_slot, size_at}
use Rattle.av1_syntax.proofs.TransformSizes.{larger_block, offered_within, offered_few, offered_told}
use Rattle.av1_syntax.proofs.Writing.{wrote_symbol}
use Rattle.av1_syntax.proofs.context_writer.ContextWriter.write_tx_size_intra.Goals as goal

pub depth_of-requires : goal.depth_of-requires
depth_of-requires g c =
    let e = ap longer c.tx_size-largest.ensures.value in
    let l = offered_within (max_tx_size c.args.bsize) c.args.tx_size c.requires.size in
    omega (arith, e, l)

pub symbol-requires-clause-s : goal.symbol-requires-clause-s
symbol-requires-clause-s g c =
    let largest = max_tx_size c.args.bsize in
    let few = offered_few largest c.args.tx_size (larger_block c.args.bsize c.requires.larger) c.requires.size in
    let d = c.depth_of.ensures.value ∙ ap (λ (t : TxSize). depth_of t c.args.tx_size) c.tx_size-largest.ensures.value in
    let n = c.depth_slot-cdf.ensures.len ∙ ap depths c.tx_size-largest.ensures.value in
    omega (arith, few, d, n)

pub returns-clause-wrote : goal.returns-clause-wrote
returns-clause-wrote g c =
    let largest = max_tx_size c.args.bsize in
    let is = c.depth_slot-cdf.ensures.is ∙ ap (λ (t : TxSize). depth_slot t c.get_tx_size_context.result) c.tx_size-largest.ensures.value ∙ ap (depth_slot largest) c.get_tx_size_context.ensures.value in
    let d = c.depth_of.ensures.value ∙ ap (λ (t : TxSize). depth_of t c.args.tx_size) c.tx_size-largest.ensures.value in
    wrote_symbol c.symbol.result _ _ (size_at largest) (depth_of largest) c.depth_of.result c.args.tx_size _ _ is d (offered_told largest c.args.tx_size (larger_block c.args.bsize c.requires.larger) c.requires.size) c.symbol.ensures.ok c.symbol.ensures.err
