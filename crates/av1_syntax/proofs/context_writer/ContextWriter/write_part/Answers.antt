use Rattle.std.proofs.Common.{◌≡◌, ◌∙◌, ◌-◌, ◌^◌, sym, ap, arith}
use Rattle.av1_geometry.specs.BlockSize.{width_mi, height_mi}
use Rattle.av1_geometry.specs.TxSize.{tx_width_log2, tx_height_log2}
use Rattle.av1_syntax.proofs.Splits.{part_none, within_inside}
use Rattle.av1_syntax.proofs.context_writer.ContextWriter.write_part.Goals as goal

pub returns-then-not-is_within-clause-wrote : goal.returns-then-not-is_within-clause-wrote
returns-then-not-is_within-clause-wrote g c =
    let t = c.if-not-is_within.true in
    part_none c.args.self.now.bc c.args.bo.0 c.args.bsize c.args.part c.args.tbx c.args.tby _ (sym c.is_within.ensures ∙ t)

pub update_tx_size_context-requires-clause-column : goal.update_tx_size_context-requires-clause-column
update_tx_size_context-requires-clause-column g c =
    let f = c.if-not-is_within.false in
    let at = within_inside c.args.self.now.bc.blocks c.args.bo.0 (sym c.is_within.ensures ∙ f) in
    let h = (c.requires.placed at).column in
    let e : width_mi c.block_size.result ≡ 2 ^ (tx_width_log2 c.args.part - 2) = ap (λ n. 2 ^ (n - 2)) c.block_size.ensures.width in
    let l = at.column in
    omega (arith, h, e, l, c.requires.few)

pub update_tx_size_context-requires-clause-row : goal.update_tx_size_context-requires-clause-row
update_tx_size_context-requires-clause-row g c =
    let f = c.if-not-is_within.false in
    let at = within_inside c.args.self.now.bc.blocks c.args.bo.0 (sym c.is_within.ensures ∙ f) in
    let h = (c.requires.placed at).row in
    let e : height_mi c.block_size.result ≡ 2 ^ (tx_height_log2 c.args.part - 2) = ap (λ n. 2 ^ (n - 2)) c.block_size.ensures.height in
    omega (arith, h, e)
