use Rattle.std.proofs.Common.{◌≡◌, ◌∙◌, ◌+◌, ◌^◌, nat_lt, nat_eq, ap}
use Rattle.av1_geometry.specs.TxSize.{tx_width_log2, tx_height_log2}
use Rattle.av1_syntax.specs.Flags.{flag_number}
use Rattle.av1_syntax.specs.TransformSizes.{width_above, height_left}
use Rattle.av1_syntax.proofs.Values.{flag_byte}
use Rattle.av1_syntax.proofs.context_writer.ContextWriter.txfm_partition_context.Goals as goal

pub returns-clause-value : goal.returns-clause-value
returns-clause-value c =
    let bc = c.args.self.now.bc in
    let bo = c.args.bo.0 in
    let tx = c.args.tx_size in
    let wide : nat_lt c.get_above_tx_width.result c.width.result ≡ nat_lt (width_above bc bo (nat_eq c.args.tby 0)) (2 ^ tx_width_log2 tx) = λ i. nat_lt (c.get_above_tx_width.ensures i) (c.width.ensures.value i) in
    let high : nat_lt c.get_left_tx_height.result c.height.result ≡ nat_lt (height_left bc bo (nat_eq c.args.tbx 0)) (2 ^ tx_height_log2 tx) = λ i. nat_lt (c.get_left_tx_height.ensures i) (c.height.ensures.value i) in
    let a = c.from.ensures ∙ flag_byte (nat_lt c.get_above_tx_width.result c.width.result) ∙ ap flag_number wide in
    let l = c.from-2.ensures ∙ flag_byte (nat_lt c.get_left_tx_height.result c.height.result) ∙ ap flag_number high in
    λ i. c.category.ensures.value i + (a i + l i)
