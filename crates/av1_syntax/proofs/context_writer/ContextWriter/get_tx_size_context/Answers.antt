use Rattle.std.proofs.Common.{◌∙◌, ◌+◌, ap}
use Rattle.av1_geometry.specs.BlockTables.{max_tx_size}
use Rattle.av1_syntax.specs.Flags.{flag_number}
use Rattle.av1_syntax.specs.TransformSizes.{is_wide_above, is_high_left}
use Rattle.av1_syntax.proofs.Values.{flag_byte}
use Rattle.av1_syntax.proofs.context_writer.ContextWriter.get_tx_size_context.Goals as goal

pub returns-clause-value : goal.returns-clause-value
returns-clause-value c =
    let bc = c.args.self.now.bc in
    let bo = c.args.bo.0 in
    let a = c.from.ensures ∙ flag_byte c.is_wide_above.result ∙ ap flag_number (c.is_wide_above.ensures ∙ ap (is_wide_above bc bo) c.tx_size-largest.ensures.value) in
    let l = c.from-2.ensures ∙ flag_byte c.is_high_left.result ∙ ap flag_number (c.is_high_left.ensures ∙ ap (is_high_left bc bo) c.tx_size-largest.ensures.value) in
    ap (λ n. n + c.from-2.result) a ∙ ap (λ n. flag_number (is_wide_above bc bo (max_tx_size c.args.bsize)) + n) l
