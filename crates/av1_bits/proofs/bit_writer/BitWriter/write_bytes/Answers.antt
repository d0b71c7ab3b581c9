use Rattle.std.proofs.Common.{◌++◌, ◌∙◌, ap, List, Bool}
use Rattle.av1_model.specs.Bits.{bits_of_bytes}
use Rattle.av1_bits.proofs.Writing.{bytes_behind_whole}
use Rattle.av1_bits.proofs.bit_writer.BitWriter.write_bytes.Goals as goal

pub returns-then-self-eq0-clause-ok : goal.returns-then-self-eq0-clause-ok
returns-then-self-eq0-clause-ok c =
    bytes_behind_whole _ _ _ _ _ c.if-self-eq0.true c.in_ok-extend_from_slice.ensures.items ∙ ap (λ (l : List Bool). l ++ bits_of_bytes c.args.bytes.now) c.self.view_is
