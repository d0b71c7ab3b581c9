use Rattle.std.proofs.Common.{◌≡◌, ◌∙◌, ◌%◌, length, sym, subst, List, Bool}
use Rattle.av1_bits.proofs.Writing.{all_whole}
use Rattle.av1_bits.proofs.bit_writer.BitWriter.bytes.Goals as goal

pub returns : goal.returns
returns c =
    let aligned = subst (λ (l : List Bool). length l % 8 ≡ 0) (sym c.self.view_is) c.requires in
    all_whole _ _ _ c.self.invariant.0 aligned ∙ c.self.view_is
