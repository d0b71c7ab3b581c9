use Rattle.std.proofs.Common.{◌≡◌, subst, List, Bool, OnOk}
use Rattle.av1_bits.proofs.Writing.{aligned_after}
use Rattle.av1_bits.proofs.bit_writer.BitWriter.byte_align.Goals as goal

pub returns-clause-ok : goal.returns-clause-ok
returns-clause-ok c =
    subst (λ (l : List Bool). OnOk c.write_var-2.result (c.write_var-2.new.self ≡ l)) (aligned_after _ _ _ _ c.write_var.invariant.0 c.write_var.view_is) c.write_var-2.ensures.ok
