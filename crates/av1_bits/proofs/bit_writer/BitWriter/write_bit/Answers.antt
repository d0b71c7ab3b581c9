use Rattle.std.proofs.Common.{◌≡◌, ◌++◌, subst, List, Bool, OnOk}
use Rattle.av1_bits.proofs.Writing.{bits_of-one}
use Rattle.av1_bits.proofs.bit_writer.BitWriter.write_bit.Goals as goal

pub returns-clause-ok : goal.returns-clause-ok
returns-clause-ok c =
    subst (λ (l : List Bool). OnOk c.write_var.result (c.write_var.new.self ≡ c.args.self.now ++ l)) (bits_of-one c.args.bit c.from.result c.from.ensures) c.write_var.ensures.ok
