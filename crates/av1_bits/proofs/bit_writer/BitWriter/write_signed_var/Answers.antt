use Rattle.std.proofs.Common.{◌≡◌, ◌∙◌, ◌++◌, ap, subst, List, Bool, OnOk, pow_pos, arith}
use Rattle.std.proofs.lemmas.Int.{to_z-of_z}
use Rattle.std.specs.Int.{w64}
use Rattle.av1_model.specs.Bits.{bits_of}
use Rattle.av1_model.proofs.BitsNumbers.{bits_of-mod}
use Rattle.av1_model.proofs.BitsSigned.{signed_bits_of-cast}
use Rattle.av1_bits.proofs.Writing.{low_mask}
use Rattle.av1_bits.proofs.bit_writer.BitWriter.write_signed_var.Goals as goal

pub write_var-requires-clause-fits : goal.write_var-requires-clause-fits
write_var-requires-clause-fits c = rw (low_mask c.cast_unsigned.result c.args.n c.requires.bits) (omega (arith, pow_pos c.args.n))

pub returns-clause-ok : goal.returns-clause-ok
returns-clause-ok c =
    let n = c.args.n in
    let same = ap (bits_of n) (low_mask c.cast_unsigned.result n c.requires.bits) ∙ bits_of-mod n c.cast_unsigned.result ∙ ap (bits_of n) (rw (to_z-of_z w64 c.args.v c.ranges.v) at c.cast_unsigned.ensures) ∙ signed_bits_of-cast n c.args.v c.requires.bits c.ranges.v in
    subst (λ (l : List Bool). OnOk c.write_var.result (c.write_var.new.self ≡ c.args.self.now ++ l)) same c.write_var.ensures.ok
