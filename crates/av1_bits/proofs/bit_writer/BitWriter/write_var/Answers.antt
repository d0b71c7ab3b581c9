use Rattle.std.proofs.Common.{◌≡◌, ◌∙◌, ◌+◌, ◌%◌, ◌/◌, ◌*◌, ◌^◌, ◌<◌, ◌++◌, ap, List, Bool, arith}
use Rattle.av1_model.specs.Bits.{bits_of}
use Rattle.av1_bits.proofs.Writing.{bits_after, begun_small, shift_fits, one_fits}
use Rattle.av1_bits.proofs.bit_writer.BitWriter.write_var.Goals as goal

pub returns-clause-ok : goal.returns-clause-ok
returns-clause-ok c =
    let n = c.args.n in
    let rest = (c.self.inside.pending + n) % 8 in
    let modulus : 1 * 2 ^ rest % 2 ^ 128 ≡ 2 ^ rest = one_fits rest 128 (omega arith) in
    let small : c.self.inside.last < 256 = begun_small _ _ c.self.invariant.0 c.self.invariant.1 in
    let joined = ap (λ x. x + c.args.v) (shift_fits c.self.inside.last n small c.requires.bits) in
    rw modulus (bits_after _ _ _ c.self.inside.pending _ n _ ((c.self.inside.pending + n) / 8) rest _ c.requires.fits joined (omega arith) (omega (arith, c.self.invariant.0, c.requires.bits)) c.to_be_bytes-whole.ensures c.in_ok-extend_from_slice.ensures.items ∙ ap (λ (l : List Bool). l ++ bits_of n c.args.v) c.self.view_is)
