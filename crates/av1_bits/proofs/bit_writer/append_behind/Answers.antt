use Rattle.std.proofs.Common.{◌≡◌, ◌+◌, ◌*◌, ◌/◌, ◌%◌, ◌^◌, ◌<◌, ◌++◌, ◌∷◌, [], length, ◌∙◌, ap, List, Bool, true, not, arith, pow_pos, is_ok, get_or}
use Rattle.av1_model.specs.Bits.{bits_of}
use Rattle.av1_bits.proofs.Writing.{byte_after, bits_more, begun_small, one_fits}
use Rattle.av1_bits.proofs.bit_writer.append_behind.Goals as goal

pub loop-byte-preserved : goal.loop-byte-preserved
loop-byte-preserved c =
    let p = c.args.pending in
    let i = c.loop-byte.byte-index in
    let so_far = c.loop-byte.invariant in
    let modulus : 1 * 2 ^ p % 2 ^ 16 ≡ 2 ^ p = one_fits p 16 (omega (arith, c.requires.begun)) in
    let joined = c.from.result * 256 % 65536 + c.from-in-loop-byte.result in
    let fine : is_ok c.push.result ≡ true = c.is_err.ensures.negation ∙ ap not c.if-is_err.false in
    let pushed : c.push.new.self.items ≡ c.loop-byte.bytes.items ++ joined / 2 ^ p ∷ [] = rw fine at c.push.ensures.items in
    let byte : c.from-in-loop-byte.result ≡ get_or c.args.more.now i 0 = c.from-in-loop-byte.ensures in
    let was : c.from.result ≡ c.loop-byte.last = c.from.ensures in
    let small : c.loop-byte.last < 256 = begun_small p _ c.requires.begun so_far.below in
    let shifted : joined ≡ c.loop-byte.last * 256 + get_or c.args.more.now i 0 = omega (arith, was, byte, small) in
    let within : i < length c.args.more.now = c.loop-byte-test.true in
    let positive : 0 < 2 ^ p = pow_pos p in
    record {
      below = rw modulus (omega (arith, positive));
      room = omega (arith, so_far.room, c.push.ensures.len, c.push.ensures.capacity);
      bits = rw modulus (byte_after _ _ p _ _ joined (c.type_inv.more i).fits shifted pushed ∙ ap (λ (l : List Bool). l ++ bits_of 8 (get_or c.args.more.now i 0)) so_far.bits ∙ bits_more _ _ i within);
    }
