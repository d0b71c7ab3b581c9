use Rattle.std.proofs.Common.{◌≡◌, ◌+◌, ◌-◌, ◌%◌, ap, ◌∙◌, arith, length-set, set, drop, get_or, bit_and}
use Rattle.std.proofs.lemmas.Nat.{and_mask}
use Rattle.av1_ec.proofs.Ending.{carried}
use Rattle.av1_ec.proofs.precarry.sum_carries.Goals as goal

pub loop-offs-preserved : goal.loop-offs-preserved
loop-offs-preserved c =
    let j = c.loop-offs.offs - 1 in
    let x = c.loop-offs.c + get_or c.args.precarry.now j 0 in
    let i = c.loop-offs.invariant in
    let s = carried c.args.precarry.now c.loop-offs.out.items c.loop-offs.offs c.loop-offs.c c.loop-offs-test.true i.at i.len i.bytes i.carry in
    let m : bit_and x 255 ≡ x % 256 = and_mask x 8 in
    let e = c.requires j 0 (omega arith) in
    record {
      at = omega arith;
      len = length-set c.loop-offs.out.items j (bit_and x 255) ∙ i.len;
      small = omega (arith, e);
      bytes = ap (λ v. drop j (set c.loop-offs.out.items j v)) m ∙ s.0;
      carry = s.1;
    }
