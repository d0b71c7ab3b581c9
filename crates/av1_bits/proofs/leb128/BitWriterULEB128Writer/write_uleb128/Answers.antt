use Rattle.std.proofs.Common.{◌≡◌, ◌+◌, ◌++◌, ◌∙◌, subst, List, ℕ, OnOk, ◌%◌, arith, length-set}
use Rattle.av1_model.specs.Bits.{bits_of_bytes}
use Rattle.av1_bits.proofs.Writing.{leb_step, leb_more, leb_last}
use Rattle.av1_bits.proofs.leb128.BitWriterULEB128Writer.write_uleb128.Goals as goal

pub loop-value-preserved : goal.loop-value-preserved
loop-value-preserved c =
    let so_far = c.loop-value.invariant in
    let on = leb_step c.loop-value.count c.loop-value.value so_far.few so_far.below c.loop-value-test.true in
    record {
      size = length-set c.loop-value.coded c.loop-value.count (128 + c.loop-value.value % 128) ∙ so_far.size;
      few = on.0;
      below = on.1;
      coded = leb_more c.loop-value.coded c.loop-value.count c.loop-value.value c.args.payload (omega (arith, on.0, so_far.size)) c.loop-value-test.true so_far.coded;
    }

pub returns-clause-ok : goal.returns-clause-ok
returns-clause-ok c =
    let so_far = c.loop-value.invariant in
    let coded = leb_last c.loop-value.coded c.loop-value.count c.loop-value.value c.args.payload (omega (arith, so_far.few, so_far.size)) c.loop-value-test.false so_far.coded in
    subst (λ (l : List ℕ). OnOk c.write_bytes.result (c.write_bytes.new.self ≡ c.args.self.now ++ bits_of_bytes l)) coded c.write_bytes.ensures.ok
