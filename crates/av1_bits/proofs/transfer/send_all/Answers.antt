use Rattle.std.proofs.Common.{◌∙◌, arith}
use Rattle.std.proofs.lemmas.List.{take_rest}
use Rattle.av1_bits.proofs.Moving.{sent_more}
use Rattle.av1_bits.proofs.transfer.send_all.Goals as goal

pub loop-done-preserved : goal.loop-done-preserved
loop-done-preserved g c = record {
  within = omega (arith, c.in_ok-done.ensures.taken);
  held = sent_more _ _ _ _ _ _ c.loop-done.invariant.held (rw (take_rest c.args.bytes.now c.loop-done.done) at c.in_ok-done.ensures.held);
  count = c.in_ok-done.ensures.count ∙ c.loop-done.invariant.count;
}
