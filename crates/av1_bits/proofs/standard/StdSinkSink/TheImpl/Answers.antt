use Rattle.std.proofs.Common.{refl}
use Rattle.av1_bits.proofs.Outcomes.{if_ok, always_on_err}
use Rattle.av1_bits.proofs.standard.StdSinkSink.TheImpl.Goals as goal

pub send-tells : goal.send-tells
send-tells g c = record {
  taken = c.ensures.taken;
  some = c.ensures.some;
  held = if_ok c.result _ (λ n. refl);
  none_taken = always_on_err c.result _ refl;
  count = c.ensures.count;
  fault = c.ensures.fault;
  empty = c.ensures.empty;
}
