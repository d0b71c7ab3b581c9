use Rattle.std.proofs.Common.{refl}
use Rattle.av1_bits.proofs.Outcomes.{if_ok, always_on_err, none-some}
use Rattle.av1_bits.proofs.standard.StdSourceSource.TheImpl.Goals as goal

pub read-tells : goal.read-tells
read-tells g c = record {
  fits = c.ensures.fits;
  moved = if_ok c.result _ (λ n bytes is. absurd (none-some bytes is));
  end = if_ok c.result _ (λ n bytes is. absurd (none-some bytes is));
  untold = λ _. refl;
  none_taken = always_on_err c.result _ refl;
  count = c.ensures.count;
  fault = c.ensures.fault;
}
