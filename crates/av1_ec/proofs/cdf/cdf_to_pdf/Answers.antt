use Rattle.std.proofs.Common.{◌≡◌, ◌≢◌, ◌+◌, ◌-◌, ◌/◌, ◌<◌, ◌∙◌, ap, arith, refl, nat_eq, false, length, length-set, get_or, get_or-set_other, get_or-set_same, below_more}
use Rattle.std.proofs.lemmas.Bool.Decides.{nat_tests}
use Rattle.av1_ec.proofs.cdf.cdf_to_pdf.Goals as goal

pub loop-i-preserved : goal.loop-i-preserved
loop-i-preserved g c =
    let i = c.loop-i.i in
    let test : nat_eq (i + 1) 0 ≡ false = grind (arith, nat_tests) in
    let back : i + 1 - 1 ≡ i = omega arith in
    let within : i < length c.loop-i.pdf = omega (arith, c.loop-i.invariant.size, c.loop-i-test.true) in
    record {
      size = length-set _ _ _ ∙ c.loop-i.invariant.size;
      before = rw (test, back) refl;
      written = below_more _ _
          (λ k h. let ne : k ≢ i = omega arith in rw get_or-set_other (c.loop-i.invariant.written k h))
          (rw get_or-set_same (ap (λ z. z - get_or c.args.cdf.now i 0 / 64) c.loop-i.invariant.before));
    }
