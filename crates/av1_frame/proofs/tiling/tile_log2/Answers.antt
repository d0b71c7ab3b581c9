use Rattle.std.proofs.Common.{arith, ◌-◌, ◌+◌, inl, inr}
use Rattle.std.proofs.lemmas.Bool.{cases_lt}
use Rattle.av1_frame.proofs.Doubling.{doublings_on, power_on, least_on, few_doublings}
use Rattle.av1_frame.proofs.tiling.tile_log2.Goals as goal

pub loop-doubled-preserved : goal.loop-doubled-preserved
loop-doubled-preserved c =
    let k = c.loop-doubled.k in
    let left = c.args.target - k in
    let on = doublings_on left (c.args.target - (k + 1)) c.loop-doubled.doubled c.args.target c.loop-doubled-test.true (omega arith) in
    record {
      whole = omega (arith, on, c.loop-doubled.invariant.whole);
      power = power_on _ _ k c.loop-doubled.invariant.power;
      below = omega arith;
      least = λ _. least_on _ _ k _ c.loop-doubled.invariant.power c.loop-doubled-test.true;
    }

pub returns-clause-bound : goal.returns-clause-bound
returns-clause-bound c =
    let k = c.loop-doubled.k in
    elim (cases_lt k 1) [
      | inl none ↦ omega arith
      | inr some ↦ few_doublings c.args.size k c.args.target c.requires.size c.requires.target (c.loop-doubled.invariant.least some)
    ]
