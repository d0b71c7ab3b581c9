use Rattle.std.proofs.Common.{◌+◌, ◌%◌, ap, lit<}
use Rattle.std.proofs.Math.Nat.{mod-lt}
use Rattle.av1_program.proofs.Sums.{weighted_so_far}
use Rattle.av1_program.proofs.text.weighted.Goals as goal

pub loop-place-preserved : goal.loop-place-preserved
loop-place-preserved c =
    let sum = c.loop-place.sum in (
      weighted_so_far c.args.bytes.now c.loop-place.place _ sum _ c.loop-place-test.true c.loop-place.invariant.0 (ap (λ n. (sum + n) % 65536) c.weight.ensures.value),
      mod-lt (sum + c.weight.result) (lit< tt),
    )
