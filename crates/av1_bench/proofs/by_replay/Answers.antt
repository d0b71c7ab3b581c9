use Rattle.std.proofs.Common.{ap}
use Rattle.av1_model.specs.Position.{Position}
use Rattle.av1_bench.proofs.by_replay.Goals as goal

pub replay_into-requires : goal.replay_into-requires
replay_into-requires c =
    c.law_of_recorders.ensures.fits _ (ap (λ (p : Position). p.range) c.new-dest.ensures) (ap (λ (p : Position). p.shift) c.new-dest.ensures)
