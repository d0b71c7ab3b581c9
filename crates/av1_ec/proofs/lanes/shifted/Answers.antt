use Rattle.std.proofs.Common.{◌/◌, ◌^◌, get_or, ap, ◌∙◌, arith}
use Rattle.std.specs.Prelude.{replicate}
use Rattle.std.proofs.lemmas.Simd.{length-zip2, get_or-zip2, get_or-replicate}
use Rattle.av1_ec.proofs.lanes.shifted.Goals as goal

pub returns-clause-len : goal.returns-clause-len
returns-clause-len c = length-zip2 _ c.args.v (replicate 8 c.args.rate) c.requires.v ∙ c.requires.v

pub returns-clause-lanes : goal.returns-clause-lanes
returns-clause-lanes c i h =
    get_or-zip2 _ c.args.v (replicate 8 c.args.rate) i 0 0 0 (omega (arith, c.requires.v)) h
    ∙ ap (λ r. get_or c.args.v i 0 / 2 ^ r) (get_or-replicate 8 i c.args.rate 0 h)
