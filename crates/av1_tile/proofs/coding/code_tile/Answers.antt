use Rattle.std.proofs.Common.{ℕ, ◌+◌, ◌/◌, List, ◌∙◌, ap, arith, length}
use Rattle.av1_model.specs.Interval.{final_bytes}
use Rattle.av1_model.specs.Position.{Position, interval_of}
use Rattle.av1_model.proofs.Costs.{log_below}
use Rattle.av1_model.proofs.Final.{length-final_bytes}
use Rattle.av1_step.specs.Given.{given_of}
use Rattle.av1_tile.specs.TileBytes.{ending, script_of}
use Rattle.av1_tile.proofs.coding.code_tile.Goals as goal

pub returns-clause-bytes : goal.returns-clause-bytes
returns-clause-bytes c = c.in_ok-done.ensures.bytes ∙ ap (λ (q : Position). final_bytes (interval_of q)) c.in_ok-encoder.ensures.coded

pub returns-clause-bits : goal.returns-clause-bits
returns-clause-bits c = c.tell-bits.ensures ∙ ap (λ (q : Position). q.shift + 1 + q.fake / 256) c.in_ok-encoder.ensures.coded ∙ omega arith

pub returns-clause-short : goal.returns-clause-short
returns-clause-short c =
    let end = ending (given_of c.args.unit.now) c.args.tile (script_of c.args.unit.now c.args.tile) in
    let bytes = c.in_ok-done.ensures.bytes ∙ ap (λ (q : Position). final_bytes (interval_of q)) c.in_ok-encoder.ensures.coded in
    omega (arith, ap (λ (l : List ℕ). length l) bytes, length-final_bytes end, c.in_ok-encoder.ensures.few, log_below 3 end.range)
