use Rattle.std.proofs.Common.{◌+◌, ◌%◌, cond, nat_lt, get_or, map, ap, ◌∙◌, arith}
use Rattle.std.proofs.lemmas.Simd.{get_or-sel_l}
use Rattle.std.specs.List.{range_with_len}
use lib.Lanes.{top}
use Rattle.av1_ec.proofs.Moving.{comes_before}
use Rattle.av1_ec.proofs.lanes.chosen.Goals as goal

pub returns-clause-lanes : goal.returns-clause-lanes
returns-clause-lanes c i h =
    let at = c.args.at in
    let val = c.args.val in
    let before = map (λ j. top 15 (cond (nat_lt ((j + at) % 65536) val) 65535 0)) (range_with_len 0 8) in
    get_or-sel_l before c.args.a c.args.b i 0 h (omega (arith, c.requires.a)) (omega (arith, c.requires.b))
    ∙ ap (λ b. cond b (get_or c.args.a i 0) (get_or c.args.b i 0)) (comes_before at val i c.requires.at h)
