use Rattle.std.proofs.Common.{◌≡◌, ℤ, List, length, take, slice_index_or, pos, subst, ◌∙◌, arith}
use Rattle.std.proofs.lemmas.List.{take_all}
use Rattle.av1_coef.proofs.ScanSteps.{once_below}
use Rattle.av1_step.proofs.CoeffPlaces.{ArePlaced, level_back, placed_more, placed_none}
use Rattle.av1_step.proofs.coeff_steps.lay_out.Goals as goal

pub bounds-coeffs-from : goal.bounds-coeffs-from
bounds-coeffs-from c = let below = once_below (length c.args.coeffs.now) c.args.scan.now c.loop-i.i c.requires.once (omega (arith, c.loop-i-test.true, c.requires.few)) in omega (arith, c.from.ensures, below)

pub loop-i-init : goal.loop-i-init
loop-i-init c = placed_none c.args.coeffs.now c.args.levels.now c.args.scan.now c.requires.zeros

pub loop-i-preserved : goal.loop-i-preserved
loop-i-preserved c =
    let level = slice_index_or c.args.levels.now c.loop-i.i (pos 0) in
    placed_more (length c.args.coeffs.now) c.args.levels.now c.args.scan.now c.loop-i.i c.from.result _ c.loop-i.coeffs c.requires.once c.loop-i-test.true (omega (arith, c.loop-i-test.true, c.requires.few)) c.from.ensures
    (level_back level (c.requires.small c.loop-i.i c.loop-i-test.true)) c.loop-i.invariant

pub returns : goal.returns
returns c =
    let all : c.loop-i.i ≡ length c.args.levels.now = omega (arith, c.loop-i-test.false, c.loop-i.auto.i-end) in
    let placed = subst (λ n. ArePlaced (length c.args.coeffs.now) c.args.levels.now c.args.scan.now n c.loop-i.coeffs) all c.loop-i.invariant in
    record { long = placed.long; levels_are = placed.levels_are ∙ take_whole c.args.levels.now; none = placed.none }
  where
    take_whole : (xs : List ℤ) → take (length xs) xs ≡ xs
    take_whole xs = take_all (length xs) xs (omega arith)
