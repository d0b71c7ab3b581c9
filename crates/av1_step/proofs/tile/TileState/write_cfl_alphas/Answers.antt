use Rattle.std.proofs.Common.{◌≡◌, ◌≤ℤ◌, ℤ, pos, negsuc, List, None, refl, sym, ap, subst, arith, w16}
use Rattle.std.proofs.lemmas.Int.{to_z-of_z}
use Rattle.av1_geometry.specs.Rules.{first_broken}
use Rattle.av1_syntax.specs.Factors.{AreFactors}
use Rattle.av1_step.specs.declared.step.TileStep.TheVariants.{CflAlphas}
use Rattle.av1_step.specs.AngleSteps.{cfl_alphas_kind}
use Rattle.av1_step.specs.Effect.{Effect, changed_by_all}
use Rattle.av1_step.specs.Kept.{IsKept}
use Rattle.av1_step.specs.State.{tile_of}
use Rattle.av1_step.specs.Tile.{Tile, with_numbers}
use Rattle.av1_step.specs.Step.{rules}
use Rattle.av1_step.proofs.AngleSteps.{params_are, params_coded, factors_as, factor_fits, cfl_alphas_allowed, within_eight}
use Rattle.av1_step.proofs.Effects.{numbers_kept}
use Rattle.av1_step.proofs.FilterArms.{only_numbers, writes_same}
use Rattle.av1_step.proofs.OfCurrent.{current_there, current_allowed, current_effects, current_tree, some_block}
use Rattle.av1_step.proofs.Switches.{switched}
use Rattle.av1_step.proofs.tile.TileState.write_cfl_alphas.Goals as goal

allowed : (t : Tile) (f : ℤ × ℤ) → first_broken (rules (CflAlphas f) t) ≡ None → AreFactors f
allowed t f h =
    let b = some_block t.current (current_there CflAlphas (cfl_alphas_kind t) t.current f h) in
    cfl_alphas_allowed t b.0 f (current_allowed CflAlphas (cfl_alphas_kind t) t.current b.0 f b.1 h)

pub from_alpha-requires-clause-u_low : goal.from_alpha-requires-clause-u_low
from_alpha-requires-clause-u_low g c =
    let f = allowed (tile_of c.args.self.now) c.args.alphas c.requires.rules in
    subst (λ x. negsuc 254 ≤ℤ x) (sym (to_z-of_z w16 c.args.alphas.0 (factor_fits c.args.alphas.0 f.first))) (within_eight c.args.alphas.0 f.first).0

pub from_alpha-requires-clause-u_high : goal.from_alpha-requires-clause-u_high
from_alpha-requires-clause-u_high g c =
    let f = allowed (tile_of c.args.self.now) c.args.alphas c.requires.rules in
    subst (λ x. x ≤ℤ pos 255) (sym (to_z-of_z w16 c.args.alphas.0 (factor_fits c.args.alphas.0 f.first))) (within_eight c.args.alphas.0 f.first).1

pub from_alpha-requires-clause-v_low : goal.from_alpha-requires-clause-v_low
from_alpha-requires-clause-v_low g c =
    let f = allowed (tile_of c.args.self.now) c.args.alphas c.requires.rules in
    subst (λ x. negsuc 254 ≤ℤ x) (sym (to_z-of_z w16 c.args.alphas.1 (factor_fits c.args.alphas.1 f.second))) (within_eight c.args.alphas.1 f.second).0

pub from_alpha-requires-clause-v_high : goal.from_alpha-requires-clause-v_high
from_alpha-requires-clause-v_high g c =
    let f = allowed (tile_of c.args.self.now) c.args.alphas c.requires.rules in
    subst (λ x. x ≤ℤ pos 255) (sym (to_z-of_z w16 c.args.alphas.1 (factor_fits c.args.alphas.1 f.second))) (within_eight c.args.alphas.1 f.second).1

pub write_cfl_alphas-requires-clause-factors : goal.write_cfl_alphas-requires-clause-factors
write_cfl_alphas-requires-clause-factors g c =
    let f = allowed (tile_of c.args.self.now) c.args.alphas c.requires.rules in
    let e = params_are c.from_alpha.result c.args.alphas.0 c.args.alphas.1 _ _ (to_z-of_z w16 c.args.alphas.0 (factor_fits c.args.alphas.0 f.first)) (to_z-of_z w16 c.args.alphas.1 (factor_fits c.args.alphas.1 f.second))
    c.from_alpha.ensures.signs c.from_alpha.ensures.scales in
    params_coded c.from_alpha.result c.args.alphas.0 c.args.alphas.1 e f

pub invariant_of-self : goal.invariant_of-self
invariant_of-self g c =
    let t = tile_of c.args.self.now in
    let fc = c.write_cfl_alphas.new.self.fc in
    record { cdfs = c.write_cfl_alphas.ensures.moves.cdfs; kept = subst IsKept (sym (only_numbers t fc c.write_cfl_alphas.new.self.bc c.write_cfl_alphas.ensures.rest)) (numbers_kept fc t c.args.self.now.kept); switches = switched _ _ _ _ _ _ _ _ _ c.write_cfl_alphas.ensures.moves c.args.self.now.switches }

pub returns : goal.returns
returns g c =
    let t = tile_of c.args.self.now in
    let fc = c.write_cfl_alphas.new.self.fc in
    let u = with_numbers fc t in
    let f = c.args.alphas in
    let there = some_block t.current (current_there CflAlphas (cfl_alphas_kind t) t.current f c.requires.rules) in
    let b = there.0 in
    let current = there.1 in
    let are = allowed t f c.requires.rules in
    let e = params_are c.from_alpha.result c.args.alphas.0 c.args.alphas.1 _ _ (to_z-of_z w16 c.args.alphas.0 (factor_fits c.args.alphas.0 are.first)) (to_z-of_z w16 c.args.alphas.1 (factor_fits c.args.alphas.1 are.second))
    c.from_alpha.ensures.signs c.from_alpha.ensures.scales in
    writes_same g.W.Known _ (CflAlphas f) (cfl_alphas_kind t b) f _ _ _ _ 39 (current_tree CflAlphas (cfl_alphas_kind t) t.current b current) refl
    (current_allowed CflAlphas (cfl_alphas_kind t) t.current b f current c.requires.rules) (factors_as _ c.from_alpha.result f _ _ e c.write_cfl_alphas.ensures.wrote)
    (only_numbers t fc c.write_cfl_alphas.new.self.bc c.write_cfl_alphas.ensures.rest)
    (ap (λ (es : List Effect). changed_by_all es u) (current_effects CflAlphas (cfl_alphas_kind u) u.current b f current)) (omega arith) c.write_cfl_alphas.ensures.moves
