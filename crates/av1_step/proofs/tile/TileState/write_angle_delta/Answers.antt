use Rattle.std.proofs.Common.{◌≡◌, ◌≤ℤ◌, pos, negsuc, List, Option, Some, None, true, is_some, refl, sym, ap, subst, ◌∙◌, arith, rules, w8}
use Rattle.std.proofs.lemmas.Int.{to_z-of_z}
use Rattle.av1_geometry.specs.declared.prediction_mode.PredictionMode.{PredictionMode}
use Rattle.av1_step.specs.declared.step.TileStep.TheVariants.{AngleDelta}
use Rattle.av1_step.specs.AngleSteps.{angle_mode, angle_delta_kind}
use Rattle.av1_step.specs.Effect.{Effect, changed_by_all}
use Rattle.av1_step.specs.Kept.{IsKept}
use Rattle.av1_step.specs.State.{tile_of}
use Rattle.av1_step.specs.Tile.{with_numbers}
use Rattle.av1_step.proofs.AngleSteps.{angle_as, angle_delta_allowed}
use Rattle.av1_step.proofs.Effects.{numbers_kept}
use Rattle.av1_step.proofs.FilterArms.{only_numbers, writes_same}
use Rattle.av1_step.proofs.OfCurrent.{current_there, current_allowed, current_effects, current_tree}
use Rattle.av1_step.proofs.Switches.{switched}
use Rattle.av1_step.proofs.tile.TileState.write_angle_delta.Goals as goal

some_is : (o : Option PredictionMode) → (o ≡ None → ⊥) → is_some o ≡ true
some_is None h = absurd (h refl)
some_is (Some m) h = refl

pub unwrap-b-requires : goal.unwrap-b-requires
unwrap-b-requires g c = let t = tile_of c.args.self.now in current_there (AngleDelta c.args.chroma) (angle_delta_kind c.args.chroma t) t.current c.args.angle c.requires.rules

pub angle_mode-requires : goal.angle_mode-requires
angle_mode-requires g c = search rules

pub unwrap-mode-requires : goal.unwrap-mode-requires
unwrap-mode-requires g c =
    let t = tile_of c.args.self.now in
    let b = c.unwrap-b.result in
    let current : t.current ≡ Some b = search rules in
    let allowed = angle_delta_allowed c.args.chroma t b c.args.angle (current_allowed (AngleDelta c.args.chroma) (angle_delta_kind c.args.chroma t) t.current b c.args.angle current c.requires.rules) in
    ap is_some c.angle_mode.ensures ∙ some_is (angle_mode c.args.chroma t b) allowed.none

pub write_angle_delta-requires-clause-low : goal.write_angle_delta-requires-clause-low
write_angle_delta-requires-clause-low g c =
    let t = tile_of c.args.self.now in
    let b = c.unwrap-b.result in
    let current : t.current ≡ Some b = search rules in
    let allowed = angle_delta_allowed c.args.chroma t b c.args.angle (current_allowed (AngleDelta c.args.chroma) (angle_delta_kind c.args.chroma t) t.current b c.args.angle current c.requires.rules) in
    subst (λ x. negsuc 2 ≤ℤ x) (sym (to_z-of_z w8 c.args.angle c.ranges.angle)) allowed.angle.0

pub write_angle_delta-requires-clause-high : goal.write_angle_delta-requires-clause-high
write_angle_delta-requires-clause-high g c =
    let t = tile_of c.args.self.now in
    let b = c.unwrap-b.result in
    let current : t.current ≡ Some b = search rules in
    let allowed = angle_delta_allowed c.args.chroma t b c.args.angle (current_allowed (AngleDelta c.args.chroma) (angle_delta_kind c.args.chroma t) t.current b c.args.angle current c.requires.rules) in
    subst (λ x. x ≤ℤ pos 3) (sym (to_z-of_z w8 c.args.angle c.ranges.angle)) allowed.angle.1

pub write_angle_delta-requires-clause-directional : goal.write_angle_delta-requires-clause-directional
write_angle_delta-requires-clause-directional g c =
    let t = tile_of c.args.self.now in
    let b = c.unwrap-b.result in
    let current : t.current ≡ Some b = search rules in
    let allowed = angle_delta_allowed c.args.chroma t b c.args.angle (current_allowed (AngleDelta c.args.chroma) (angle_delta_kind c.args.chroma t) t.current b c.args.angle current c.requires.rules) in
    let unwrapped : c.angle_mode.result ≡ Some c.unwrap-mode.result = search rules in
    (allowed.some c.unwrap-mode.result (sym c.angle_mode.ensures ∙ unwrapped)).0

pub write_angle_delta-requires-clause-last : goal.write_angle_delta-requires-clause-last
write_angle_delta-requires-clause-last g c =
    let t = tile_of c.args.self.now in
    let b = c.unwrap-b.result in
    let current : t.current ≡ Some b = search rules in
    let allowed = angle_delta_allowed c.args.chroma t b c.args.angle (current_allowed (AngleDelta c.args.chroma) (angle_delta_kind c.args.chroma t) t.current b c.args.angle current c.requires.rules) in
    let unwrapped : c.angle_mode.result ≡ Some c.unwrap-mode.result = search rules in
    (allowed.some c.unwrap-mode.result (sym c.angle_mode.ensures ∙ unwrapped)).1

pub invariant_of-self : goal.invariant_of-self
invariant_of-self g c =
    let t = tile_of c.args.self.now in
    let fc = c.write_angle_delta.new.self.fc in
    record { cdfs = c.write_angle_delta.ensures.moves.cdfs; kept = subst IsKept (sym (only_numbers t fc c.write_angle_delta.new.self.bc c.write_angle_delta.ensures.rest)) (numbers_kept fc t c.args.self.now.kept); switches = switched _ _ _ _ _ _ _ _ _ c.write_angle_delta.ensures.moves c.args.self.now.switches }

pub returns : goal.returns
returns g c =
    let t = tile_of c.args.self.now in
    let fc = c.write_angle_delta.new.self.fc in
    let u = with_numbers fc t in
    let b = c.unwrap-b.result in
    let chroma = c.args.chroma in
    let a = c.args.angle in
    let current : t.current ≡ Some b = search rules in
    let unwrapped : c.angle_mode.result ≡ Some c.unwrap-mode.result = search rules in
    let there = sym c.angle_mode.ensures ∙ unwrapped in
    writes_same g.W.Known _ (AngleDelta chroma a) (angle_delta_kind chroma t b) a _ _ _ _ 13 (current_tree (AngleDelta chroma) (angle_delta_kind chroma t) t.current b current) refl
    (current_allowed (AngleDelta chroma) (angle_delta_kind chroma t) t.current b a current c.requires.rules) (angle_as _ (angle_mode chroma t b) c.unwrap-mode.result _ a _ _ there (to_z-of_z w8 a c.ranges.angle) c.write_angle_delta.ensures.wrote)
    (only_numbers t fc c.write_angle_delta.new.self.bc c.write_angle_delta.ensures.rest)
    (ap (λ (es : List Effect). changed_by_all es u) (current_effects (AngleDelta chroma) (angle_delta_kind chroma u) u.current b a current)) (omega arith) c.write_angle_delta.ensures.moves
