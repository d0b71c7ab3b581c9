use mir.Val.{SFits}
use Rattle.std.proofs.Common.{◌≡◌, ℤ, [], ◌∷◌, Bool, true, false, Option, Some, refl, sym, ap, ◌∙◌, w8, rules}
use Rattle.std.proofs.lemmas.Int.{to_z-of_z}
use Rattle.av1_geometry.specs.Rules.{first_broken, rule}
use Rattle.av1_step.specs.declared.step.TileStep.TheVariants.{AngleDelta}
use Rattle.av1_step.specs.AngleSteps.{angle_delta_kind, has_angle, is_angle}
use Rattle.av1_step.specs.IntraSteps.{is_intra}
use Rattle.av1_step.specs.Kind.{of_current, rules_of}
use Rattle.av1_step.specs.State.{tile_of}
use Rattle.av1_step.specs.Tile.{Tile, CurrentBlock}
use Rattle.av1_step.proofs.tile.TileState.check_angle_delta.Goals as goal
use Rattle.av1_step.proofs.tile.TileState.check_angle_delta.Goals.{else-has_angle-via-then-has_angle+else-is_angle, else-has_angle-via-else-has_angle}

-- what the rules come to where there is a current block, and it is an intra block
by_rules : (t : Tile) (o : Option CurrentBlock) (b : CurrentBlock) (chroma : Bool) (a : ℤ) (has fit : Bool) → o ≡ Some b → is_intra t b ≡ true → has_angle chroma t b ≡ has → is_angle a ≡ fit →
    first_broken (rules_of (of_current o (AngleDelta chroma) (angle_delta_kind chroma t)) a) ≡ first_broken (rule 64 true ∷ rule 66 true ∷ rule 72 has ∷ rule 72 fit ∷ [])
by_rules t o b chroma a has fit e intra asked is =
    ap (λ (p : Option CurrentBlock). first_broken (rules_of (of_current p (AngleDelta chroma) (angle_delta_kind chroma t)) a)) e
    ∙ ap (λ x. first_broken (rule 64 true ∷ rule 66 x ∷ rule 72 (has_angle chroma t b) ∷ rule 72 (is_angle a) ∷ [])) intra
    ∙ ap (λ x. first_broken (rule 64 true ∷ rule 66 true ∷ rule 72 x ∷ rule 72 (is_angle a) ∷ [])) asked
    ∙ ap (λ x. first_broken (rule 64 true ∷ rule 66 true ∷ rule 72 has ∷ rule 72 x ∷ [])) is

pub returns-else-has_angle : goal.returns-else-has_angle
returns-else-has_angle c =
    let a = c.args in
    let t = tile_of a.self.now in
    let b = c.in-Some.b in
    let fits : SFits w8 a.angle = search rules in
    let intra : is_intra t b ≡ true = sym c.is_intra.ensures ∙ c.if-not-is_intra.false in
    elim c.else-has_angle.branch [
      | else-has_angle-via-then-has_angle+else-is_angle w ↦ sym (by_rules t t.current b a.chroma a.angle true false c.in-Some.is intra (sym c.has_angle.ensures ∙ w.if-has_angle.true) (ap is_angle (sym (to_z-of_z w8 a.angle fits)) ∙ sym w.is_angle.ensures ∙ w.if-is_angle.false))
      | else-has_angle-via-else-has_angle w ↦ sym (by_rules t t.current b a.chroma a.angle false (is_angle a.angle) c.in-Some.is intra (sym c.has_angle.ensures ∙ w.if-has_angle.false) refl)
    ]
