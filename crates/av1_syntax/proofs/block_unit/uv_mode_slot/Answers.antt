use Rattle.std.proofs.Common.{◌≡◌, [], ◌∷◌, ◌∙◌, Bool, true, false, ap, sym, codes, if◌then◌else◌, arith}
use Rattle.av1_cdf.specs.Layout.{Slot, slot}
use Rattle.av1_geometry.specs.PredictionMode.{prediction_mode_number}
use Rattle.av1_syntax.specs.IntraModes.{cfl_allowed}
use Rattle.av1_syntax.proofs.Slots.{uv_mode_has, uv_mode_cfl_has}
use Rattle.av1_syntax.proofs.Values.{allowed_is, not_allowed}
use Rattle.av1_syntax.proofs.block_unit.uv_mode_slot.Goals as goal

pub returns-then-cfl_allowed-clause-is : goal.returns-then-cfl_allowed-clause-is
returns-then-cfl_allowed-clause-is c =
    let b : cfl_allowed c.args.bs ≡ true = allowed_is c.args.bs (c.cfl_allowed.ensures.0 c.if-cfl_allowed.true) in
    let name = λ (b : Bool). if b then codes "uv_mode_cfl_cdf" else codes "uv_mode_cdf" in
    c.uv_mode_cfl_cdf.ensures ∙ ap (λ k. slot (codes "uv_mode_cfl_cdf") (k ∷ [])) c.number.ensures.value ∙ sym (ap (λ b. slot (name b) (prediction_mode_number c.args.y_mode ∷ [])) b)

pub returns-then-cfl_allowed-clause-len : goal.returns-then-cfl_allowed-clause-len
returns-then-cfl_allowed-clause-len c =
    let b : cfl_allowed c.args.bs ≡ true = allowed_is c.args.bs (c.cfl_allowed.ensures.0 c.if-cfl_allowed.true) in
    ap (λ (s : Slot). s.len) c.uv_mode_cfl_cdf.ensures ∙ (uv_mode_cfl_has c.number.result (omega (arith, c.number.ensures.value, c.requires))).1 ∙ sym (ap (λ (b : Bool). if b then 14 else 13) b)

pub returns-else-cfl_allowed-clause-is : goal.returns-else-cfl_allowed-clause-is
returns-else-cfl_allowed-clause-is c =
    let b : cfl_allowed c.args.bs ≡ false = not_allowed c.args.bs (λ h. let t = c.cfl_allowed.ensures.1 h in let f = c.if-cfl_allowed.false in cc) in
    let name = λ (b : Bool). if b then codes "uv_mode_cfl_cdf" else codes "uv_mode_cdf" in
    c.uv_mode_cdf.ensures ∙ ap (λ k. slot (codes "uv_mode_cdf") (k ∷ [])) c.number-else-cfl_allowed.ensures.value ∙ sym (ap (λ b. slot (name b) (prediction_mode_number c.args.y_mode ∷ [])) b)

pub returns-else-cfl_allowed-clause-len : goal.returns-else-cfl_allowed-clause-len
returns-else-cfl_allowed-clause-len c =
    let b : cfl_allowed c.args.bs ≡ false = not_allowed c.args.bs (λ h. let t = c.cfl_allowed.ensures.1 h in let f = c.if-cfl_allowed.false in cc) in
    ap (λ (s : Slot). s.len) c.uv_mode_cdf.ensures ∙ (uv_mode_has c.number-else-cfl_allowed.result (omega (arith, c.number-else-cfl_allowed.ensures.value, c.requires))).1 ∙ sym (ap (λ (b : Bool). if b then 14 else 13) b)
