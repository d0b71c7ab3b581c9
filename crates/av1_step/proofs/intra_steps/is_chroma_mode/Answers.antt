use Rattle.std.proofs.Common.{◌≡◌, true, false, nat_lt, ap, sym, ◌∙◌, if◌then◌else◌}
use Rattle.av1_geometry.specs.PredictionMode.{prediction_mode_number}
use Rattle.av1_syntax.specs.IntraModes.{cfl_allowed}
use Rattle.av1_syntax.proofs.Values.{allowed_is, not_allowed}
use Rattle.av1_step.proofs.intra_steps.is_chroma_mode.Goals as goal

pub returns-then-cfl_allowed : goal.returns-then-cfl_allowed
returns-then-cfl_allowed c =
    let b : cfl_allowed c.args.size ≡ true = allowed_is c.args.size (c.cfl_allowed.ensures.0 c.if-cfl_allowed.true) in
    ap (λ n. nat_lt n 14) c.number.ensures.value ∙ sym (ap (λ b. nat_lt (prediction_mode_number c.args.mode) (if b then 14 else 13)) b)

pub returns-else-cfl_allowed : goal.returns-else-cfl_allowed
returns-else-cfl_allowed c =
    let b : cfl_allowed c.args.size ≡ false = not_allowed c.args.size (λ h. let t = c.cfl_allowed.ensures.1 h in let f = c.if-cfl_allowed.false in cc) in
    ap (λ n. nat_lt n 13) c.number-else-cfl_allowed.ensures.value ∙ sym (ap (λ b. nat_lt (prediction_mode_number c.args.mode) (if b then 14 else 13)) b)
