use Rattle.std.proofs.Common.{ℤ, pos, ap, w8}
use Rattle.std.proofs.lemmas.Int.{to_z-of_z}
use Rattle.av1_step.specs.declared.unit.Item.TheVariants.{Step}
use Rattle.av1_step.specs.declared.step.TileStep.TheVariants.{AngleDelta}
use Rattle.av1_input.specs.Item.{angle_delta, angle_delta_rows, nothing}
use Rattle.av1_input.specs.Rows.{closed}
use Rattle.av1_input.proofs.Rows.{computed, here, rest, ◌▸◌}
use Rattle.av1_input.proofs.item.angle_delta.Goals as goal

pub returns : goal.returns
returns c =
    let same = to_z-of_z w8 c.required-2.result (record { sfits = c.required-2.type_inv }) in
    let at_end = here (closed angle_delta) angle_delta_rows (nothing (pos 0)) c.args.members ▸ c.required.ensures ▸ c.required-2.ensures in
    rest c.finish.result at_end (computed (closed (λ x. x)) (ap (λ (a : ℤ). Step (AngleDelta c.required.result a)) same) c.finish.ensures)
