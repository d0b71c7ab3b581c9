use Rattle.std.proofs.Common.{◌≡◌, ◌-◌, [], ◌∷◌, ◌∙◌, ap, codes, arith, w8}
use Rattle.std.proofs.lemmas.Int.{to_z-of_z}
use Rattle.av1_cdf.specs.Layout.{Slot, slot}
use Rattle.av1_geometry.specs.PredictionMode.{prediction_mode_number}
use Rattle.av1_syntax.specs.IntraModes.{angle_of, angle_number}
use Rattle.av1_syntax.proofs.Slots.{angle_delta_has}
use Rattle.av1_syntax.proofs.Values.{angle_told, angle_below}
use Rattle.av1_syntax.proofs.Writing.{wrote_symbol}
use Rattle.av1_syntax.proofs.context_writer.ContextWriter.write_angle_delta.Goals as goal

pub symbol-requires-clause-s : goal.symbol-requires-clause-s
symbol-requires-clause-s g c =
    let k = prediction_mode_number c.args.mode - 1 in
    let e : c.number.result - c.number-2.result ≡ k = omega (arith, c.number.ensures.value, c.number-2.ensures.value) in
    let is = c.angle_delta_cdf-cdf.ensures ∙ ap (λ k. slot (codes "angle_delta_cdf") (k ∷ [])) e in
    let long = ap (λ (s : Slot). s.len) is ∙ (angle_delta_has k (omega (arith, c.requires.last, c.requires.directional))).1 in
    let few = angle_below c.args.angle c.requires.low c.requires.high in
    let s : c.angle_symbol.result ≡ angle_number c.args.angle = rw (to_z-of_z w8 c.args.angle c.ranges.angle) at c.angle_symbol.ensures in
    omega (arith, long, few, s)

pub returns-clause-wrote : goal.returns-clause-wrote
returns-clause-wrote g c =
    let e : c.number.result - c.number-2.result ≡ prediction_mode_number c.args.mode - 1 = omega (arith, c.number.ensures.value, c.number-2.ensures.value) in
    let is = c.angle_delta_cdf-cdf.ensures ∙ ap (λ k. slot (codes "angle_delta_cdf") (k ∷ [])) e in
    let s : c.angle_symbol.result ≡ angle_number c.args.angle = rw (to_z-of_z w8 c.args.angle c.ranges.angle) at c.angle_symbol.ensures in
    wrote_symbol c.symbol.result _ _ angle_of angle_number c.angle_symbol.result c.args.angle _ _ is s (angle_told c.args.angle c.requires.low c.requires.high) c.symbol.ensures.ok c.symbol.ensures.err
