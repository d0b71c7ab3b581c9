use Rattle.std.proofs.Common.{◌-◌, ap, arith, ◌∙◌}
use Rattle.av1_cdf.specs.Layout.{Slot}
use Rattle.av1_geometry.specs.Cfl.{sign_at, scale_at}
use Rattle.av1_syntax.proofs.Factors.{factor_wrote, factor_none}
use Rattle.av1_syntax.proofs.Slots.{cfl_alpha_has}
use Rattle.av1_syntax.proofs.context_writer.ContextWriter.write_factor.Goals as goal

pub symbol-requires-clause-s : goal.symbol-requires-clause-s
symbol-requires-clause-s g c =
    let coded = c.is_coded.ensures.0 c.if-is_coded.true in
    let sized = c.requires.factors.scales c.args.uv c.requires.plane coded in
    let long = ap (λ (s : Slot). s.len) c.cfl_alpha_cdf-cdf.ensures ∙ (cfl_alpha_has c.context.result c.context.ensures.bound).1 in
    omega (arith, long, sized, c.index.ensures)

pub returns-then-is_coded-clause-wrote : goal.returns-then-is_coded-clause-wrote
returns-then-is_coded-clause-wrote g c =
    let cfl = c.args.cfl in
    let uv = c.args.uv in
    factor_wrote c.symbol.result (sign_at cfl uv) (sign_at cfl (1 - uv)) (scale_at cfl uv) c.context.result c.index.result _ _ _ (c.is_coded.ensures.0 c.if-is_coded.true)
    (c.requires.factors.scales uv c.requires.plane) c.context.ensures.value c.index.ensures c.cfl_alpha_cdf-cdf.ensures c.symbol.ensures.ok c.symbol.ensures.err

pub returns-clause-wrote : goal.returns-clause-wrote
returns-clause-wrote g c =
    factor_none (sign_at c.args.cfl c.args.uv) (sign_at c.args.cfl (1 - c.args.uv)) (scale_at c.args.cfl c.args.uv) _ (λ h. let t = c.is_coded.ensures.1 h in let f = c.if-is_coded.false in cc)
