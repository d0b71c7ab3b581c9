use Rattle.std.proofs.Common.{◌≡◌, ◌*◌, ◌/◌, length, min, ap, ◌∙◌, sym, arith}
use Rattle.std.specs.Prelude.{unsigned_abs}
use Rattle.std.proofs.lemmas.List.{length-map}
use Rattle.av1_coef.specs.Padded.{sizes_of, column_after, level_after}
use Rattle.av1_coef.proofs.LevelSteps.{columns_more, columns_all, padded_levels}
use Rattle.av1_coef.proofs.levels.txb_init_levels.Goals as goal

pub loop-c-preserved : goal.loop-c-preserved
loop-c-preserved g c =
    let sizes = sizes_of g.T.Coefficient.value c.args.coeffs.now in
    columns_more c.args.height c.args.levels_stride c.requires.stride sizes c.args.levels.now c.loop-c.levels _ c.loop-c.c c.loop-c.invariant
    (λ p. c.init_column.ensures p ∙ ap (λ r. column_after sizes c.loop-c.levels (c.loop-c.c * c.args.height) (c.loop-c.c * c.args.levels_stride) r p) c.min-rows.ensures)

pub returns-clause-padded : goal.returns-clause-padded
returns-clause-padded g c = λ w room.
    let value = g.T.Coefficient.value in
    let sizes = sizes_of value c.args.coeffs.now in
    let old = c.args.levels.now in
    let long : length sizes ≡ length c.args.coeffs.now = length-map c.args.coeffs.now (λ x. unsigned_abs (value x)) in
    let end : c.loop-c.c ≡ min (length sizes / c.args.height) (length old / c.args.levels_stride) =
    (let z : c.loop-c.c ≡ c.min-columns.result = omega (arith, c.loop-c-test.false, c.loop-c.auto.c-end) in z)
    ∙ c.min-columns.ensures ∙ ap (λ n. min (n / c.args.height) (length old / c.args.levels_stride)) (sym long) in
    padded_levels w c.args.height sizes old c.loop-c.levels c.requires.height (room.coefficients ∙ sym long) room.places room.zeros
    (λ p l. c.loop-c.invariant p ∙ columns_all c.args.height c.args.levels_stride sizes old c.loop-c.c p end ∙ ap (λ s. level_after c.args.height sizes s old p) room.columns)
