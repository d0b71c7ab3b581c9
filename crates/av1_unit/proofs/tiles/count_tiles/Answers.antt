use Rattle.std.proofs.Common.{◌≡◌, ◌+◌, ◌<◌, ◌∷◌, ◌++◌, [], Err, inl, inr, refl, sym, ◌∙◌, ap, arith, rules, length}
use Rattle.av1_tile.specs.declared.report.TileReport.{TileReport}
use Rattle.av1_step.specs.Given.{given_of}
use Rattle.av1_unit.specs.Coded.{told_of}
use Rattle.av1_unit.proofs.Scripts.{first, none_told, no_scripts, right_script, told_more, wrong_script}
use Rattle.av1_unit.proofs.tiles.count_tiles.Goals as goal

pub loop-tile-init : goal.loop-tile-init
loop-tile-init c = record { counted = c.new-told.ensures.items ∙ sym (none_told (given_of c.args.unit.now)); right = no_scripts (given_of c.args.unit.now) }

pub returns-in_err-one-clause-found : goal.returns-in_err-one-clause-found
returns-in_err-one-clause-found c =
    let g = given_of c.args.unit.now in
    let scripts = c.args.unit.now.scripts.items in
    let k = c.loop-tile.tile in
    let e = c.in_err-one.field-0.0 in
    let within : k < length scripts = omega (arith, c.loop-tile-test.true) in
    let is : c.from_residual.result ≡ Err e = search rules in
    rw is (elim c.in_err-one.ensures.found [ inl m ↦ inl m | inr h ↦ inr (wrong_script g scripts k e within c.loop-tile.invariant.right h) ])

pub loop-tile-preserved : goal.loop-tile-preserved
loop-tile-preserved c =
    let g = given_of c.args.unit.now in
    let scripts = c.args.unit.now.scripts.items in
    let k = c.loop-tile.tile in
    let within : k < length scripts = omega (arith, c.loop-tile-test.true) in
    record {
      counted = c.in_ok-add.ensures ∙ ap (λ l. l ++ c.in_ok-one.one ∷ []) c.loop-tile.invariant.counted ∙ ap (λ (t : TileReport). told_of g (first k scripts) ++ t ∷ []) c.in_ok-one.ensures.counted
          ∙ sym (told_more g scripts k (k + 1) within refl);
      right = right_script g scripts k (k + 1) within refl c.loop-tile.invariant.right c.in_ok-one.ensures.found;
    }
