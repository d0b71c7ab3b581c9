use Rattle.std.proofs.Common.{◌≡◌, ◌+◌, ◌<◌, ◌∷◌, ◌++◌, [], List, ℕ, Err, inl, inr, refl, sym, ◌∙◌, ap, arith, rules, length}
use Rattle.av1_tile.specs.declared.report.TileReport.{TileReport}
use Rattle.av1_tile.specs.declared.report.TrialCost.{TrialCost}
use Rattle.av1_step.specs.Given.{given_of}
use Rattle.av1_tile.specs.TileBytes.{script_of, tile_report}
use Rattle.av1_unit.proofs.Scripts.{coded_more, coded_none, no_scripts, right_script, wrong_script}
use Rattle.av1_unit.proofs.tiles.code_tiles.Goals as goal

pub loop-tile-init : goal.loop-tile-init
loop-tile-init c = record { coded = c.new-coded.ensures ∙ sym (coded_none (given_of c.args.unit.now)); right = no_scripts (given_of c.args.unit.now) }

pub returns-in_err-one-clause-found : goal.returns-in_err-one-clause-found
returns-in_err-one-clause-found c =
    let g = given_of c.args.unit.now in
    let scripts = c.args.unit.now.scripts.items in
    let k = c.loop-tile.tile in
    let e = c.in_err-one.field-0.0 in
    let within : k < length scripts = omega (arith, c.loop-tile-test.true) in
    let is : c.from_residual.result ≡ Err e = search rules in
    rw is (elim c.in_err-one.ensures.err [ inl m ↦ inl m | inr h ↦ inr (wrong_script g scripts k e within c.loop-tile.invariant.right h) ])

pub loop-tile-preserved : goal.loop-tile-preserved
loop-tile-preserved c =
    let g = given_of c.args.unit.now in
    let scripts = c.args.unit.now.scripts.items in
    let k = c.loop-tile.tile in
    let items = script_of c.args.unit.now k in
    let old = c.loop-tile.coded in
    let one = c.in_ok-one.one in
    let within : k < length scripts = omega (arith, c.loop-tile-test.true) in
    let told : record { bytes = length one.bytes.items; bits = one.bits } ≡ tile_report g k items =
    let bytes = c.in_ok-one.ensures.bytes in
    let bits = c.in_ok-one.ensures.bits in
    λ i. record { bytes = length (bytes i); bits = bits i } in
    record {
      coded = coded_more g scripts k (k + 1) old c.push.new.self within refl c.loop-tile.invariant.coded
          (c.in_ok-push.ensures.tiles ∙ ap (λ (l : List ℕ). old.tiles ++ l ∷ []) c.in_ok-one.ensures.bytes)
          (c.in_ok-push.ensures.told ∙ ap (λ (t : TileReport). old.report.tiles ++ t ∷ []) told)
          (c.in_ok-push.ensures.trials ∙ ap (λ (l : List TrialCost). old.report.trials ++ l) c.in_ok-one.ensures.trials);
      right = right_script g scripts k (k + 1) within refl c.loop-tile.invariant.right c.in_ok-one.ensures.allowed;
    }
