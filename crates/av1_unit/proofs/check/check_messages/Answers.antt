use Rattle.std.proofs.Common.{◌≡◌, ◌+◌, ◌<◌, None, Some, Err, length, get_or, option_map, refl, sym, ◌∙◌, ap, rules, arith}
use Rattle.av1_frame.specs.MetadataRules.{metadata_rules}
use Rattle.av1_frame.specs.declared.metadata.Metadata.{Metadata}
use Rattle.av1_tile.specs.declared.error.Place.TheVariants as places
use Rattle.av1_tile.specs.declared.error.UnitError.TheVariants.{Refused}
use Rattle.av1_unit.specs.Findings.{broken_at}
use Rattle.av1_unit.proofs.Before.{no_messages, right_message, wrong_message}
use Rattle.av1_unit.proofs.check.check_messages.Goals as goal

pub loop-index-init : goal.loop-index-init
loop-index-init c = no_messages c.args.unit.now.fi.sequence

pub returns-in_err-check_place : goal.returns-in_err-check_place
returns-in_err-check_place c =
    let seq = c.args.unit.now.fi.sequence in
    let ms = c.deref-metadata-items.result.now in
    let k = c.loop-index.index in
    let m = c.metadata-item.result in
    let e = c.in_err-check_place.field-0.0 in
    let within : k < length ms = omega (arith, c.loop-index-test.true) in
    let same : get_or ms k m ≡ m = sym c.metadata-item.is in
    let here : broken_at (places.Metadata k) (metadata_rules (get_or ms k m) seq) ≡ Some e =
    ap (λ (x : Metadata). broken_at (places.Metadata k) (metadata_rules x seq)) same ∙ ap (option_map (Refused (places.Metadata k))) (sym c.check_metadata-broken.ensures) ∙ c.in_err-check_place.ensures in
    let is : c.from_residual.result ≡ Err e = search rules in
    let all : ms ≡ c.args.unit.now.metadata.items = c.deref-metadata-items.ensures.value in
    rw (is, ← all) (wrong_message seq ms k m e within c.loop-index.invariant here)

pub loop-index-preserved : goal.loop-index-preserved
loop-index-preserved c =
    let seq = c.args.unit.now.fi.sequence in
    let ms = c.deref-metadata-items.result.now in
    let k = c.loop-index.index in
    let m = c.metadata-item.result in
    let within : k < length ms = omega (arith, c.loop-index-test.true) in
    let same : get_or ms k m ≡ m = sym c.metadata-item.is in
    let here : broken_at (places.Metadata k) (metadata_rules (get_or ms k m) seq) ≡ None =
    ap (λ (x : Metadata). broken_at (places.Metadata k) (metadata_rules x seq)) same ∙ ap (option_map (Refused (places.Metadata k))) (sym c.check_metadata-broken.ensures) ∙ c.in_ok-check_place.ensures in
    right_message seq ms k (k + 1) m within refl c.loop-index.invariant here
