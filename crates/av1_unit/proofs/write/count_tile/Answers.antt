use Rattle.std.proofs.Common.{◌≡◌, ◌⊎◌, ◌≤◌, ◌^◌, Err, Some, List, length, get_or, inl, inr, sym, ◌∙◌, ap, arith, subst, rules}
use Rattle.av1_tile.specs.declared.error.UnitError.TheVariants.{OutOfMemory}
use Rattle.av1_tile.specs.declared.report.TileReport.{TileReport}
use Rattle.av1_unit.specs.Coded.{numbered, tiles_of, told_of}
use Rattle.av1_unit.specs.Findings.{first_refusal}
use Rattle.av1_unit.specs.Lengths.{HasLengths}
use Rattle.av1_unit.specs.Plain.{plain}
use Rattle.av1_unit.proofs.Counts.{few_told, told_at, told_count, told_lengths}
use Rattle.av1_unit.proofs.Written.{not_sink, valid_unit, wrong_before, wrong_length, wrong_script}
use Rattle.av1_unit.proofs.write.count_tile.Goals as goal

pub returns-in_err-check_unit-clause-refused : goal.returns-in_err-check_unit-clause-refused
returns-in_err-check_unit-clause-refused c =
    let e = c.in_err-check_unit.field-0.0 in
    let is : c.from_residual.result ≡ Err e = search rules in
    rw is (inr (wrong_before (plain c.args.unit.now) e c.in_err-check_unit.ensures.found))

pub returns-in_err-check_unit-clause-no_fault : goal.returns-in_err-check_unit-clause-no_fault
returns-in_err-check_unit-clause-no_fault c =
    let e = c.in_err-check_unit.field-0.0 in
    let is : c.from_residual.result ≡ Err e = search rules in
    let never = not_sink (plain c.args.unit.now) e (inr (wrong_before (plain c.args.unit.now) e c.in_err-check_unit.ensures.found)) in
    λ h. never (cc (is, h))

pub returns-in_err-tiles-clause-refused : goal.returns-in_err-tiles-clause-refused
returns-in_err-tiles-clause-refused c =
    let u = plain c.args.unit.now in
    let e = c.in_err-tiles.field-0.0 in
    let is : c.from_residual-in_err-tiles.result ≡ Err e = search rules in
    rw is (elim c.in_err-tiles.ensures.found [ inl m ↦ inl m | inr h ↦ inr (wrong_script u e c.in_ok-check_unit.ensures.found h) ])

pub returns-in_err-tiles-clause-no_fault : goal.returns-in_err-tiles-clause-no_fault
returns-in_err-tiles-clause-no_fault c =
    let u = plain c.args.unit.now in
    let e = c.in_err-tiles.field-0.0 in
    let is : c.from_residual-in_err-tiles.result ≡ Err e = search rules in
    let why : (e ≡ OutOfMemory) ⊎ (first_refusal u ≡ Some e) = elim c.in_err-tiles.ensures.found [ inl m ↦ inl m | inr h ↦ inr (wrong_script u e c.in_ok-check_unit.ensures.found h) ] in
    let never = not_sink u e why in
    λ h. never (cc (is, h))

pub check_lengths-requires-clause-few : goal.check_lengths-requires-clause-few
check_lengths-requires-clause-few c =
    let u = plain c.args.unit.now in
    let told : c.deref.result.now ≡ told_of u.given (numbered u) = c.deref.ensures.value ∙ c.in_ok-tiles.ensures.counted in
    subst (λ (l : List TileReport). length l ≤ 2 ^ 20) (sym told) (few_told u c.in_ok-check_unit.ensures.checked)

pub returns-in_err-check_lengths-clause-refused : goal.returns-in_err-check_lengths-clause-refused
returns-in_err-check_lengths-clause-refused c =
    let u = plain c.args.unit.now in
    let e = c.in_err-check_lengths.field-0.0 in
    let is : c.from_residual-in_err-check_lengths.result ≡ Err e = search rules in
    let tiles = tiles_of u.given (numbered u) in
    let told : c.deref.result.now ≡ told_of u.given (numbered u) = c.deref.ensures.value ∙ c.in_ok-tiles.ensures.counted in
    let has : HasLengths tiles c.deref.result.now = subst (λ (l : List TileReport). HasLengths tiles l) (sym told) (told_lengths u.given (numbered u)) in
    rw is (elim (c.in_err-check_lengths.ensures tiles has) [ inl m ↦ inl m | inr h ↦ inr (wrong_length u e c.in_ok-check_unit.ensures.found c.in_ok-tiles.ensures.found h) ])

pub returns-in_err-check_lengths-clause-no_fault : goal.returns-in_err-check_lengths-clause-no_fault
returns-in_err-check_lengths-clause-no_fault c =
    let u = plain c.args.unit.now in
    let e = c.in_err-check_lengths.field-0.0 in
    let is : c.from_residual-in_err-check_lengths.result ≡ Err e = search rules in
    let tiles = tiles_of u.given (numbered u) in
    let told : c.deref.result.now ≡ told_of u.given (numbered u) = c.deref.ensures.value ∙ c.in_ok-tiles.ensures.counted in
    let has : HasLengths tiles c.deref.result.now = subst (λ (l : List TileReport). HasLengths tiles l) (sym told) (told_lengths u.given (numbered u)) in
    let why : (e ≡ OutOfMemory) ⊎ (first_refusal u ≡ Some e) =
    elim (c.in_err-check_lengths.ensures tiles has) [ inl m ↦ inl m | inr h ↦ inr (wrong_length u e c.in_ok-check_unit.ensures.found c.in_ok-tiles.ensures.found h) ] in
    let never = not_sink u e why in
    λ h. never (cc (is, h))

pub index-requires : goal.index-requires
index-requires c =
    let u = plain c.args.unit.now in
    omega (arith, c.requires.tile, told_count u, ap (λ (l : List TileReport). length l) c.in_ok-tiles.ensures.counted)

pub returns-clause-counted : goal.returns-clause-counted
returns-clause-counted c =
    let u = plain c.args.unit.now in
    let d = c.index.result.now in
    c.index.ensures ∙ ap (λ (l : List TileReport). get_or l c.args.tile d) c.in_ok-tiles.ensures.counted ∙ told_at u c.args.tile d c.requires.tile

pub returns-clause-valid : goal.returns-clause-valid
returns-clause-valid c =
    let u = plain c.args.unit.now in
    let tiles = tiles_of u.given (numbered u) in
    let told : c.deref.result.now ≡ told_of u.given (numbered u) = c.deref.ensures.value ∙ c.in_ok-tiles.ensures.counted in
    let has : HasLengths tiles c.deref.result.now = subst (λ (l : List TileReport). HasLengths tiles l) (sym told) (told_lengths u.given (numbered u)) in
    valid_unit u c.in_ok-check_unit.ensures.found c.in_ok-tiles.ensures.found (c.in_ok-check_lengths.ensures tiles has)
