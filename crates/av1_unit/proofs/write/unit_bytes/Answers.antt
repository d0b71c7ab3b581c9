use Rattle.std.proofs.Common.{◌≡◌, ◌⊎◌, ◌≤◌, ◌^◌, Err, None, Some, List, ℕ, length, inl, inr, sym, ◌∙◌, ap, subst, rules}
use Rattle.av1_tile.specs.declared.error.UnitError.TheVariants.{OutOfMemory}
use Rattle.av1_tile.specs.declared.report.TileReport.{TileReport}
use Rattle.av1_unit.specs.declared.tiles.CodedTiles.{CodedTiles}
use Rattle.av1_unit.specs.Coded.{numbered, tiles_of, told_of}
use Rattle.av1_unit.specs.Findings.{first_refusal, lengths_wrong}
use Rattle.av1_unit.specs.Framing.{framed, obus}
use Rattle.av1_unit.specs.HeaderReading.{HeadersAreRead}
use Rattle.av1_unit.specs.Lengths.{HasLengths}
use Rattle.av1_unit.specs.Plain.{plain}
use Rattle.av1_unit.proofs.Counts.{few_told, some_tiles, told_lengths}
use Rattle.av1_unit.proofs.Written.{not_sink, wrong_before, wrong_length, wrong_script, written}
use Rattle.av1_unit.proofs.write.unit_bytes.Goals as goal

pub returns-in_err-check_unit-clause-refused : goal.returns-in_err-check_unit-clause-refused
returns-in_err-check_unit-clause-refused c =
    let e = c.in_err-check_unit.field-0.0 in
    let is : c.from_residual.result ≡ Err e = search rules in
    rw is (inr (wrong_before (plain c.args.unit.now) e c.in_err-check_unit.ensures.found))

pub returns-in_err-check_unit-clause-no_fault : goal.returns-in_err-check_unit-clause-no_fault
returns-in_err-check_unit-clause-no_fault c =
    let e = c.in_err-check_unit.field-0.0 in
    let is : c.from_residual.result ≡ Err e = search rules in
    let never = not_sink (plain c.args.unit.now) e (inr (wrong_before (plain c.args.unit.now) e c.in_err-check_unit.ensures.found)) in
    λ h. never (cc (is, h))

pub returns-in_err-coded-clause-refused : goal.returns-in_err-coded-clause-refused
returns-in_err-coded-clause-refused c =
    let u = plain c.args.unit.now in
    let e = c.in_err-coded.field-0.0 in
    let is : c.from_residual-in_err-coded.result ≡ Err e = search rules in
    rw is (elim c.in_err-coded.ensures.found [ inl m ↦ inl m | inr h ↦ inr (wrong_script u e c.in_ok-check_unit.ensures.found h) ])

pub returns-in_err-coded-clause-no_fault : goal.returns-in_err-coded-clause-no_fault
returns-in_err-coded-clause-no_fault c =
    let u = plain c.args.unit.now in
    let e = c.in_err-coded.field-0.0 in
    let is : c.from_residual-in_err-coded.result ≡ Err e = search rules in
    let why : (e ≡ OutOfMemory) ⊎ (first_refusal u ≡ Some e) = elim c.in_err-coded.ensures.found [ inl m ↦ inl m | inr h ↦ inr (wrong_script u e c.in_ok-check_unit.ensures.found h) ] in
    let never = not_sink u e why in
    λ h. never (cc (is, h))

pub check_lengths-requires-clause-few : goal.check_lengths-requires-clause-few
check_lengths-requires-clause-few c =
    let u = plain c.args.unit.now in
    let told : c.told.result.now ≡ told_of u.given (numbered u) = c.told.ensures ∙ ap (λ (x : CodedTiles). x.report.tiles) c.in_ok-coded.ensures.coded in
    subst (λ (l : List TileReport). length l ≤ 2 ^ 20) (sym told) (few_told u c.in_ok-check_unit.ensures.checked)

pub returns-in_err-check_lengths-clause-refused : goal.returns-in_err-check_lengths-clause-refused
returns-in_err-check_lengths-clause-refused c =
    let u = plain c.args.unit.now in
    let e = c.in_err-check_lengths.field-0.0 in
    let is : c.from_residual-in_err-check_lengths.result ≡ Err e = search rules in
    let tiles = tiles_of u.given (numbered u) in
    let told : c.told.result.now ≡ told_of u.given (numbered u) = c.told.ensures ∙ ap (λ (x : CodedTiles). x.report.tiles) c.in_ok-coded.ensures.coded in
    let has : HasLengths tiles c.told.result.now = subst (λ (l : List TileReport). HasLengths tiles l) (sym told) (told_lengths u.given (numbered u)) in
    rw is (elim (c.in_err-check_lengths.ensures tiles has) [ inl m ↦ inl m | inr h ↦ inr (wrong_length u e c.in_ok-check_unit.ensures.found c.in_ok-coded.ensures.found h) ])

pub returns-in_err-check_lengths-clause-no_fault : goal.returns-in_err-check_lengths-clause-no_fault
returns-in_err-check_lengths-clause-no_fault c =
    let u = plain c.args.unit.now in
    let e = c.in_err-check_lengths.field-0.0 in
    let is : c.from_residual-in_err-check_lengths.result ≡ Err e = search rules in
    let tiles = tiles_of u.given (numbered u) in
    let told : c.told.result.now ≡ told_of u.given (numbered u) = c.told.ensures ∙ ap (λ (x : CodedTiles). x.report.tiles) c.in_ok-coded.ensures.coded in
    let has : HasLengths tiles c.told.result.now = subst (λ (l : List TileReport). HasLengths tiles l) (sym told) (told_lengths u.given (numbered u)) in
    let why : (e ≡ OutOfMemory) ⊎ (first_refusal u ≡ Some e) =
    elim (c.in_err-check_lengths.ensures tiles has) [ inl m ↦ inl m | inr h ↦ inr (wrong_length u e c.in_ok-check_unit.ensures.found c.in_ok-coded.ensures.found h) ] in
    let never = not_sink u e why in
    λ h. never (cc (is, h))

pub frame_unit-requires-clause-some : goal.frame_unit-requires-clause-some
frame_unit-requires-clause-some c =
    let u = plain c.args.unit.now in
    let tiles : c.tiles.result.now ≡ tiles_of u.given (numbered u) = c.tiles.ensures ∙ ap (λ (x : CodedTiles). x.tiles) c.in_ok-coded.ensures.coded in
    subst (λ (l : List (List ℕ)). 1 ≤ length l) (sym tiles) (some_tiles u c.in_ok-check_unit.ensures.checked)

pub frame_unit-requires-clause-told : goal.frame_unit-requires-clause-told
frame_unit-requires-clause-told c =
    let u = plain c.args.unit.now in
    let tiles : c.tiles.result.now ≡ tiles_of u.given (numbered u) = c.tiles.ensures ∙ ap (λ (x : CodedTiles). x.tiles) c.in_ok-coded.ensures.coded in
    let told : c.told-2.result.now ≡ told_of u.given (numbered u) = c.told-2.ensures ∙ ap (λ (x : CodedTiles). x.report.tiles) c.in_ok-coded.ensures.coded in
    subst (λ (l : List (List ℕ)). HasLengths l c.told-2.result.now) (sym tiles) (subst (λ (l : List TileReport). HasLengths (tiles_of u.given (numbered u)) l) (sym told) (told_lengths u.given (numbered u)))

pub frame_unit-requires-clause-short : goal.frame_unit-requires-clause-short
frame_unit-requires-clause-short c =
    let u = plain c.args.unit.now in
    let tiles : c.tiles.result.now ≡ tiles_of u.given (numbered u) = c.tiles.ensures ∙ ap (λ (x : CodedTiles). x.tiles) c.in_ok-coded.ensures.coded in
    let told : c.told.result.now ≡ told_of u.given (numbered u) = c.told.ensures ∙ ap (λ (x : CodedTiles). x.report.tiles) c.in_ok-coded.ensures.coded in
    let has : HasLengths (tiles_of u.given (numbered u)) c.told.result.now = subst (λ (l : List TileReport). HasLengths (tiles_of u.given (numbered u)) l) (sym told) (told_lengths u.given (numbered u)) in
    subst (λ (l : List (List ℕ)). lengths_wrong 0 (obus u.given l) ≡ None) (sym tiles) (c.in_ok-check_lengths.ensures (tiles_of u.given (numbered u)) has)

pub returns-clause-bytes : goal.returns-clause-bytes
returns-clause-bytes c =
    let u = plain c.args.unit.now in
    let tiles : c.tiles.result.now ≡ tiles_of u.given (numbered u) = c.tiles.ensures ∙ ap (λ (x : CodedTiles). x.tiles) c.in_ok-coded.ensures.coded in
    c.in_ok-bytes.ensures.framed ∙ ap (framed u.given) tiles

pub returns-clause-report : goal.returns-clause-report
returns-clause-report c = c.into_report.ensures ∙ ap (λ (x : CodedTiles). x.report) c.in_ok-coded.ensures.coded

pub returns-clause-written : goal.returns-clause-written
returns-clause-written c =
    let u = plain c.args.unit.now in
    let told : c.told.result.now ≡ told_of u.given (numbered u) = c.told.ensures ∙ ap (λ (x : CodedTiles). x.report.tiles) c.in_ok-coded.ensures.coded in
    let has : HasLengths (tiles_of u.given (numbered u)) c.told.result.now = subst (λ (l : List TileReport). HasLengths (tiles_of u.given (numbered u)) l) (sym told) (told_lengths u.given (numbered u)) in
    written u c.in_ok-bytes.bytes.items c.into_report.result
    (record { before = c.in_ok-check_unit.ensures.found; scripts = c.in_ok-coded.ensures.found; lengths = c.in_ok-check_lengths.ensures (tiles_of u.given (numbered u)) has })
    (returns-clause-bytes c) (returns-clause-report c)

pub returns-clause-headers : goal.returns-clause-headers
returns-clause-headers c =
    let u = plain c.args.unit.now in
    let tiles : c.tiles.result.now ≡ tiles_of u.given (numbered u) = c.tiles.ensures ∙ ap (λ (x : CodedTiles). x.tiles) c.in_ok-coded.ensures.coded in
    subst (λ (l : List (List ℕ)). HeadersAreRead u.given l) tiles c.in_ok-bytes.ensures.headers
