use Rattle.std.proofs.Common.{◌≡◌, None, Some, Err, option_map, sym, ◌∙◌, ap, rules}
use Rattle.av1_cdf.specs.Tables.{table_rules}
use Rattle.av1_frame.specs.FrameRules.{frame_rules}
use Rattle.av1_frame.specs.SequenceRules.{sequence_rules}
use Rattle.av1_tile.specs.declared.error.Place.TheVariants as places
use Rattle.av1_tile.specs.declared.error.UnitError.TheVariants.{Refused}
use Rattle.av1_step.proofs.Places.{is_cut}
use Rattle.av1_unit.specs.Findings.{broken_at, scans_wrong, script_rules}
use Rattle.av1_unit.specs.Plain.{plain}
use Rattle.av1_unit.proofs.Before.{at_frame, at_messages, at_scans, at_scripts, at_sequence, at_tables, finds_at, found_checked, past_frame, past_messages, past_scans, past_sequence, past_tables}
use Rattle.av1_unit.proofs.Written.{not_broken}
use Rattle.av1_unit.proofs.check.check_unit.Goals as goal

pub returns-in_err-check_place-clause-found : goal.returns-in_err-check_place-clause-found
returns-in_err-check_place-clause-found c =
    let u = plain c.args.unit.now in
    let e = c.in_err-check_place.field-0.0 in
    let here : broken_at places.Tables (table_rules u.given.tables) ≡ Some e = ap (option_map (Refused places.Tables)) (sym c.check_tables.ensures) ∙ c.in_err-check_place.ensures in
    let is : c.from_residual.result ≡ Err e = search rules in
    rw is (at_tables u e here)

pub returns-in_err-check_place-2-clause-found : goal.returns-in_err-check_place-2-clause-found
returns-in_err-check_place-2-clause-found c =
    let u = plain c.args.unit.now in
    let e = c.in_err-check_place-2.field-0.0 in
    let tables : broken_at places.Tables (table_rules u.given.tables) ≡ None = ap (option_map (Refused places.Tables)) (sym c.check_tables.ensures) ∙ c.in_ok-check_place.ensures in
    let here : scans_wrong u ≡ Some e = ap (option_map (Refused places.Scans)) (sym c.broken_scan_rule.ensures) ∙ c.in_err-check_place-2.ensures in
    let is : c.from_residual-in_err-check_place-2.result ≡ Err e = search rules in
    rw is (past_tables u tables ∙ at_scans u e here)

pub returns-in_err-check_place-3-clause-found : goal.returns-in_err-check_place-3-clause-found
returns-in_err-check_place-3-clause-found c =
    let u = plain c.args.unit.now in
    let e = c.in_err-check_place-3.field-0.0 in
    let tables : broken_at places.Tables (table_rules u.given.tables) ≡ None = ap (option_map (Refused places.Tables)) (sym c.check_tables.ensures) ∙ c.in_ok-check_place.ensures in
    let scans : scans_wrong u ≡ None = ap (option_map (Refused places.Scans)) (sym c.broken_scan_rule.ensures) ∙ c.in_ok-check_place-2.ensures in
    let here : broken_at places.Sequence (sequence_rules u.given.fi.sequence) ≡ Some e = ap (option_map (Refused places.Sequence)) (sym c.check_sequence.ensures) ∙ c.in_err-check_place-3.ensures in
    let is : c.from_residual-in_err-check_place-3.result ≡ Err e = search rules in
    rw is (past_tables u tables ∙ past_scans u scans ∙ at_sequence u e here)

pub returns-in_err-check_place-4-clause-found : goal.returns-in_err-check_place-4-clause-found
returns-in_err-check_place-4-clause-found c =
    let u = plain c.args.unit.now in
    let e = c.in_err-check_place-4.field-0.0 in
    let tables : broken_at places.Tables (table_rules u.given.tables) ≡ None = ap (option_map (Refused places.Tables)) (sym c.check_tables.ensures) ∙ c.in_ok-check_place.ensures in
    let scans : scans_wrong u ≡ None = ap (option_map (Refused places.Scans)) (sym c.broken_scan_rule.ensures) ∙ c.in_ok-check_place-2.ensures in
    let sequence : broken_at places.Sequence (sequence_rules u.given.fi.sequence) ≡ None = ap (option_map (Refused places.Sequence)) (sym c.check_sequence.ensures) ∙ c.in_ok-check_place-3.ensures in
    let here : broken_at places.Frame (frame_rules u.given.fi u.given.fs u.given.refs) ≡ Some e = ap (option_map (Refused places.Frame)) (sym c.check_frame.ensures) ∙ c.in_err-check_place-4.ensures in
    let is : c.from_residual-in_err-check_place-4.result ≡ Err e = search rules in
    rw is (past_tables u tables ∙ past_scans u scans ∙ past_sequence u sequence ∙ at_frame u e here)

pub returns-in_err-check_messages-clause-found : goal.returns-in_err-check_messages-clause-found
returns-in_err-check_messages-clause-found c =
    let u = plain c.args.unit.now in
    let e = c.in_err-check_messages.field-0.0 in
    let tables : broken_at places.Tables (table_rules u.given.tables) ≡ None = ap (option_map (Refused places.Tables)) (sym c.check_tables.ensures) ∙ c.in_ok-check_place.ensures in
    let scans : scans_wrong u ≡ None = ap (option_map (Refused places.Scans)) (sym c.broken_scan_rule.ensures) ∙ c.in_ok-check_place-2.ensures in
    let sequence : broken_at places.Sequence (sequence_rules u.given.fi.sequence) ≡ None = ap (option_map (Refused places.Sequence)) (sym c.check_sequence.ensures) ∙ c.in_ok-check_place-3.ensures in
    let frame : broken_at places.Frame (frame_rules u.given.fi u.given.fs u.given.refs) ≡ None = ap (option_map (Refused places.Frame)) (sym c.check_frame.ensures) ∙ c.in_ok-check_place-4.ensures in
    let is : c.from_residual-in_err-check_messages.result ≡ Err e = search rules in
    rw is (past_tables u tables ∙ past_scans u scans ∙ past_sequence u sequence ∙ past_frame u frame ∙ at_messages u e c.in_err-check_messages.ensures)

pub check_scripts-requires : goal.check_scripts-requires
check_scripts-requires c =
    let u = plain c.args.unit.now in
    let frame : broken_at places.Frame (frame_rules u.given.fi u.given.fs u.given.refs) ≡ None = ap (option_map (Refused places.Frame)) (sym c.check_frame.ensures) ∙ c.in_ok-check_place-4.ensures in
    is_cut u.given.fi u.given.fs u.given.refs (not_broken places.Frame (frame_rules u.given.fi u.given.fs u.given.refs) frame)

pub returns-clause-found : goal.returns-clause-found
returns-clause-found c =
    let u = plain c.args.unit.now in
    let tables : broken_at places.Tables (table_rules u.given.tables) ≡ None = ap (option_map (Refused places.Tables)) (sym c.check_tables.ensures) ∙ c.in_ok-check_place.ensures in
    let scans : scans_wrong u ≡ None = ap (option_map (Refused places.Scans)) (sym c.broken_scan_rule.ensures) ∙ c.in_ok-check_place-2.ensures in
    let sequence : broken_at places.Sequence (sequence_rules u.given.fi.sequence) ≡ None = ap (option_map (Refused places.Sequence)) (sym c.check_sequence.ensures) ∙ c.in_ok-check_place-3.ensures in
    let frame : broken_at places.Frame (frame_rules u.given.fi u.given.fs u.given.refs) ≡ None = ap (option_map (Refused places.Frame)) (sym c.check_frame.ensures) ∙ c.in_ok-check_place-4.ensures in
    let scripts : option_map (Refused places.Scripts) c.check_scripts.result ≡ broken_at places.Scripts (script_rules u) = ap (option_map (Refused places.Scripts)) c.check_scripts.ensures in
    finds_at u c.check_place-5.result _ _ (past_tables u tables ∙ past_scans u scans ∙ past_sequence u sequence ∙ past_frame u frame ∙ past_messages u c.in_ok-check_messages.ensures)
    (at_scripts u c.check_place-5.result (finds_at u c.check_place-5.result _ _ (sym scripts) c.check_place-5.ensures))

pub returns-clause-checked : goal.returns-clause-checked
returns-clause-checked c = found_checked (plain c.args.unit.now) c.check_place-5.result (returns-clause-found c)
