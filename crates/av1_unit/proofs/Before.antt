-- What is wrong before the scripts, place by place.
use Rattle.std.proofs.Common.{◌≡◌, ℕ, ◌+◌, ◌<◌, List, [], ◌∷◌, Option, None, Some, Result, Ok, Err, length, take, get_or, refl, ◌∙◌}
use Rattle.std.specs.Prelude.{OnOk}
use Rattle.std.specs.List.{enumerate_from}
use Rattle.av1_cdf.specs.Tables.{table_rules}
use Rattle.av1_frame.specs.FrameRules.{frame_rules}
use Rattle.av1_frame.specs.MetadataRules.{metadata_rules}
use Rattle.av1_frame.specs.SequenceRules.{sequence_rules}
use Rattle.av1_frame.specs.declared.metadata.Metadata.{Metadata}
use Rattle.av1_frame.specs.declared.sequence.Sequence.{Sequence}
use Rattle.av1_tile.specs.declared.error.Place.TheVariants as places
use Rattle.av1_tile.specs.declared.error.UnitError.{UnitError}
use Rattle.av1_unit.specs.Checked.{IsChecked}
use Rattle.av1_unit.specs.Findings.{broken_at, first_of, message_wrong, messages_wrong, places_before, scans_wrong, script_rules, Finds}
use Rattle.av1_unit.specs.Plain.{PlainUnit}
use Rattle.av1_unit.proofs.Places.{first_of-here, first_of-next, right_more, wrong_here}
use Rattle.av1_unit.proofs.Written.{checked_unit}

-- the places from the scans on, from the sequence on, and so on
pub from_scripts : PlainUnit → List (Option UnitError)
from_scripts u = broken_at places.Scripts (script_rules u) ∷ []

pub from_messages : PlainUnit → List (Option UnitError)
from_messages u = messages_wrong u.given.fi.sequence (enumerate_from 0 u.given.metadata) ∷ from_scripts u

pub from_frame : PlainUnit → List (Option UnitError)
from_frame u = broken_at places.Frame (frame_rules u.given.fi u.given.fs u.given.refs) ∷ from_messages u

pub from_sequence : PlainUnit → List (Option UnitError)
from_sequence u = broken_at places.Sequence (sequence_rules u.given.fi.sequence) ∷ from_frame u

pub from_scans : PlainUnit → List (Option UnitError)
from_scans u = scans_wrong u ∷ from_sequence u

module _ (u : PlainUnit) where
  pub past_tables : broken_at places.Tables (table_rules u.given.tables) ≡ None → first_of (places_before u) ≡ first_of (from_scans u)
  unfolding places_before from_scans from_sequence from_frame from_messages from_scripts
  past_tables h = first_of-next (broken_at places.Tables (table_rules u.given.tables)) (from_scans u) h

  pub past_scans : scans_wrong u ≡ None → first_of (from_scans u) ≡ first_of (from_sequence u)
  unfolding from_scans
  past_scans h = first_of-next (scans_wrong u) (from_sequence u) h

  pub past_sequence : broken_at places.Sequence (sequence_rules u.given.fi.sequence) ≡ None → first_of (from_sequence u) ≡ first_of (from_frame u)
  unfolding from_sequence
  past_sequence h = first_of-next (broken_at places.Sequence (sequence_rules u.given.fi.sequence)) (from_frame u) h

  pub past_frame : broken_at places.Frame (frame_rules u.given.fi u.given.fs u.given.refs) ≡ None → first_of (from_frame u) ≡ first_of (from_messages u)
  unfolding from_frame
  past_frame h = first_of-next (broken_at places.Frame (frame_rules u.given.fi u.given.fs u.given.refs)) (from_messages u) h

  pub past_messages : messages_wrong u.given.fi.sequence (enumerate_from 0 u.given.metadata) ≡ None → first_of (from_messages u) ≡ first_of (from_scripts u)
  unfolding from_messages
  past_messages h = first_of-next (messages_wrong u.given.fi.sequence (enumerate_from 0 u.given.metadata)) (from_scripts u) h

  pub at_tables : (e : UnitError) → broken_at places.Tables (table_rules u.given.tables) ≡ Some e → first_of (places_before u) ≡ Some e
  unfolding places_before from_scans from_sequence from_frame from_messages from_scripts
  at_tables e h = first_of-here (broken_at places.Tables (table_rules u.given.tables)) (from_scans u) e h

  pub at_scans : (e : UnitError) → scans_wrong u ≡ Some e → first_of (from_scans u) ≡ Some e
  unfolding from_scans
  at_scans e h = first_of-here (scans_wrong u) (from_sequence u) e h

  pub at_sequence : (e : UnitError) → broken_at places.Sequence (sequence_rules u.given.fi.sequence) ≡ Some e → first_of (from_sequence u) ≡ Some e
  unfolding from_sequence
  at_sequence e h = first_of-here (broken_at places.Sequence (sequence_rules u.given.fi.sequence)) (from_frame u) e h

  pub at_frame : (e : UnitError) → broken_at places.Frame (frame_rules u.given.fi u.given.fs u.given.refs) ≡ Some e → first_of (from_frame u) ≡ Some e
  unfolding from_frame
  at_frame e h = first_of-here (broken_at places.Frame (frame_rules u.given.fi u.given.fs u.given.refs)) (from_messages u) e h

  pub at_messages : (e : UnitError) → messages_wrong u.given.fi.sequence (enumerate_from 0 u.given.metadata) ≡ Some e → first_of (from_messages u) ≡ Some e
  unfolding from_messages
  at_messages e h = first_of-here (messages_wrong u.given.fi.sequence (enumerate_from 0 u.given.metadata)) (from_scripts u) e h

  -- the last place decides
  pub at_scripts : {X : Type 0} (r : Result X UnitError) → Finds r (broken_at places.Scripts (script_rules u)) → Finds r (first_of (from_scripts u))
  unfolding from_scripts
  at_scripts (Ok x) h = first_of-next (broken_at places.Scripts (script_rules u)) [] h
  at_scripts (Err e) h = first_of-here (broken_at places.Scripts (script_rules u)) [] e h

  pub finds_at : {X : Type 0} (r : Result X UnitError) (here there : Option UnitError) → there ≡ here → Finds r here → Finds r there
  finds_at (Ok x) here there e h = e ∙ h
  finds_at (Err x) here there e h = e ∙ h

  -- what is known where nothing was found
  pub found_checked : {X : Type 0} (r : Result X UnitError) → Finds r (first_of (places_before u)) → OnOk r (IsChecked u)
  found_checked (Ok x) h = checked_unit u h
  found_checked (Err e) h = tt

pub no_messages : (seq : Sequence) → messages_wrong seq [] ≡ None
unfolding messages_wrong
no_messages seq = refl

pub right_message : (seq : Sequence) (ms : List Metadata) (k j : ℕ) (m : Metadata) → k < length ms → j ≡ k + 1 → messages_wrong seq (enumerate_from 0 (take k ms)) ≡ None → broken_at (places.Metadata k) (metadata_rules (get_or ms k m) seq) ≡ None
    → messages_wrong seq (enumerate_from 0 (take j ms)) ≡ None
unfolding messages_wrong
right_message seq ms k j m within is before here = right_more (message_wrong seq) ms k j m within is before here

pub wrong_message : (seq : Sequence) (ms : List Metadata) (k : ℕ) (m : Metadata) (e : UnitError) → k < length ms → messages_wrong seq (enumerate_from 0 (take k ms)) ≡ None → broken_at (places.Metadata k) (metadata_rules (get_or ms k m) seq) ≡ Some e
    → messages_wrong seq (enumerate_from 0 ms) ≡ Some e
unfolding messages_wrong
wrong_message seq ms k m e within before here = wrong_here (message_wrong seq) ms k m e within before here
