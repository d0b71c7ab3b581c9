-- What is wrong with a unit: place by place, in the order in which they are looked at.
use Rattle.std.specs.Prelude.{◌≡◌, ◌⊎◌, ℕ, ◌^◌, ◌==◌, ◌++◌, List, [], ◌∷◌, map, length, nat_lt, if◌then◌else◌, Option, Some, None, option_map, Result, Ok, Err}
use Rattle.std.specs.List.{enumerate_from}
use Rattle.av1_cdf.specs.Tables.{table_rules}
use Rattle.av1_frame.specs.FrameRules.{frame_rules}
use Rattle.av1_frame.specs.MetadataRules.{metadata_rules}
use Rattle.av1_frame.specs.SequenceRules.{sequence_rules}
use Rattle.av1_frame.specs.declared.metadata.Metadata.{Metadata}
use Rattle.av1_frame.specs.declared.sequence.Sequence.{Sequence}
use Rattle.av1_geometry.specs.Rules.{Check, first_broken, rule}
use Rattle.av1_tile.specs.declared.error.Place.{Place}
use Rattle.av1_tile.specs.declared.error.Place.TheVariants as places
use Rattle.av1_tile.specs.declared.error.UnitError.{UnitError}
use Rattle.av1_tile.specs.declared.error.UnitError.TheVariants.{Refused, TooLong, OutOfMemory}
use Rattle.av1_step.specs.Given.{Given, broken_scan_rule, tile_count}
use Rattle.av1_tile.specs.TileBytes.{wrong_in}
use Rattle.av1_unit.specs.Coded.{Numbered, numbered, tiles_of}
use Rattle.av1_unit.specs.Framing.{Obu, obus}
use Rattle.av1_unit.specs.Plain.{PlainUnit}

-- the first thing that is wrong, of what each of several places has
abbrev pub first_of : List (Option UnitError) → Option UnitError
first_of [] = None
first_of (None ∷ places) = first_of places
first_of (Some wrong ∷ places) = Some wrong

-- a place breaks one of its rules
abbrev pub broken_at : Place → List Check → Option UnitError
broken_at place rules = option_map (Refused place) (first_broken rules)

-- the scans break one of theirs
abbrev pub scans_wrong : PlainUnit → Option UnitError
scans_wrong u = option_map (Refused places.Scans) (broken_scan_rule u.given.scans)

-- a metadata OBU under its sequence, by its number
abbrev pub message_wrong : Sequence → ℕ × Metadata → Option UnitError
message_wrong seq m = broken_at (places.Metadata m.0) (metadata_rules m.1 seq)

unfoldable pub messages_wrong : Sequence → List (ℕ × Metadata) → Option UnitError
messages_wrong seq messages = first_of (map (message_wrong seq) messages)

-- there is a script for each tile of the frame
abbrev pub script_rules : PlainUnit → List Check
script_rules u = rule 55 (length u.scripts == tile_count u.given.fi) ∷ []

-- the scripts in order, each of which is looked at item by item
unfoldable pub scripts_wrong : Given → List Numbered → Option UnitError
scripts_wrong g scripts = first_of (map (λ s. wrong_in g s.0 s.1) scripts)

-- the payload of an OBU of this number has 2^32 bytes or more
abbrev pub length_wrong : ℕ → ℕ → Option UnitError
length_wrong index size = if nat_lt size (2 ^ 32) then None else Some (TooLong (places.Obu index))

-- OBUs, of which the first has this number
unfoldable pub lengths_wrong : ℕ → List Obu → Option UnitError
lengths_wrong n os = first_of (map (λ o. length_wrong o.0 o.1.size) (enumerate_from n os))

-- the places before the scripts
unfoldable pub places_before : PlainUnit → List (Option UnitError)
places_before u =
    broken_at places.Tables (table_rules u.given.tables)
    ∷ scans_wrong u
    ∷ broken_at places.Sequence (sequence_rules u.given.fi.sequence)
    ∷ broken_at places.Frame (frame_rules u.given.fi u.given.fs u.given.refs)
    ∷ messages_wrong u.given.fi.sequence (enumerate_from 0 u.given.metadata)
    ∷ broken_at places.Scripts (script_rules u)
    ∷ []

-- the scripts, and the OBUs that they come to
unfoldable pub places_behind : PlainUnit → List (Option UnitError)
places_behind u =
    scripts_wrong u.given (numbered u)
    ∷ lengths_wrong 0 (obus u.given (tiles_of u.given (numbered u)))
    ∷ []

-- the first thing that is wrong with a unit
unfoldable pub first_refusal : PlainUnit → Option UnitError
first_refusal u = first_of (places_before u ++ places_behind u)

-- a call found nothing wrong, or this
abbrev pub Finds : {X : Type 0} → Result X UnitError → Option UnitError → Type 0
Finds (Ok x) wrong = wrong ≡ None
Finds (Err e) wrong = wrong ≡ Some e

-- the same, where memory may run out
abbrev pub FindsInRoom : {X : Type 0} → Result X UnitError → Option UnitError → Type 0
FindsInRoom (Ok x) wrong = wrong ≡ None
FindsInRoom (Err e) wrong = (e ≡ OutOfMemory) ⊎ (wrong ≡ Some e)
