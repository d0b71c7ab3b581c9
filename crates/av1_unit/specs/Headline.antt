-- What is promised of a unit that was written.
use Rattle.std.specs.Prelude.{◌≡◌, ℕ, ◌<◌, List, None, length, take}
use Rattle.av1_bits.specs.Outside.{appended}
use Rattle.av1_bits.specs.declared.outside.Sink.{Ghosts}
use Rattle.av1_unit.specs.Coded.{numbered, trials_of}
use Rattle.av1_unit.specs.Findings.{first_refusal}
use Rattle.av1_unit.specs.Framing.{framed}
use Rattle.av1_unit.specs.Plain.{PlainUnit}
use Rattle.av1_unit.specs.Report.{ReportLists}
use Rattle.av1_unit.specs.Tiles.{AreTiles}

-- The unit is valid, the bytes are its headers and its tiles, each of which reads back, and the report tells what each tile has
-- and what each trial cost.
pub record IsWritten (u : PlainUnit) (unit_bytes : List ℕ) (report : ReportLists) : Type 0 where
  pub valid : first_refusal u ≡ None
  pub tiles : List (List ℕ)
  pub framed_unit : unit_bytes ≡ framed u.given tiles
  pub each : AreTiles u.given 0 u.scripts tiles report.tiles
  pub trials : report.trials ≡ trials_of u.given (numbered u)

-- a sink took the bytes of a unit that was written, and didn't fail
pub record IsSent {S : Type 0} (sink : Ghosts S) (old new : S) (u : PlainUnit) (report : ReportLists) : Type 0 where
  pub bytes : List ℕ
  pub written : IsWritten u bytes report
  pub received : sink.sent new ≡ appended (sink.sent old) bytes
  pub count : sink.faults new ≡ sink.faults old

-- a sink took some of the bytes of a unit, from the front, and not all
pub record IsSentInPart {S : Type 0} (sink : Ghosts S) (old new : S) (u : PlainUnit) : Type 0 where
  pub bytes : List ℕ
  pub report : ReportLists
  pub k : ℕ
  pub written : IsWritten u bytes report
  pub less : k < length bytes
  pub received : sink.sent new ≡ appended (sink.sent old) (take k bytes)
