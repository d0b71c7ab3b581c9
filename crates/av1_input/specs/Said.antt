-- What a unit's JSON says, member by member, with plain lists.
use Rattle.std.specs.Prelude.{List, Bool, Option}
use Rattle.av1_frame.specs.declared.metadata.Metadata.{Metadata}
use Rattle.av1_frame.specs.declared.reference.RefState.{RefState}
use Rattle.av1_frame.specs.declared.sequence.Sequence.{Sequence}
use Rattle.av1_step.specs.declared.unit.Item.{Item}
use Rattle.av1_tile.specs.declared.coding.Via.{Via}
use Rattle.av1_input.specs.declared.frame.Frame.{Frame}
use Rattle.av1_input.specs.declared.scans.GivenScans.{GivenScans}
use Rattle.av1_input.specs.declared.tables.GivenTables.{GivenTables}

pub record Said : Type 0 where
  pub tables : GivenTables
  pub scans : GivenScans
  pub sequence : Sequence
  pub frame : Frame
  pub refs : List (Option RefState)
  pub metadata : List Metadata
  pub delimiter : Bool
  pub eob_by_coded : Bool
  pub via : Via
  pub scripts : List (List Item)
