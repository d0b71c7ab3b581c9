-- What is known of a unit before its scripts are coded.
use Rattle.std.specs.Prelude.{◌≡◌, None, length}
use Rattle.std.specs.List.{enumerate_from}
use Rattle.av1_step.specs.Given.{tile_count, IsGiven}
use Rattle.av1_unit.specs.Findings.{messages_wrong}
use Rattle.av1_unit.specs.Plain.{PlainUnit}

-- its tables, scans, headers and metadata break no rule, and it has a script for each tile
pub record IsChecked (u : PlainUnit) : Type 0 where
  pub given : IsGiven u.given
  pub messages : messages_wrong u.given.fi.sequence (enumerate_from 0 u.given.metadata) ≡ None
  pub scripts : length u.scripts ≡ tile_count u.given.fi
