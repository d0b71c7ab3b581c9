-- What contracts see of a report: its members, with plain lists.
use Rattle.std.specs.Prelude.{List}
use Rattle.av1_tile.specs.declared.report.TileReport.{TileReport}
use Rattle.av1_tile.specs.declared.report.TrialCost.{TrialCost}

pub record ReportLists : Type 0 where
  pub tiles : List TileReport
  pub trials : List TrialCost
