-- What the scripts of a unit come to: its tiles, and what is told of them.
use Rattle.std.specs.Prelude.{ℕ, List, map}
use Rattle.std.specs.List.{enumerate_from, flat_map}
use Rattle.av1_model.specs.Interval.{final_bytes}
use Rattle.av1_tile.specs.declared.report.TileReport.{TileReport}
use Rattle.av1_tile.specs.declared.report.TrialCost.{TrialCost}
use Rattle.av1_step.specs.declared.unit.Item.{Item}
use Rattle.av1_step.specs.Given.{Given}
use Rattle.av1_tile.specs.TileBytes.{costs_of, ending, tile_report}
use Rattle.av1_unit.specs.Plain.{PlainUnit}
use Rattle.av1_unit.specs.Report.{ReportLists}

-- a script with the number of its tile
abbrev pub Numbered : Type 0
Numbered = ℕ × List Item

-- the scripts of a unit, numbered from 0
abbrev pub numbered : PlainUnit → List Numbered
numbered u = enumerate_from 0 u.scripts

-- each tile is the final bytes of where coding its script ends
unfoldable pub tiles_of : Given → List Numbered → List (List ℕ)
tiles_of g scripts = map (λ s. final_bytes (ending g s.0 s.1)) scripts

-- what is told of each tile
unfoldable pub told_of : Given → List Numbered → List TileReport
told_of g scripts = map (λ s. tile_report g s.0 s.1) scripts

-- what each trial cost, tile by tile
unfoldable pub trials_of : Given → List Numbered → List TrialCost
trials_of g scripts = flat_map (λ s. costs_of g s.0 s.1) scripts

-- the report of a unit
abbrev pub report_of : PlainUnit → ReportLists
report_of u = record { tiles = told_of u.given (numbered u); trials = trials_of u.given (numbered u) }
