-- What is coded of a tile.
use Rattle.std.specs.Prelude.{◌≡◌, ℕ, List, [], Option, Some, map, length, slice_index_or}
use Rattle.av1_model.specs.Interval.{Interval, bits, final_bytes}
use Rattle.av1_model.specs.Reading.{Coding}
use Rattle.av1_tile.specs.declared.error.UnitError.{UnitError}
use Rattle.av1_tile.specs.declared.report.TileReport.{TileReport}
use Rattle.av1_tile.specs.declared.report.TrialCost.{TrialCost}
use Rattle.av1_step.specs.declared.unit.Item.{Item}
use Rattle.av1_step.specs.declared.unit.Unit.{Unit}
use Rattle.av1_step.specs.Given.{Given, given_of}
use Rattle.av1_step.specs.Script.{begin, read_steps}
use Rattle.av1_step.specs.Step.{question_of}
use Rattle.av1_step.specs.Tile.{Tile}
use Rattle.av1_tile.specs.Trials.{Progress, surviving, moved_all, first_wrong}

-- before the first item
abbrev pub started : Coding Tile → Progress
started at = record { at = at; trials = []; costs = [] }

-- the items of tile number k
abbrev pub script_of : Unit → ℕ → List Item
script_of u k = slice_index_or u.scripts.items k []

-- how far these items of tile number k come
abbrev pub progress : Given → ℕ → List Item → Progress
progress g k items = moved_all 0 (started (begin g k)) items

-- the first thing that is wrong with them
abbrev pub wrong_in : Given → ℕ → List Item → Option UnitError
wrong_in g k items = first_wrong 0 (started (begin g k)) items

-- the interval where coding them ends
abbrev pub ending : Given → ℕ → List Item → Interval
ending g k items = (progress g k items).at.interval

-- where coding tile number k of a unit ends
abbrev pub end_of : Unit → ℕ → Interval
end_of u k = ending (given_of u) k (script_of u k)

-- what their trials cost
abbrev pub costs_of : Given → ℕ → List Item → List TrialCost
costs_of g k items = (progress g k items).costs

-- what is told of the tile
abbrev pub tile_report : Given → ℕ → List Item → TileReport
tile_report g k items = record { bytes = length (final_bytes (ending g k items)); bits = bits (ending g k items) }

-- A reader that is led by what is given of a tile and by the questions of the steps that survive takes exactly those steps from
-- the tile. The tile is the final bytes of the interval where that reading ends, and its bytes and bits are told.
pub record IsTile (g : Given) (k : ℕ) (items : List Item) (tile : List ℕ) (told : TileReport) : Type 0 where
  pub end : Coding Tile
  pub reads_back : read_steps (map question_of (surviving items)) tile (begin g k) ≡ Some (surviving items, end)
  pub final : tile ≡ final_bytes end.interval
  pub reported : told ≡ record { bytes = length tile; bits = bits end.interval }
