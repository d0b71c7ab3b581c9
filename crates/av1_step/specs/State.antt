-- The tile that a state of the program stands for.
use Rattle.std.specs.Prelude.{ℕ, List}
use Rattle.av1_cdf.specs.Log.{undone}
use Rattle.av1_cdf.specs.declared.log.CDFContextCheckpoint.{CDFContextCheckpoint}
use Rattle.av1_cdf.specs.declared.log.CDFContextLog.{CDFContextLog}
use Rattle.av1_step.specs.declared.tile.TileState.{TileState}
use Rattle.av1_step.specs.Place.{tile_at}
use Rattle.av1_step.specs.Tile.{Tile}

abbrev pub tile_of : TileState → Tile
tile_of s = tile_at s.unit.now s.number s.cw s.rs s.current s.uv s.cands s.pick

-- what can be undone of its numbers
abbrev pub log_of : TileState → CDFContextLog
log_of s = s.cw.fc_log

-- the numbers that a checkpoint of its log stands for
abbrev pub numbers_at : TileState → CDFContextCheckpoint → List ℕ
numbers_at s c = undone (log_of s) (tile_of s).numbers c
