-- The tiles of a unit: what they are on their way, in its bytes, and to a reader.
use Rattle.std.specs.Prelude.{◌≡◌, ℕ, ◌+◌, List, [], ◌∷◌}
use Rattle.av1_step.specs.declared.unit.Item.{Item}
use Rattle.av1_step.specs.Given.{Given}
use Rattle.av1_tile.specs.declared.report.TileReport.{TileReport}
use Rattle.av1_tile.specs.TileBytes.{IsTile}
use Rattle.av1_unit.specs.declared.tiles.CodedTiles.{CodedTiles}
use Rattle.av1_unit.specs.Coded.{Numbered, numbered, tiles_of, told_of, trials_of}
use Rattle.av1_unit.specs.Framing.{framed}
use Rattle.av1_unit.specs.Plain.{PlainUnit}

-- the tiles of these scripts, and what is told of them
abbrev pub coded_of : Given → List Numbered → CodedTiles
coded_of g scripts = record { tiles = tiles_of g scripts; report = record { tiles = told_of g scripts; trials = trials_of g scripts } }

-- the bytes of a unit, whichever way they are made
abbrev pub bytes_of : PlainUnit → List ℕ
bytes_of u = framed u.given (tiles_of u.given (numbered u))

-- the tiles from number k on
abbrev pub AreTiles : Given → ℕ → List (List Item) → List (List ℕ) → List TileReport → Type 0
AreTiles g k [] tiles told = (tiles ≡ []) × (told ≡ [])
AreTiles g k (items ∷ scripts) [] told = ⊥
AreTiles g k (items ∷ scripts) (tile ∷ tiles) [] = ⊥
AreTiles g k (items ∷ scripts) (tile ∷ tiles) (told ∷ more) = IsTile g k items tile told × AreTiles g (k + 1) scripts tiles more
