-- What a reader is given of a unit: nothing of its scripts. And where the tiles of a frame lie.
use Rattle.std.specs.Prelude.{◌≡◌, ℕ, ◌-◌, ◌*◌, ◌/◌, ◌%◌, ◌^◌, ◌≤◌, min, List, Bool, not, Option, None}
use Rattle.av1_cdf.specs.Tables.{table_rules}
use Rattle.av1_coef.specs.Scans.{scans_rules}
use Rattle.av1_frame.specs.declared.frame.FrameInvariants.{FrameInvariants}
use Rattle.av1_frame.specs.declared.metadata.Metadata.{Metadata}
use Rattle.av1_frame.specs.declared.reference.RefState.{RefState}
use Rattle.av1_frame.specs.declared.state.FrameState.{FrameState}
use Rattle.av1_frame.specs.FrameRules.{frame_rules}
use Rattle.av1_frame.specs.HeaderRules.{blocks}
use Rattle.av1_frame.specs.SequenceRules.{sequence_rules}
use Rattle.av1_frame.specs.TileRules.{tiling_of}
use Rattle.av1_geometry.specs.Rules.{first_broken}
use Rattle.av1_geometry.specs.declared.error.Rule.{Rule}
use Rattle.av1_step.specs.declared.unit.Unit.{Unit}

pub record Given : Type 0 where
  pub tables : List (List ℕ)
  pub scans : List (List (List ℕ))
  pub fi : FrameInvariants
  pub fs : FrameState
  pub refs : List (Option RefState)
  pub metadata : List Metadata
  pub delimiter : Bool
  pub eob_by_coded : Bool

abbrev pub given_of : Unit → Given
given_of u = record {
  tables = u.tables;
  scans = u.scans;
  fi = u.fi;
  fs = u.fs;
  refs = u.refs;
  metadata = u.metadata.items;
  delimiter = u.delimiter;
  eob_by_coded = u.eob_by_coded;
}

-- whether the distributions of a frame learn
abbrev pub learns_of : FrameInvariants → Bool
learns_of fi = not fi.disable_cdf_update

-- the first rule that scans break
unfoldable pub broken_scan_rule : List (List (List ℕ)) → Option Rule
broken_scan_rule scans = first_broken (scans_rules scans)

-- its tables, scans, sequence and frame break no rule
pub record IsGiven (g : Given) : Type 0 where
  pub tables : first_broken (table_rules g.tables) ≡ None
  pub scans : broken_scan_rule g.scans ≡ None
  pub sequence : first_broken (sequence_rules g.fi.sequence) ≡ None
  pub frame : first_broken (frame_rules g.fi g.fs g.refs) ≡ None

-- how many tiles a frame has
abbrev pub tile_count : FrameInvariants → ℕ
tile_count fi = (tiling_of fi).cols * (tiling_of fi).rows

-- the 4x4 blocks of a tile's side: 16 for each superblock
abbrev pub tile_span : ℕ → ℕ
tile_span side = 16 * side

-- the column of the frame where tile number k begins, in 4x4 blocks, and its row: tiles are numbered row by row
abbrev pub tile_left : FrameInvariants → ℕ → ℕ
tile_left fi k = (k % (tiling_of fi).cols) * tile_span fi.tile_width_sb

abbrev pub tile_top : FrameInvariants → ℕ → ℕ
tile_top fi k = (k / (tiling_of fi).cols) * tile_span fi.tile_height_sb

-- how many columns and rows it has: those up to the next tile, or to the frame's end
abbrev pub tile_cols : FrameInvariants → ℕ → ℕ
tile_cols fi k = min (tile_span fi.tile_width_sb) (blocks fi.width - tile_left fi k)

abbrev pub tile_rows : FrameInvariants → ℕ → ℕ
tile_rows fi k = min (tile_span fi.tile_height_sb) (blocks fi.height - tile_top fi k)

-- the sides of a frame and of its tiles are within their ranges
pub record IsCut (fi : FrameInvariants) : Type 0 where
  pub width : (1 ≤ fi.width) × (fi.width ≤ 65536)
  pub height : (1 ≤ fi.height) × (fi.height ≤ 65536)
  pub few : blocks fi.width * blocks fi.height ≤ 2 ^ 22
  pub tile_width : (1 ≤ fi.tile_width_sb) × (fi.tile_width_sb ≤ 64)
  pub tile_height : (1 ≤ fi.tile_height_sb) × (fi.tile_height_sb ≤ 1024)
