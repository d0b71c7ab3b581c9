-- A mark of a trial: what it keeps, and what going back to it gives.
use Rattle.std.specs.Prelude.{◌≡◌, ◌*◌, ◌/◌, ◌≤◌}
use Rattle.av1_blocks.specs.Edges.{taken}
use Rattle.av1_blocks.specs.GoingBack.{gone_back}
use Rattle.av1_blocks.specs.Places.{sb_column}
use Rattle.av1_blocks.specs.Saved.{IsSavedOf, saved_of}
use Rattle.av1_cdf.specs.Log.{IsReached as HasSaves, IsWithin, undone}
use Rattle.av1_cdf.specs.declared.log.CDFContextCheckpoint.{CDFContextCheckpoint}
use Rattle.av1_cdf.specs.declared.log.CDFContextLog.{CDFContextLog}
use Rattle.av1_ec.specs.Checkpoint.{reach}
use Rattle.av1_ec.specs.Rate.{tell_frac_at}
use Rattle.av1_ec.specs.declared.known.Known.{Ghosts}
use Rattle.av1_ec.specs.declared.storage.WriterCheckpoint.{WriterCheckpoint}
use Rattle.av1_geometry.specs.declared.block_offset.TileBlockOffset.{TileBlockOffset}
use Rattle.av1_step.specs.declared.trial.TrialMark.{TrialMark}
use Rattle.av1_step.specs.Place.{candidates_in}
use Rattle.av1_step.specs.Tile.{Tile, sampling}

-- the tile that a mark goes back to, from one whose log is this
abbrev pub back_to : TrialMark → CDFContextLog → Tile → Tile
back_to m log t = record t {
  numbers = undone log t.numbers m.context.fc;
  bc = gone_back m.context.bc m.blocks t.bc;
  current = m.current;
  uv = m.uv;
  cands = candidates_in m.cands;
  pick = m.pick;
}

-- a mark keeps what a superblock of the tile has
pub record IsOfTile (m : TrialMark) (t : Tile) : Type 0 where
  pub column : sb_column m.context.bc.x ≡ 16 * (m.place.0.x / 16)
  pub sampling_is : m.context.bc.chroma_sampling ≡ sampling t
  pub place : m.blocks.place ≡ record { x = 16 * (m.place.0.x / 16); y = 16 * (m.place.0.y / 16) }
  pub blocks : IsSavedOf t.bc.blocks m.blocks

-- what a mark of now has, at a place
pub record IsMarkOf {W : Type 0} (writer : Ghosts W) (w : W) (log : CDFContextLog) (tile : Tile) (place : TileBlockOffset) (m : TrialMark) : Type 0 where
  pub place_is : m.place ≡ place
  pub tell_is : m.tell ≡ tell_frac_at (writer.position w)
  pub reached : writer.IsReached w m.writer
  pub all_stored : reach m.writer ≡ writer.stored w
  pub position : writer.position_at w m.writer ≡ writer.position w
  pub has_saves : HasSaves log m.context.fc
  pub all_saves : (c : CDFContextCheckpoint) → HasSaves log c → IsWithin c m.context.fc
  pub edges : m.context.bc ≡ taken place.0 (sampling tile) tile.bc
  pub blocks : m.blocks ≡ saved_of (record { x = place.0.x / 16; y = place.0.y / 16 }) tile.bc.blocks
  pub current_is : m.current ≡ tile.current
  pub uv_is : m.uv ≡ tile.uv
  pub cands_are : candidates_in m.cands ≡ tile.cands
  pub pick_is : m.pick ≡ tile.pick
  pub of_tile : IsOfTile m tile
  pub back : back_to m log tile ≡ tile

-- a writer went back to a mark: what was stored before it stays
pub record WentBack {W : Type 0} (writer : Ghosts W) (m : TrialMark) (old new : W) : Type 0 where
  pub position : writer.position new ≡ writer.position_at old m.writer
  pub stored : writer.stored new ≡ reach m.writer
  pub reached : (c : WriterCheckpoint) → reach c ≤ reach m.writer → writer.IsReached old c → writer.IsReached new c
  pub kept : (c : WriterCheckpoint) → reach c ≤ reach m.writer → writer.IsReached old c → writer.position_at new c ≡ writer.position_at old c
