-- The marks of trials that have begun, one in the other.
use Rattle.std.specs.Prelude.{◌≡◌, ◌≤◌, IsTrue, List, [], ◌∷◌}
use Rattle.av1_cdf.specs.Context.{AreCdfs}
use Rattle.av1_cdf.specs.Log.{IsReached as HasSaves, IsWithin}
use Rattle.av1_cdf.specs.declared.log.CDFContextLog.{CDFContextLog}
use Rattle.av1_ec.specs.Checkpoint.{reach}
use Rattle.av1_ec.specs.Rate.{tell_frac_at}
use Rattle.av1_ec.specs.declared.known.Known.{Ghosts}
use Rattle.av1_step.specs.declared.tile.TileState.{TileState}
use Rattle.av1_step.specs.declared.trial.TrialMark.{TrialMark}
use Rattle.av1_step.specs.Kept.{IsKept}
use Rattle.av1_step.specs.Mark.{back_to, IsOfTile}
use Rattle.av1_step.specs.State.{tile_of, log_of}
use Rattle.av1_step.specs.Tile.{Tile}
use Rattle.av1_tile.specs.Trials.{same_superblock}

-- a mark and a later one are of one superblock, and neither what was told nor what was counted falls to the later one
pub record IsBefore (m later : TrialMark) : Type 0 where
  pub near : IsTrue (same_superblock m.place.0 later.place.0)
  pub told : m.tell ≤ later.tell
  pub stored : reach m.writer ≤ reach later.writer
  pub saves : IsWithin m.context.fc later.context.fc

abbrev pub IsBeforeAll : TrialMark → List TrialMark → Type 0
IsBeforeAll m [] = Unit {0}
IsBeforeAll m (later ∷ marks) = IsBefore m later × IsBeforeAll m marks

-- `writer` has the words of the writers W
module _ {W : Type 0} (writer : Ghosts W) where
  -- Writer and tile can go back to a mark: both have what the mark counts, its blocks are of its superblock of the tile, and the tile that it gives keeps what
  -- every tile keeps. No less was told, by the writer as it is and as it was, than the mark says.
  pub record CanGoBack (w : W) (log : CDFContextLog) (t : Tile) (m : TrialMark) : Type 0 where
    pub reached : writer.IsReached w m.writer
    pub saves : HasSaves log m.context.fc
    pub of_tile : IsOfTile m t
    pub kept : IsKept (back_to m log t)
    pub cdfs : AreCdfs (back_to m log t).numbers
    pub told : m.tell ≤ tell_frac_at (writer.position_at w m.writer)
    pub told_by_now : m.tell ≤ tell_frac_at (writer.position w)
    pub stored : reach m.writer ≤ writer.stored w

  -- the marks of trials that have begun one in the other, the innermost last: each can be gone back to, and comes before the later ones
  abbrev pub AreMarks : W → TileState → List TrialMark → Type 0
  AreMarks w s [] = Unit {0}
  AreMarks w s (m ∷ marks) = CanGoBack w (log_of s) (tile_of s) m × IsBeforeAll m marks × AreMarks w s marks

  -- going back to a mark gives what it gave before
  pub record StandsStill (w later : W) (old new : TileState) (m : TrialMark) : Type 0 where
    pub position : writer.position_at later m.writer ≡ writer.position_at w m.writer
    pub tile : back_to m (log_of new) (tile_of new) ≡ back_to m (log_of old) (tile_of old)

  abbrev pub AllStandStill : W → W → TileState → TileState → List TrialMark → Type 0
  AllStandStill w later old new [] = Unit {0}
  AllStandStill w later old new (m ∷ marks) = StandsStill w later old new m × AllStandStill w later old new marks
