-- Before the first item.
use Rattle.std.proofs.Common.{◌≡◌, ℕ, List, [], sym, subst, arith}
use Rattle.av1_ec.specs.declared.known.Known.{Ghosts}
use Rattle.av1_model.specs.Position.{Position}
use Rattle.av1_step.specs.declared.tile.TileState.{TileState}
use Rattle.av1_step.specs.declared.trial.TrialMark.{TrialMark}
use Rattle.av1_step.specs.Given.{Given}
use Rattle.av1_step.specs.Script.{begin}
use Rattle.av1_step.specs.Sound.{IsSound}
use Rattle.av1_step.specs.State.{tile_of}
use Rattle.av1_tile.specs.declared.report.TrialCost.{TrialCost}
use Rattle.av1_tile.specs.Coder.{IsNew, StandsAt}
use Rattle.av1_tile.specs.Marks.{AreMarks}
use Rattle.av1_tile.specs.TileBytes.{started}
use Rattle.av1_tile.proofs.Coded.{coded_none}

module _ {W : Type 0} (writer : Ghosts W) (start : Position) where
  -- a fresh tile and a writer that stored nothing stand at the beginning of every script
  pub fresh_stands : (g : Given) (k : ℕ) (tile : TileState) (w : W) (marks : List TrialMark) (places : List ℕ) (costs : List TrialCost)
      → IsSound (begin g k) → tile_of tile ≡ (begin g k).context → IsNew start → writer.position w ≡ start → marks ≡ [] → places ≡ [] → costs ≡ []
      → StandsAt writer start tile w marks places costs (started (begin g k))
  fresh_stands g k tile w marks places costs sound t new p m b c =
      record { tile_is = t; coded = coded_none start (writer.position w) new p; marks_stand = subst (λ (l : List TrialMark). AreMarks writer w tile l) (sym m) tt; marks_are = m; begun_are = b; costs_are = c; sound = sound; few = omega arith }
