-- How a writer and a tile come along a step.
use Rattle.std.specs.Prelude.{◌≡◌, ◌^◌, ℕ, List, Result, OnOk, OnErr}
use Rattle.av1_cdf.specs.Distribution.{coded_by, learnt}
use Rattle.av1_ec.specs.declared.known.Known.{Ghosts}
use Rattle.av1_ec.specs.Moves.{Moves}
use Rattle.av1_model.specs.Comes.{standing, Wrote}
use Rattle.av1_step.specs.declared.tile.TileState.{TileState}
use Rattle.av1_step.specs.declared.step.TileStep.{TileStep}
use Rattle.av1_step.specs.State.{tile_of, log_of}
use Rattle.av1_step.specs.Step.{entered, question_of, syntax_of}
use Rattle.av1_step.specs.Tile.{Tile, with_numbers}

-- the whole path of the step from this tile on, or its beginning where the call is refused; then the numbers are these
abbrev pub WroteStep : {W U E : Type 0} → Ghosts W → Result U E → TileStep → Tile → W → W → List ℕ → Type 0
WroteStep writer result step t old new numbers =
    Wrote coded_by (learnt t.learns) result (syntax_of (question_of step) t) step (standing (writer.position old) t.numbers)
    (standing (writer.position new) numbers)

-- Writes a step: writer and numbers go the step's path, its answer is entered, and each checkpoint stands for what it stood for. A refusal leaves
-- them after a front of the path, and the rest of the state as it was.
pub record Writes {W U E : Type 0} (writer : Ghosts W) (result : Result U E) (step : TileStep) (w later : W) (old new : TileState) : Type 0 where
  pub wrote : WroteStep writer result step (tile_of old) w later (tile_of new).numbers
  pub tile : OnOk result (tile_of new ≡ entered step (with_numbers (tile_of new).numbers (tile_of old)))
  pub refused : OnErr result (tile_of new ≡ with_numbers (tile_of new).numbers (tile_of old))
  pub moves : Moves writer (2 ^ 24) w later (log_of old) (log_of new) (tile_of old).numbers (tile_of new).numbers
