-- One item after another: when it can come, and what it does to tile, writer and marks.
use Rattle.std.specs.Prelude.{◌≡◌, ◌⊎◌, ℕ, zero, suc, ◌==◌, ◌-◌, ◌<◌, IsTrue, List, [], ◌∷◌, ◌++◌, length, Bool}
use Rattle.std.specs.Prelude.{true, false, Option, Some, None, Result, Ok, IsErr, IsOkAnd, IfOk, OnOk, OnErr}
use Rattle.std.specs.Option.{ForSome}
use Rattle.av1_cdf.specs.Log.{KeepsUndone}
use Rattle.av1_ec.specs.Rate.{tell_frac_at}
use Rattle.av1_ec.specs.Storing.{Keeps}
use Rattle.av1_ec.specs.declared.known.Known.{Ghosts}
use Rattle.av1_geometry.specs.declared.block_offset.BlockOffset.{BlockOffset}
use Rattle.av1_geometry.specs.declared.block_offset.TileBlockOffset.{TileBlockOffset}
use Rattle.av1_geometry.specs.declared.error.OutOfMemory.{OutOfMemory}
use Rattle.av1_step.specs.declared.tile.TileState.{TileState}
use Rattle.av1_step.specs.declared.trial.TrialMark.{TrialMark}
use Rattle.av1_step.specs.declared.unit.Item.{Item}
use Rattle.av1_step.specs.declared.unit.Item.TheVariants.{Step, Begin, Keep, Abandon}
use Rattle.av1_step.specs.declared.step.TileStep.{TileStep}
use Rattle.av1_step.specs.Mark.{back_to, IsMarkOf, WentBack}
use Rattle.av1_tile.specs.Marks.{AllStandStill}
use Rattle.av1_step.specs.State.{tile_of, log_of}
use Rattle.av1_step.specs.Step.{entered, is_untried, step_fault}
use Rattle.av1_step.specs.Tile.{Tile, is_inside, with_numbers}
use Rattle.av1_tile.specs.Trials.{place_of, same_superblock}
use Rattle.av1_step.specs.Writing.{WroteStep}

-- a place is in the superblock of the last mark, where there is one
abbrev pub IsNearLast : List TrialMark → BlockOffset → Type 0
IsNearLast marks place = (outer : List TrialMark) (m : TrialMark) → marks ≡ outer ++ m ∷ [] → IsTrue (same_superblock place m.place.0)

-- a step can come after so many bits: it has no fault, it comes outside of all trials if no trial has it, and it is in the superblock of the last mark
abbrev pub MayStep : Tile → ℕ → List TrialMark → TileStep → Type 0
MayStep t bits marks step =
    (step_fault t bits step ≡ None) × (is_untried step ≡ true → marks ≡ []) × ForSome (place_of (Step step) t) (IsNearLast marks)

-- An item can come after so many bits: a step has no fault, a trial that ends has begun, one that begins does so inside the tile,
-- the item is in the superblock of the last mark, and what no trial has comes outside of all trials.
pub record CanCome (t : Tile) (bits : ℕ) (marks : List TrialMark) (item : Item) : Type 0 where
  pub step : (step : TileStep) → item ≡ Step step → step_fault t bits step ≡ None
  pub begun : (item ≡ Keep) ⊎ (item ≡ Abandon) → 0 < length marks
  pub inside : (place : TileBlockOffset) → item ≡ Begin place → is_inside t place.0 ≡ true
  pub near : ForSome (place_of item t) (IsNearLast marks)
  pub outside : (step : TileStep) → item ≡ Step step → is_untried step ≡ true → marks ≡ []

-- from a writer, a tile and marks to those after an item; `writer` has the words of the writers W
module _ {W : Type 0} (writer : Ghosts W) (w later : W) (old new : TileState) (marks left : List TrialMark) where
  -- A step does what `write_step` does. What the log can undo stays, unless it was cleared.
  pub record Steps {E : Type 0} (result : Result (Option ℕ) E) (step : TileStep) : Type 0 where
    pub answer : IfOk result (λ a. a ≡ None)
    pub wrote : WroteStep writer result step (tile_of old) w later (tile_of new).numbers
    pub tile : OnOk result (tile_of new ≡ entered step (with_numbers (tile_of new).numbers (tile_of old)))
    pub refused : OnErr result (tile_of new ≡ with_numbers (tile_of new).numbers (tile_of old))
    pub kept : Keeps writer w later
    pub undone : (0 < length marks) ⊎ IsErr result → KeepsUndone (log_of old) (log_of new) (tile_of old).numbers (tile_of new).numbers
    pub marks_are : left ≡ marks
    pub still : AllStandStill writer w later old new marks

  -- a mark of now is appended, and all else stays
  pub record Begins {E : Type 0} (result : Result (Option ℕ) E) (place : TileBlockOffset) : Type 0 where
    pub answer : IfOk result (λ a. a ≡ None)
    pub tile : new ≡ old
    pub writer_is : later ≡ w
    pub begun : OnOk result ((m : TrialMark) × (left ≡ marks ++ m ∷ []) × IsMarkOf writer w (log_of old) (tile_of old) place m)
    pub refused : OnErr result (left ≡ marks)

  -- The last mark is dropped. The answer is how much was told since; going back to the marks that are left gives what it gave before.
  pub record Ends (answer : Option ℕ) (mark : TrialMark) : Type 0 where
    pub marks_are : marks ≡ left ++ mark ∷ []
    pub told : answer ≡ Some (tell_frac_at (writer.position w) - mark.tell)
    pub still : AllStandStill writer w later old new left

  -- the last mark is dropped, and what was tried stays
  pub record EndsKept (answer : Option ℕ) : Type 0 where
    pub mark : TrialMark
    pub ends : Ends answer mark
    pub tile : tile_of new ≡ tile_of old
    pub writer_is : later ≡ w

  -- the last mark is dropped, and gone back to
  pub record EndsUndone (answer : Option ℕ) : Type 0 where
    pub mark : TrialMark
    pub ends : Ends answer mark
    pub tile : tile_of new ≡ back_to mark (log_of old) (tile_of old)
    pub writer_went : WentBack writer mark w later

  -- what an item does; `Keep` and `Abandon` are never refused
  abbrev pub Takes : {E : Type 0} → Result (Option ℕ) E → Item → Type 0
  Takes result (Step step) = Steps result step
  Takes result (Begin place) = Begins result place
  Takes result Keep = IsOkAnd result EndsKept
  Takes result Abandon = IsOkAnd result EndsUndone

-- where writing stands between two items
pub record Stage (W : Type 0) : Type 0 where
  pub writer : W
  pub tile : TileState
  pub marks : List TrialMark

abbrev pub stage : {W : Type 0} → W → TileState → List TrialMark → Stage W
stage w state left = record { writer = w; tile = state; marks = left }

module _ {W : Type 0} (writer : Ghosts W) where
  -- an item was taken
  abbrev pub TakesOne : Stage W → Stage W → Item → Type 0
  TakesOne from to item = (answer : Option ℕ) × Takes writer from.writer to.writer from.tile to.tile from.marks to.marks {E = OutOfMemory} (Ok answer) item

  -- items were taken, one after another
  abbrev pub TakesAll : Stage W → Stage W → List Item → Type 0
  TakesAll from to [] = to ≡ from
  TakesAll from to (item ∷ items) = (between : Stage W) × TakesOne from between item × TakesAll between to items

-- items end the n innermost trials and each that they begin, and no other
abbrev pub ends_its_own : ℕ → List Item → Bool
ends_its_own n [] = n == 0
ends_its_own n (Step step ∷ items) = ends_its_own n items
ends_its_own n (Begin place ∷ items) = ends_its_own (suc n) items
ends_its_own zero (Keep ∷ items) = false
ends_its_own (suc n) (Keep ∷ items) = ends_its_own n items
ends_its_own zero (Abandon ∷ items) = false
ends_its_own (suc n) (Abandon ∷ items) = ends_its_own n items
