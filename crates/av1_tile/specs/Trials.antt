-- A script: steps, and trials of steps that are kept or given up.
use Rattle.std.specs.Prelude.{◌≡◌, ℕ, ◌+◌, ◌-◌, ◌/◌, ◌&&◌, ◌||◌, ◌==◌, ◌++◌, not, List, [], ◌∷◌}
use Rattle.std.specs.Prelude.{Bool, true, false, Option, Some, None, option_map, nat_lt, if◌then◌else◌, get_or, set}
use Rattle.std.specs.Option.{option_map_or}
use Rattle.av1_model.specs.Eighths.{eighths}
use Rattle.av1_model.specs.Interval.{bits}
use Rattle.av1_model.specs.Reading.{Coding}
use Rattle.av1_geometry.specs.declared.block_offset.BlockOffset.{BlockOffset}
use Rattle.av1_tile.specs.declared.error.Place.TheVariants.{Item as ItemPlace}
use Rattle.av1_tile.specs.declared.error.UnitError.{UnitError}
use Rattle.av1_tile.specs.declared.error.UnitError.TheVariants.{Refused, BadScript, TooLong as TooLongError}
use Rattle.av1_step.specs.declared.error.StepFault.{StepFault}
use Rattle.av1_step.specs.declared.error.StepFault.TheVariants.{TooLong, Broken}
use Rattle.av1_tile.specs.declared.report.TrialCost.{TrialCost}
use Rattle.av1_step.specs.declared.unit.Item.{Item}
use Rattle.av1_step.specs.declared.unit.Item.TheVariants.{Step, Begin, Keep, Abandon}
use Rattle.av1_step.specs.declared.step.TileStep.{TileStep}
use Rattle.av1_step.specs.Tile.{Tile, inside}
use Rattle.av1_geometry.specs.Rules.{Check, first_broken}
use Rattle.av1_step.specs.Step.{is_untried, most_bits, place_of_step, rules}
use Rattle.av1_step.specs.Script.{after_step}

-- The steps that survive: each `Abandon` strikes out everything back to the `Begin` that it ends. `outer` has what
-- survived before each trial that has begun, the innermost first.
abbrev pub surviving_from : List (List TileStep) → List TileStep → List Item → List TileStep
surviving_from outer steps [] = steps
surviving_from outer steps (Step step ∷ items) = surviving_from outer (steps ++ step ∷ []) items
surviving_from outer steps (Begin place ∷ items) = surviving_from (steps ∷ outer) steps items
surviving_from [] steps (Keep ∷ items) = surviving_from [] steps items
surviving_from (before ∷ outer) steps (Keep ∷ items) = surviving_from outer steps items
surviving_from [] steps (Abandon ∷ items) = surviving_from [] steps items
surviving_from (before ∷ outer) steps (Abandon ∷ items) = surviving_from outer before items

abbrev pub surviving : List Item → List TileStep
surviving items = surviving_from [] [] items

-- a trial that has begun: where, by which item, what was coded then, and what the trials that ended in it cost
pub record Trial : Type 0 where
  pub place : BlockOffset
  pub item : ℕ
  pub start : Coding Tile
  pub inner : List TrialCost

-- how far a script has come: what is coded, the trials that have begun and not ended, the innermost first, and what
-- those that ended outside of them cost
pub record Progress : Type 0 where
  pub at : Coding Tile
  pub trials : List Trial
  pub costs : List TrialCost

-- what a trial that ends here cost: how much was coded since its beginning, before it is undone
abbrev pub cost_of : Bool → Coding Tile → Trial → TrialCost
cost_of kept at t = record { tile = at.context.number; item = t.item; eighths = eighths at.interval - eighths t.start.interval; kept = kept }

-- costs, of which number k is told, where it is that of a trial that is there
abbrev pub cost_told : List TrialCost → ℕ → TrialCost → ℕ → Bool → List TrialCost
cost_told costs k other eighths kept = set costs k (record (get_or costs k other) { eighths = eighths; kept = kept })

-- costs join those of the innermost trial, or of the script
abbrev pub with_costs : List TrialCost → Coding Tile → List Trial → List TrialCost → Progress
with_costs more at [] costs = record { at = at; trials = []; costs = costs ++ more }
with_costs more at (t ∷ ts) costs = record { at = at; trials = record t { inner = t.inner ++ more } ∷ ts; costs = costs }

-- the innermost trial ends
abbrev pub ended : Bool → Coding Tile → List Trial → List TrialCost → Progress
ended kept at [] costs = record { at = at; trials = []; costs = costs }
ended kept at (t ∷ ts) costs = with_costs (cost_of kept at t ∷ t.inner) (if kept then at else t.start) ts costs

-- after an item, which is number n
abbrev pub moved : ℕ → Progress → Item → Progress
moved n p (Step step) = record p { at = after_step p.at step }
moved n p (Begin place) = record p { trials = record { place = place.0; item = n; start = p.at; inner = [] } ∷ p.trials }
moved n p Keep = ended true p.at p.trials p.costs
moved n p Abandon = ended false p.at p.trials p.costs

abbrev pub moved_all : ℕ → Progress → List Item → Progress
moved_all n p [] = p
moved_all n p (item ∷ items) = moved_all (n + 1) (moved n p item) items

-- the place of an item: its own, or the current block's
abbrev pub place_of : Item → Tile → Option BlockOffset
place_of (Step step) t = place_of_step step t
place_of (Begin place) t = Some place.0
place_of Keep t = None
place_of Abandon t = None

abbrev pub same_superblock : BlockOffset → BlockOffset → Bool
same_superblock a b = (a.x / 16 == b.x / 16) && (a.y / 16 == b.y / 16)

-- a place lies in another superblock than the innermost trial's
abbrev pub strays : List Trial → Option BlockOffset → Bool
strays [] place = false
strays (t ∷ ts) place = option_map_or (λ at. not (same_superblock at t.place)) place false

abbrev pub no_trial : List Trial → Bool
no_trial [] = true
no_trial (t ∷ ts) = false

-- an item that can't come here: it ends no trial, no trial has it, or it strays from the trial
abbrev pub misplaced : Item → Tile → List Trial → Bool
misplaced (Step step) t trials = (is_untried step && not (no_trial trials)) || strays trials (place_of (Step step) t)
misplaced (Begin place) t trials = strays trials (Some place.0)
misplaced Keep t trials = no_trial trials
misplaced Abandon t trials = no_trial trials

-- the rules of an item, by rising numbers
abbrev pub item_rules : Item → Tile → List Check
item_rules (Step step) t = rules step t
item_rules (Begin place) t = inside place.0 t ∷ []
item_rules Keep t = []
item_rules Abandon t = []

-- a step would begin after too many bits
abbrev pub too_long : Item → Coding Tile → Bool
too_long (Step step) at = nat_lt most_bits (bits at.interval)
too_long (Begin place) at = false
too_long Keep at = false
too_long Abandon at = false

-- what is wrong with an item that may come here
abbrev pub item_fault : Item → Coding Tile → Option StepFault
item_fault item at = if too_long item at then Some TooLong else option_map Broken (first_broken (item_rules item at.context))

-- the error that says what is wrong with item n of tile k
abbrev pub error_of : ℕ → ℕ → StepFault → UnitError
error_of k n TooLong = TooLongError (ItemPlace k n)
error_of k n (Broken r) = Refused (ItemPlace k n) r

-- the first thing that is wrong with items, the first of which is number n
abbrev pub first_wrong : ℕ → Progress → List Item → Option UnitError
first_wrong n p [] = if no_trial p.trials then None else Some (BadScript p.at.context.number n)
first_wrong n p (item ∷ items) =
    if misplaced item p.at.context p.trials then Some (BadScript p.at.context.number n)
    else option_map_or (λ fault. Some (error_of p.at.context.number n fault)) (item_fault item p.at) (first_wrong (n + 1) (moved n p item) items)

-- an item is right here, whatever comes after: what is wrong with items that begin with it is what is wrong with the rest after it
abbrev pub IsRight : ℕ → Progress → Item → Type 0
IsRight n p item = (rest : List Item) → first_wrong n p (item ∷ rest) ≡ first_wrong (n + 1) (moved n p item) rest

-- an item is wrong here, whatever comes after, and this says how
abbrev pub IsWrong : ℕ → Progress → Item → UnitError → Type 0
IsWrong n p item e = (rest : List Item) → first_wrong n p (item ∷ rest) ≡ Some e
