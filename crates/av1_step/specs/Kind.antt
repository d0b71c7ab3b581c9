-- A kind of step, in a state of the tile.
use Rattle.std.specs.Prelude.{◌≡◌, ◌^◌, ◌++◌, List, [], ◌∷◌, Bool, true, false, Option, Some, None, is_none}
use Rattle.std.specs.Option.{option_map_or}
use Rattle.av1_cdf.specs.Distribution.{Distribution, HasSymbols}
use Rattle.av1_geometry.specs.Rules.{Check, first_broken, rule}
use Rattle.av1_geometry.specs.declared.block_offset.BlockOffset.{BlockOffset}
use Rattle.av1_model.specs.Element.{Element, choose, nothing, tested, Reads}
use Rattle.av1_model.specs.Syntax.{Syntax, bind}
use Rattle.av1_model.specs.Syntax.Syntax.{Done}
use Rattle.av1_step.specs.declared.step.TileStep.{TileStep}
use Rattle.av1_step.specs.Effect.{Effect}
use Rattle.av1_step.specs.Kept.{AllFit, AllAt}
use Rattle.av1_step.specs.Tile.{Tile, CurrentBlock, place_of_block}

-- A is what the bytes tell of a step
pub record Kind (A : Type 0) : Type 0 where
  -- where the step stands, if it has a place
  pub place : Option BlockOffset
  -- the rules of the question, and those of a step with this answer, by rising numbers
  pub asking : List Check
  pub answering : A → List Check
  -- what a reader does where the question breaks no rule, and the symbols of each answer
  pub element : Element Distribution A
  -- what an answer changes in the state
  pub effects : A → List Effect
  -- the step with an answer
  pub step : A → TileStep

abbrev pub rules_of : {A : Type 0} → Kind A → A → List Check
rules_of k a = k.asking ++ k.answering a

abbrev pub holds : List Check → Bool
holds rules = is_none (first_broken rules)

-- the answers whose rules hold; none where the question breaks a rule
abbrev pub answers : {A : Type 0} → Kind A → Element Distribution A
answers k = choose (holds k.asking) (tested (λ a. holds (k.answering a)) k.element) nothing

-- what a reader does to come to a step
abbrev pub steps : {A : Type 0} → Kind A → Syntax Distribution TileStep
steps k = bind (answers k).tree (λ a. Done (k.step a))

-- What each kind brings in a state of the tile: the answers whose rules hold have one path each, of at most 2^20 symbols; what they change
-- lies in the tile, leaves what every state keeps, and is at the step's place.
pub record IsKind {A : Type 0} (t : Tile) (k : Kind A) : Type 0 where
  pub reads : Reads HasSymbols (answers k) (λ a. holds (rules_of k a) ≡ true) (2 ^ 20)
  pub fit : (a : A) → holds (rules_of k a) ≡ true → AllFit t (k.effects a)
  pub at_place : (a : A) → AllAt k.place (k.effects a)

-- a kind of step of a block, which has the block's place
abbrev pub of_block : {A : Type 0} → CurrentBlock → List Check → (A → List Check) → Element Distribution A → (A → List Effect) → (A → TileStep) → Kind A
of_block b asking answering element effects step = record {
  place = Some (place_of_block b);
  asking = rule 64 true ∷ asking;
  answering = answering;
  element = element;
  effects = effects;
  step = step;
}

-- where no block is the current one, no step of a block can be asked for
abbrev pub of_none : {A : Type 0} → (A → TileStep) → Kind A
of_none step = record { place = None; asking = rule 64 false ∷ []; answering = λ a. []; element = nothing; effects = λ a. []; step = step }

-- a kind of step of the current block
abbrev pub of_current : {A : Type 0} → Option CurrentBlock → (A → TileStep) → (CurrentBlock → Kind A) → Kind A
of_current o step f = option_map_or f o (of_none step)
