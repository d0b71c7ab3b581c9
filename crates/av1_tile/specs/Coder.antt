-- A tile on its way stands for how far its script has come.
use Rattle.std.specs.Prelude.{◌≡◌, ℕ, ◌+◌, ◌*◌, ◌^◌, ◌≤◌, List, [], ◌∷◌, ◌++◌, false, length}
use Rattle.av1_ec.specs.declared.known.Known.{Ghosts}
use Rattle.av1_ec.specs.Recorder.{tokens_at}
use Rattle.av1_model.specs.Eighths.{eighths}
use Rattle.av1_model.specs.Interval.{Interval, Token, whole}
use Rattle.av1_model.specs.Position.{Position, advance_all, encoder_at}
use Rattle.av1_tile.specs.declared.coding.TileCoder.{TileCoder}
use Rattle.av1_tile.specs.declared.report.TrialCost.{TrialCost}
use Rattle.av1_step.specs.declared.tile.TileState.{TileState}
use Rattle.av1_step.specs.declared.trial.TrialMark.{TrialMark}
use Rattle.av1_step.specs.Mark.{back_to}
use Rattle.av1_tile.specs.Marks.{AreMarks}
use Rattle.av1_step.specs.State.{tile_of, log_of}
use Rattle.av1_step.specs.Sound.{IsSound}
use Rattle.av1_tile.specs.Trials.{Trial, Progress}

-- the cost of a trial that has not ended, which is not known yet
abbrev pub unknown_cost : Trial → TrialCost
unknown_cost t = record { tile = t.start.context.number; item = t.item; eighths = 0; kept = false }

-- all costs, in the order of the trials' beginnings
abbrev pub all_costs : List Trial → List TrialCost → List TrialCost
all_costs [] costs = costs
all_costs (t ∷ ts) costs = all_costs ts costs ++ (unknown_cost t ∷ t.inner)

-- the places of the costs of the trials that have begun
abbrev pub begun_of : List Trial → List TrialCost → List ℕ
begun_of [] costs = []
begun_of (t ∷ ts) costs = begun_of ts costs ++ length (all_costs ts costs) ∷ []

-- of a writer that has stored nothing
abbrev pub IsNew : Position → Type 0
IsNew p = (p.range ≡ 32768) × (p.shift ≡ 0) × (p.fake ≡ 0)

-- a new encoder got a recorder's tokens
abbrev pub IsReplayed : Position → Position → Type 0
IsReplayed recorder encoder = encoder ≡ advance_all (encoder_at whole) (tokens_at recorder)

-- a writer that was new at `start` stored tokens by which a new encoder comes to this interval
pub record HasCoded (start position : Position) (i : Interval) : Type 0 where
  pub new : IsNew start
  pub tokens : List Token
  pub stored : position ≡ advance_all start tokens
  pub encoded : advance_all (encoder_at whole) tokens ≡ encoder_at i

-- `writer` has the words of the writers W
module _ {W : Type 0} (writer : Ghosts W) where
  -- a mark keeps the beginning of a trial
  pub record MarkIs (start : Position) (w : W) (tile : TileState) (m : TrialMark) (t : Trial) : Type 0 where
    pub place_is : m.place.0 ≡ t.place
    pub told : m.tell ≡ eighths t.start.interval
    pub coded : HasCoded start (writer.position_at w m.writer) t.start.interval
    pub back : back_to m (log_of tile) (tile_of tile) ≡ t.start.context
    pub sound : IsSound t.start

  -- marks keep the beginnings of trials, the innermost last
  abbrev pub MarksAre : Position → W → TileState → List TrialMark → List Trial → Type 0
  MarksAre start w tile marks [] = marks ≡ []
  MarksAre start w tile marks (t ∷ ts) = (outer : List TrialMark) × (m : TrialMark) × (marks ≡ outer ++ m ∷ []) × MarkIs start w tile m t
      × MarksAre start w tile outer ts

  -- tile, writer, marks and costs are those of a script's progress
  pub record StandsAt (start : Position) (tile : TileState) (w : W) (marks : List TrialMark) (begun : List ℕ) (costs : List TrialCost)
      (p : Progress) : Type 0 where
    pub tile_is : tile_of tile ≡ p.at.context
    pub coded : HasCoded start (writer.position w) p.at.interval
    pub marks_stand : AreMarks writer w tile marks
    pub marks_are : MarksAre start w tile marks p.trials
    pub begun_are : begun ≡ begun_of p.trials p.costs
    pub costs_are : costs ≡ all_costs p.trials p.costs
    pub sound : IsSound p.at
    pub few : eighths p.at.interval ≤ 8 * (2 ^ 28 + 2 ^ 24)

  -- a coder whose writer was new at `start` has come so far in a script
  abbrev pub HasTaken : Position → TileCoder W → Progress → Type 0
  HasTaken start c p = StandsAt start c.tile c.writer c.marks.items c.costs.begun.items c.costs.all.items p

  -- it has come somewhere in some script
  abbrev pub Stands : TileCoder W → Type 0
  Stands c = (start : Position) × (p : Progress) × HasTaken start c p

  -- of every progress that it can have come to, this holds
  abbrev pub Knows : TileCoder W → (Progress → Type 0) → Type 0
  Knows c P = (start : Position) (p : Progress) → HasTaken start c p → P p

  -- the progress went by f
  abbrev pub Proceeds : TileCoder W → TileCoder W → (Progress → Progress) → Type 0
  Proceeds old new f = (start : Position) (p : Progress) → HasTaken start old p → HasTaken start new (f p)
