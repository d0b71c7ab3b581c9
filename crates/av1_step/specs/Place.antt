-- A tile of a unit, from the parts that a state of the program has.
use Rattle.std.specs.Prelude.{◌≡◌, ℕ, Bool, Option, option_map}
use Rattle.arrayvec.specs.ArrayVec.{ArrayVec}
use Rattle.av1_geometry.specs.declared.prediction_mode.PredictionMode.{PredictionMode}
use Rattle.av1_mvref.specs.declared.candidate.CandidateMV.{CandidateMV}
use Rattle.av1_mvref.specs.ExtraSearch.{Candidates}
use Rattle.av1_syntax.specs.declared.context_writer.ContextWriter.{ContextWriter}
use Rattle.av1_syntax.specs.declared.restoration.TileRestorationState.{TileRestorationState}
use Rattle.av1_step.specs.declared.unit.Unit.{Unit}
use Rattle.av1_step.specs.Given.{given_of, learns_of}
use Rattle.av1_step.specs.Tile.{Tile, CurrentBlock}

-- the candidates that a state has found, and the context of the mode
abbrev pub FoundCandidates : Type 0
FoundCandidates = Option (ArrayVec CandidateMV × ℕ)

abbrev pub candidates_in : FoundCandidates → Option Candidates
candidates_in o = option_map (λ c. record { list = c.0.items; context = c.1 }) o

abbrev pub tile_at : Unit → ℕ → ContextWriter → TileRestorationState → Option CurrentBlock → Option PredictionMode → FoundCandidates → ℕ → Tile
tile_at u number cw rs current uv cands pick = record {
  given = given_of u;
  number = number;
  numbers = cw.fc;
  learns = learns_of u.fi;
  bc = cw.bc;
  rs = rs;
  current = current;
  uv = uv;
  cands = candidates_in cands;
  pick = pick;
}

-- switches of a writer that are the unit's
pub record AreSwitches (u : Unit) (adapt eob_by_coded : Bool) : Type 0 where
  pub adapt_is : adapt ≡ learns_of u.fi
  pub eob_by_coded_is : eob_by_coded ≡ u.eob_by_coded
