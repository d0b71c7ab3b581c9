use Rattle.av1_tile.proofs.Neutral.{trial_undone}
use Rattle.av1_tile.proofs.laws.law_of_trials.Goals as goal

pub returns : goal.returns
returns g c place items from to own all = trial_undone g.W.Known place items from to own all
