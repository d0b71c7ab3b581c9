use Rattle.av1_model.proofs.Costs.{eighths_rise}
use Rattle.av1_model.proofs.cost.law_of_costs.Goals as goal

pub returns : goal.returns
returns c = record { rise = eighths_rise }
