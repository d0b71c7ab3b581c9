use Rattle.av1_geometry.specs.declared.prediction_mode.PredictionMode.TheVariants.{DC_PRED}
use Rattle.av1_input.specs.Item.{compound_mode, prediction_rows, nothing}
use Rattle.av1_input.specs.Rows.{closed}
use Rattle.av1_input.proofs.Rows.{here, rest, ◌▸◌}
use Rattle.av1_input.proofs.item.compound_mode.Goals as goal

pub returns : goal.returns
returns c = rest c.finish.result (here (closed compound_mode) prediction_rows (nothing DC_PRED) c.args.members ▸ c.required-answer.ensures) c.finish.ensures
