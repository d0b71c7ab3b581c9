use Rattle.av1_geometry.proofs.Numbers.{mode_listed, mode_past, mode_numbered_at}
use Rattle.av1_geometry.proofs.prediction_mode.PredictionMode.from_number.Goals as goal

pub returns-then-number-lt34-clause-listed : goal.returns-then-number-lt34-clause-listed
returns-then-number-lt34-clause-listed c = mode_listed c.args.number _ c.if-number-lt34.true

pub returns-then-number-lt34-clause-value : goal.returns-then-number-lt34-clause-value
returns-then-number-lt34-clause-value c = mode_numbered_at c.args.number _ c.if-number-lt34.true

pub returns-else-number-lt34-clause-listed : goal.returns-else-number-lt34-clause-listed
returns-else-number-lt34-clause-listed c = mode_past c.args.number c.if-number-lt34.false
