use Rattle.av1_model.proofs.Bytes.{held_by_earlier, holds_doubled, undoubled}
use Rattle.av1_model.proofs.interval.law_of_held_bytes.Goals as goal

pub returns-clause-units : goal.returns-clause-units
returns-clause-units c bytes i d = (undoubled bytes d i, holds_doubled bytes d i)

pub returns-clause-earlier : goal.returns-clause-earlier
returns-clause-earlier c bytes i t v w h = held_by_earlier bytes i t v w h
