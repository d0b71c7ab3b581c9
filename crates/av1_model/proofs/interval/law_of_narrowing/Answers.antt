use Rattle.av1_model.proofs.Tokens.{narrow_least, narrow_shift, narrow_valid, part_from, part_to, part_wide}
use Rattle.av1_model.proofs.interval.law_of_narrowing.Goals as goal

pub returns-clause-valid : goal.returns-clause-valid
returns-clause-valid c i t v w = narrow_valid i t v w

pub returns-clause-wide : goal.returns-clause-wide
returns-clause-wide c i t v w = part_wide i t v w

pub returns-clause-from : goal.returns-clause-from
returns-clause-from c i t v w = part_from i t

pub returns-clause-to : goal.returns-clause-to
returns-clause-to c i t v w = part_to i t v w

pub returns-clause-least : goal.returns-clause-least
returns-clause-least c i t v w = narrow_least i t v w

pub returns-clause-few : goal.returns-clause-few
returns-clause-few c i t v w = narrow_shift i t v w
