use Rattle.av1_ec.proofs.Costs.{digit_least, digits_after}
use Rattle.av1_ec.proofs.frac.log_digit.Goals as goal

pub returns-clause-digits : goal.returns-clause-digits
returns-clause-digits c n = digits_after n c.args.rng c.requires.most

pub returns-clause-least : goal.returns-clause-least
returns-clause-least c = digit_least c.args.rng c.requires.least c.requires.most
