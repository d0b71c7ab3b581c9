use Rattle.std.proofs.Common.{arith}
use Rattle.av1_ec.proofs.Encoding.{masked, entry_fits}
use Rattle.av1_ec.proofs.precarry.leave.Goals as goal

pub overflow_cast-low : goal.overflow_cast-low
overflow_cast-low c = record { fits = entry_fits c.args.low.now c.args.weight.now c.requires.least c.requires.low }

pub returns-clause-low : goal.returns-clause-low
returns-clause-low c = masked c.args.low.now _ (omega arith)
