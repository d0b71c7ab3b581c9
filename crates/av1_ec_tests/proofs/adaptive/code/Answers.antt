use Rattle.std.proofs.Common.{arith}
use Rattle.av1_cdf.specs.Slots.{slot_of}
use Rattle.av1_cdf.proofs.Cells.{slot_within}
use Rattle.av1_ec_tests.proofs.adaptive.code.Goals as goal

pub symbol_with_update-requires-clause-cdf : goal.symbol_with_update-requires-clause-cdf
symbol_with_update-requires-clause-cdf g c = c.requires.cdfs.valid (slot_of c.args.cdf) c.args.cdf.is_slot

pub symbol_with_update-requires-clause-s : goal.symbol_with_update-requires-clause-s
symbol_with_update-requires-clause-s g c = omega (arith, (slot_within c.args.cdf.place c.args.cdf.len c.args.cdf.is_slot).1)
