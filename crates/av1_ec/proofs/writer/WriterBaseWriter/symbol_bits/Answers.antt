use Rattle.std.proofs.Common.{sym}
use Rattle.av1_ec.proofs.writer.WriterBaseWriter.symbol_bits.Goals as goal

pub returns : goal.returns
returns g c = c.symbol_eighths.ensures record { low = 0; range = _; shift = _ } (sym c.tally.ensures.rng)
