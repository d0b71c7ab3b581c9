use Rattle.std.proofs.Common.{refl}
use Rattle.av1_header.proofs.Calls.{all_rows}
use Rattle.av1_header.proofs.header.BitWriterUncompressedHeader.write_sequence_header_obu.Goals as goal

pub returns : goal.returns
returns c = all_rows _ _ _ _ _ _ _ _ c.write_sequence.ensures refl c.outcome.ensures.ok c.outcome.ensures.err
