use Rattle.std.proofs.Common.{refl, rules}
use Rattle.av1_header.proofs.Calls.{all_rows, by_values}
use Rattle.av1_header.proofs.header.BitWriterUncompressedHeader.write_delta_q.Goals as goal

pub returns : goal.returns
returns c = all_rows _ _ _ _ _ _ _ _ (by_values _ _ _ _ _ _ _ _ c.write_delta.ensures (search rules)) refl c.outcome.ensures.ok c.outcome.ensures.err
