use Rattle.std.proofs.Common.{refl, ap}
use Rattle.av1_header.specs.Sizes.{frame_size}
use Rattle.av1_header.proofs.Calls.{all_rows, by_rows}
use Rattle.av1_header.proofs.header.BitWriterUncompressedHeader.write_frame_size.Goals as goal

pub returns : goal.returns
returns c = all_rows _ _ _ _ _ _ _ _ (by_rows _ _ _ _ _ _ _ _ c.write_own_size.ensures (ap (λ m. frame_size c.args.fi.now.frame_size_override_flag m) c.max_size.ensures.value)) refl c.outcome.ensures.ok c.outcome.ensures.err
