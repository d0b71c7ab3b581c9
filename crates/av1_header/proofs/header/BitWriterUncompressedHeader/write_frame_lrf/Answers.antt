use Rattle.std.proofs.Common.{refl, ap}
use Rattle.av1_header.specs.Filters.{lr_params}
use Rattle.av1_header.proofs.Calls.{all_rows, by_rows}
use Rattle.av1_header.proofs.header.BitWriterUncompressedHeader.write_frame_lrf.Goals as goal

pub returns : goal.returns
returns c = all_rows _ _ _ _ _ _ _ _ (by_rows _ _ _ _ _ _ _ _ c.write_restoration.ensures (ap (λ m. lr_params c.args.fi.now.sequence.enable_restoration m) c.color_of-color.ensures)) refl c.outcome.ensures.ok c.outcome.ensures.err
