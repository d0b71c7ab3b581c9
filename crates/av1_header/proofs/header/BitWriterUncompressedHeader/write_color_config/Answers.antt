use Rattle.std.proofs.Common.{refl, ap}
use Rattle.av1_header.specs.Color.{color_config}
use Rattle.av1_header.proofs.Calls.{all_rows, by_rows}
use Rattle.av1_header.proofs.header.BitWriterUncompressedHeader.write_color_config.Goals as goal

pub returns : goal.returns
returns c = all_rows _ _ _ _ _ _ _ _ (by_rows _ _ _ _ _ _ _ _ c.write_color.ensures (ap color_config c.profile_of.ensures)) refl c.outcome.ensures.ok c.outcome.ensures.err
