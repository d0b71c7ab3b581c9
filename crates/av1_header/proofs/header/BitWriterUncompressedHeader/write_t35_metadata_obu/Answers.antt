use Rattle.std.proofs.Common.{refl}
use Rattle.av1_header.proofs.Calls.{whole_rows}
use Rattle.av1_header.proofs.header.BitWriterUncompressedHeader.write_t35_metadata_obu.Goals as goal

pub returns : goal.returns
returns c = whole_rows _ _ _ _ _ _ _ _ _ c.write_t35.ensures refl c.aligned.ensures.ok c.aligned.ensures.grown c.aligned.ensures.err
