use Rattle.std.proofs.Common.{refl, ap}
use Rattle.av1_header.specs.Deltas.{going_on, loop_filter_params}
use Rattle.av1_header.proofs.Calls.{all_rows, by_rows, by_values}
use Rattle.av1_header.proofs.header.BitWriterUncompressedHeader.write_deblock_filter_b.Goals as goal

pub returns : goal.returns
returns c = all_rows _ _ _ _ _ _ _ _ (by_rows _ _ _ _ _ _ _ _ (by_values _ _ _ _ _ _ _ _ c.write_loop_filter.ensures (ap (going_on c.args.deblock.now) c.deltas_before-before.ensures)) (ap loop_filter_params c.is_monochrome-mono.ensures)) refl c.outcome.ensures.ok c.outcome.ensures.err
