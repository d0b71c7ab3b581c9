use Rattle.std.proofs.Common.{◌+◌, ◌∙◌, [], ◌∷◌, ap, codes, arith}
use Rattle.av1_blocks.specs.declared.block.Block.{Block}
use Rattle.av1_cdf.specs.Layout.{Slot, slot}
use Rattle.av1_syntax.specs.Segments.{interleaved, predicted_segment}
use Rattle.av1_syntax.proofs.Segments.{segment_skipped, segment_wrote}
use Rattle.av1_syntax.proofs.Slots.{segmentation_has}
use Rattle.av1_syntax.proofs.context_writer.ContextWriter.write_segmentation.Goals as goal

pub symbol-requires-clause-s : goal.symbol-requires-clause-s
symbol-requires-clause-s g c =
    let long = ap (λ (s : Slot). s.len) c.spatial_segmentation_cdfs-cdf.ensures ∙ (segmentation_has c.get_segment_pred-segment.result.1 c.get_segment_pred-segment.ensures.few).1 in
    omega (arith, long, c.interleave-s.ensures.below, c.from-2.ensures, c.requires.last)

pub returns-then-skip-clause-wrote : goal.returns-then-skip-clause-wrote
returns-then-skip-clause-wrote g c = segment_skipped c.args.self.now.bc.blocks c.args.bo.0 c.args.skip c.args.last_active_segid _ c.if-skip.true

pub returns-clause-wrote : goal.returns-clause-wrote
returns-clause-wrote g c =
    let grid = c.args.self.now.bc.blocks in
    let bo = c.args.bo.0 in
    let last = c.args.last_active_segid in
    let predicted = c.from.ensures ∙ c.get_segment_pred-segment.ensures.segment in
    let idx = c.from-idx.ensures ∙ ap (λ (b : Block). b.segmentation_idx) c.at.ensures in
    let symbol = c.interleave-s.ensures.value ∙ ap (λ n. interleaved (n + 1) c.from.result c.from-idx.result) c.from-2.ensures ∙ ap (λ k. interleaved (last + 1) k c.from-idx.result) predicted ∙ ap (interleaved (last + 1) (predicted_segment grid bo last)) idx in
    segment_wrote c.symbol.result grid bo c.args.skip last c.interleave-s.result _ _ _ c.if-skip.false (c.spatial_segmentation_cdfs-cdf.ensures ∙ ap (λ k. slot (codes "spatial_segmentation_cdfs") (k ∷ [])) c.get_segment_pred-segment.ensures.context)
    (c.requires.segment c.if-skip.false) symbol c.symbol.ensures.ok c.symbol.ensures.err
