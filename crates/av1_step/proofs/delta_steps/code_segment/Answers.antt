use Rattle.std.proofs.Common.{◌≡◌, false, ap, rules}
use Rattle.av1_blocks.specs.declared.block.Block.{Block}
use Rattle.av1_blocks.specs.Grid.{block_at}
use Rattle.av1_step.proofs.DeltaSteps.{as_before, segment_as, segment_here, segment_none}
use Rattle.av1_step.proofs.delta_steps.code_segment.Goals as goal

pub write_segmentation-coded-requires-clause-segment : goal.write_segmentation-coded-requires-clause-segment
write_segmentation-coded-requires-clause-segment g c off =
    let grid = c.args.cw.now.bc.blocks in
    let bo = c.args.bo.0 in
    let unskipped : (block_at grid bo.x bo.y).skip ≡ false = search rules in
    segment_here grid c.set_segmentation_idx.new.self bo (block_at grid bo.x bo.y).skip c.args.last c.args.segment c.requires.whole c.requires.inside unskipped c.requires.segment c.set_segmentation_idx.ensures

pub returns-then-before-clause-wrote : goal.returns-then-before-clause-wrote
returns-then-before-clause-wrote g c =
    let grid = c.args.cw.now.bc.blocks in
    let bo = c.args.bo.0 in
    segment_none grid bo (block_at grid bo.x bo.y).skip c.args.last c.args.segment _ (search rules) c.requires.segment

pub returns-clause-wrote : goal.returns-clause-wrote
returns-clause-wrote g c =
    let grid = c.args.cw.now.bc.blocks in
    let bo = c.args.bo.0 in
    let off : (block_at grid bo.x bo.y).skip ≡ false = search rules in
    segment_as _ grid c.set_segmentation_idx.new.self bo (block_at grid bo.x bo.y).skip c.args.last c.args.segment _ _ c.requires.whole c.requires.inside off c.set_segmentation_idx.ensures c.write_segmentation-coded.ensures.wrote

pub returns-clause-rest : goal.returns-clause-rest
returns-clause-rest g c =
    let old = c.args.cw.now.bc in
    let bo = c.args.bo.0 in
    let b = block_at old.blocks bo.x bo.y in
    let n = c.at-before.result.now.segmentation_idx in
    let same : n ≡ b.segmentation_idx = ap (λ (x : Block). x.segmentation_idx) c.at-before.ensures in
    as_before old c.write_segmentation-coded.new.self.bc bo (λ x. record x { segmentation_idx = c.args.segment }) (λ x. record x { segmentation_idx = n }) c.set_segmentation_idx.new.self c.set_segmentation_idx-2.new.self
    c.requires.whole c.requires.inside c.set_segmentation_idx.ensures c.write_segmentation-coded.ensures.edges c.set_segmentation_idx-2.ensures (ap (λ m. record b { segmentation_idx = m }) same)
