use Rattle.std.proofs.Common.{ap, ◌∙◌}
use Rattle.av1_blocks.specs.declared.block.Block.{Block}
use Rattle.av1_blocks.specs.Grid.{Grid}
use Rattle.av1_mvref.specs.References.{counts}
use Rattle.av1_step.proofs.DeltaSteps.{as_before}
use Rattle.av1_step.proofs.InterArms.{has_entered, ready_there, counts_there, refs_there_are, coded_there}
use Rattle.av1_step.proofs.inter_steps.code_ref_frames.Goals as goal

pub write_ref_frames-coded-requires-clause-ready : goal.write_ref_frames-coded-requires-clause-ready
write_ref_frames-coded-requires-clause-ready g c =
    let grid = c.args.cw.now.bc.blocks in
    let bo = c.args.bo.0 in
    let next = c.set_block.new.self in
    let counted = c.ref_counts-block.ensures ∙ ap (λ (k : Grid). counts k bo) c.as_const.ensures in
    let is = has_entered grid next bo c.args.refs c.at-before.result.now c.ref_counts-block.result c.at-before.ensures counted c.set_block.ensures in
    ready_there grid next bo c.args.reference_mode c.args.refs c.requires.whole c.requires.inside is c.requires.ready c.requires.refs

pub write_ref_frames-coded-requires-clause-counts : goal.write_ref_frames-coded-requires-clause-counts
write_ref_frames-coded-requires-clause-counts g c =
    let grid = c.args.cw.now.bc.blocks in
    let bo = c.args.bo.0 in
    let next = c.set_block.new.self in
    let counted = c.ref_counts-block.ensures ∙ ap (λ (k : Grid). counts k bo) c.as_const.ensures in
    let is = has_entered grid next bo c.args.refs c.at-before.result.now c.ref_counts-block.result c.at-before.ensures counted c.set_block.ensures in
    counts_there grid next bo c.args.reference_mode c.args.refs c.requires.whole c.requires.inside is

pub write_ref_frames-coded-requires-clause-refs : goal.write_ref_frames-coded-requires-clause-refs
write_ref_frames-coded-requires-clause-refs g c =
    let grid = c.args.cw.now.bc.blocks in
    let bo = c.args.bo.0 in
    let next = c.set_block.new.self in
    let counted = c.ref_counts-block.ensures ∙ ap (λ (k : Grid). counts k bo) c.as_const.ensures in
    let is = has_entered grid next bo c.args.refs c.at-before.result.now c.ref_counts-block.result c.at-before.ensures counted c.set_block.ensures in
    refs_there_are grid next bo c.args.reference_mode c.args.refs c.requires.whole c.requires.inside is c.requires.refs

pub returns-clause-wrote : goal.returns-clause-wrote
returns-clause-wrote g c =
    let grid = c.args.cw.now.bc.blocks in
    let bo = c.args.bo.0 in
    let next = c.set_block.new.self in
    let counted = c.ref_counts-block.ensures ∙ ap (λ (k : Grid). counts k bo) c.as_const.ensures in
    let is = has_entered grid next bo c.args.refs c.at-before.result.now c.ref_counts-block.result c.at-before.ensures counted c.set_block.ensures in
    coded_there grid next bo c.args.reference_mode c.args.refs c.requires.whole c.requires.inside is _ _ _ c.write_ref_frames-coded.ensures.wrote

pub returns-clause-rest : goal.returns-clause-rest
returns-clause-rest g c =
    let old = c.args.cw.now.bc in
    let bo = c.args.bo.0 in
    as_before old c.write_ref_frames-coded.new.self.bc bo _ (λ (x : Block). c.at-before.result.now) c.set_block.new.self c.set_block-2.new.self c.requires.whole c.requires.inside c.set_block.ensures c.write_ref_frames-coded.ensures.rest c.set_block-2.ensures c.at-before.ensures
