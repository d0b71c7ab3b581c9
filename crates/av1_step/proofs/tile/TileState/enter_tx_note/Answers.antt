use Rattle.std.proofs.Common.{◌≡◌, Some, sym, subst, rules}
use Rattle.av1_step.specs.declared.step.TileStep.TheVariants.{TxNote}
use Rattle.av1_step.specs.Kept.{IsKept}
use Rattle.av1_step.specs.State.{tile_of}
use Rattle.av1_step.specs.Step.{entered}
use Rattle.av1_step.specs.TransformSteps.{note, tx_note_kind}
use Rattle.av1_step.proofs.Arms.{block_within}
use Rattle.av1_step.proofs.OfCurrent.{current_there}
use Rattle.av1_step.proofs.StepLaws.{kept_after}
use Rattle.av1_step.proofs.TransformArms.{note_entered}
use Rattle.av1_step.proofs.tile.TileState.enter_tx_note.Goals as goal

pub unwrap-size-requires : goal.unwrap-size-requires
unwrap-size-requires c = let t = tile_of c.args.self.now in current_there note (tx_note_kind t) t.current tt c.requires

pub update_tx_size_context-requires-clause-column : goal.update_tx_size_context-requires-clause-column
update_tx_size_context-requires-clause-column c =
    let current : c.args.self.now.current ≡ Some c.unwrap-size.result = search rules in
    (block_within (tile_of c.args.self.now) c.unwrap-size.result.0.0 c.unwrap-size.result.1 c.args.self.now.kept (c.args.self.now.kept.current c.unwrap-size.result current)).0

pub update_tx_size_context-requires-clause-row : goal.update_tx_size_context-requires-clause-row
update_tx_size_context-requires-clause-row c =
    let current : c.args.self.now.current ≡ Some c.unwrap-size.result = search rules in
    (block_within (tile_of c.args.self.now) c.unwrap-size.result.0.0 c.unwrap-size.result.1 c.args.self.now.kept (c.args.self.now.kept.current c.unwrap-size.result current)).1

pub returns-clause-tile : goal.returns-clause-tile
returns-clause-tile c =
    let t = tile_of c.args.self.now in
    let current : t.current ≡ Some c.unwrap-size.result = search rules in
    note_entered t c.unwrap-size.result c.standing_at-block.result c.is_skipped_inter-skip.result c.update_tx_size_context.new.self current c.standing_at-block.ensures c.is_skipped_inter-skip.ensures c.update_tx_size_context.ensures

pub invariant_of-self : goal.invariant_of-self
invariant_of-self c =
    let t = tile_of c.args.self.now in
    let current : t.current ≡ Some c.unwrap-size.result = search rules in
    let e : record t { bc = c.update_tx_size_context.new.self } ≡ entered TxNote t =
    note_entered t c.unwrap-size.result c.standing_at-block.result c.is_skipped_inter-skip.result c.update_tx_size_context.new.self current c.standing_at-block.ensures c.is_skipped_inter-skip.ensures c.update_tx_size_context.ensures in
    record { cdfs = c.args.self.now.cdfs; kept = subst IsKept (sym e) (kept_after TxNote t.numbers t c.args.self.now.cdfs c.args.self.now.kept c.requires); switches = c.args.self.now.switches }
