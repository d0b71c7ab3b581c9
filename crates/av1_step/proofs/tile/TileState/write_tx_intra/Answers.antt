use Rattle.std.proofs.Common.{◌≡◌, Some, refl, sym, subst, arith, rules}
use Rattle.av1_blocks.specs.declared.block_context.BlockContext.{BlockContext}
use Rattle.av1_blocks.specs.Grid.{IsInside}
use Rattle.av1_step.specs.declared.step.TileStep.TheVariants.{TxIntra}
use Rattle.av1_step.specs.Kept.{IsKept}
use Rattle.av1_step.specs.State.{tile_of}
use Rattle.av1_step.specs.TransformSteps.{tx_intra_kind}
use Rattle.av1_step.proofs.Arms.{writes_whole, writes_front, block_within}
use Rattle.av1_step.proofs.Effects.{numbers_kept}
use Rattle.av1_step.proofs.FilterArms.{only_numbers}
use Rattle.av1_step.proofs.OfCurrent.{current_there, current_allowed, current_tree}
use Rattle.av1_step.proofs.Ready.{is_paired}
use Rattle.av1_step.proofs.StepLaws.{kept_after}
use Rattle.av1_step.proofs.TransformArms.{err_of, tx_intra_entered}
use Rattle.av1_step.proofs.TransformSteps.{tx_intra_allowed}
use Rattle.av1_step.proofs.Switches.{switched}
use Rattle.av1_step.proofs.tile.TileState.write_tx_intra.Goals as goal

pub unwrap-size-requires : goal.unwrap-size-requires
unwrap-size-requires g c = let t = tile_of c.args.self.now in current_there TxIntra (tx_intra_kind t) t.current c.args.tx_size c.requires.rules

pub write_tx_size_intra-requires-clause-inside : goal.write_tx_size_intra-requires-clause-inside
write_tx_size_intra-requires-clause-inside g c =
    let current : c.args.self.now.current ≡ Some c.unwrap-size.result = search rules in
    let b = c.args.self.now.kept.current c.unwrap-size.result current in
    record { column = b.column; row = b.row }

pub write_tx_size_intra-requires-clause-few : goal.write_tx_size_intra-requires-clause-few
write_tx_size_intra-requires-clause-few g c = (is_paired (tile_of c.args.self.now) c.args.self.now.kept).few

pub write_tx_size_intra-requires-clause-larger : goal.write_tx_size_intra-requires-clause-larger
write_tx_size_intra-requires-clause-larger g c =
    let t = tile_of c.args.self.now in
    let b = c.unwrap-size.result in
    let current : t.current ≡ Some b = search rules in
    (tx_intra_allowed t b c.args.tx_size (current_allowed TxIntra (tx_intra_kind t) t.current b c.args.tx_size current c.requires.rules)).0

pub write_tx_size_intra-requires-clause-size : goal.write_tx_size_intra-requires-clause-size
write_tx_size_intra-requires-clause-size g c =
    let t = tile_of c.args.self.now in
    let b = c.unwrap-size.result in
    let current : t.current ≡ Some b = search rules in
    (tx_intra_allowed t b c.args.tx_size (current_allowed TxIntra (tx_intra_kind t) t.current b c.args.tx_size current c.requires.rules)).1

pub set_txsize-requires : goal.set_txsize-requires
set_txsize-requires g c =
    let current : c.args.self.now.current ≡ Some c.unwrap-size.result = search rules in
    let b = c.args.self.now.kept.current c.unwrap-size.result current in
    subst (λ (bc : BlockContext). IsInside bc.blocks c.unwrap-size.result.0.0) (sym c.in_ok-write_tx_size_intra.ensures.rest) (record { column = b.column; row = b.row })

pub update_tx_size_context-requires-clause-column : goal.update_tx_size_context-requires-clause-column
update_tx_size_context-requires-clause-column g c =
    let current : c.args.self.now.current ≡ Some c.unwrap-size.result = search rules in
    (block_within (tile_of c.args.self.now) c.unwrap-size.result.0.0 c.unwrap-size.result.1 c.args.self.now.kept (c.args.self.now.kept.current c.unwrap-size.result current)).0

pub update_tx_size_context-requires-clause-row : goal.update_tx_size_context-requires-clause-row
update_tx_size_context-requires-clause-row g c =
    let current : c.args.self.now.current ≡ Some c.unwrap-size.result = search rules in
    (block_within (tile_of c.args.self.now) c.unwrap-size.result.0.0 c.unwrap-size.result.1 c.args.self.now.kept (c.args.self.now.kept.current c.unwrap-size.result current)).1

pub invariant_of-self : goal.invariant_of-self
invariant_of-self g c =
    let t = tile_of c.args.self.now in
    let fc = c.write_tx_size_intra.new.self.fc in
    record { cdfs = c.write_tx_size_intra.ensures.moves.cdfs; kept = subst IsKept (sym (only_numbers t fc c.write_tx_size_intra.new.self.bc c.write_tx_size_intra.ensures.rest)) (numbers_kept fc t c.args.self.now.kept); switches = switched _ _ _ _ _ _ _ _ _ c.write_tx_size_intra.ensures.moves c.args.self.now.switches }

pub returns-in_err-write_tx_size_intra : goal.returns-in_err-write_tx_size_intra
returns-in_err-write_tx_size_intra g c =
    let t = tile_of c.args.self.now in
    let fc = c.write_tx_size_intra.new.self.fc in
    let b = c.unwrap-size.result in
    let tx = c.args.tx_size in
    let current : t.current ≡ Some b = search rules in
    let e = err_of c.from_residual.result c.from_residual.ensures.0 in
    writes_front g.W.Known c.from_residual.result e.0 e.1 (TxIntra tx) (tx_intra_kind t b) tx _ _ _ _ 13 (current_tree TxIntra (tx_intra_kind t) t.current b current) refl
    (current_allowed TxIntra (tx_intra_kind t) t.current b tx current c.requires.rules)
    c.in_err-write_tx_size_intra.ensures.wrote (only_numbers t fc c.write_tx_size_intra.new.self.bc c.in_err-write_tx_size_intra.ensures.rest) (omega arith) c.in_err-write_tx_size_intra.ensures.moves

pub invariant_of-self-2 : goal.invariant_of-self-2
invariant_of-self-2 g c =
    let t = tile_of c.args.self.now in
    let fc = c.write_tx_size_intra.new.self.fc in
    let b = c.unwrap-size.result in
    let tx = c.args.tx_size in
    let current : t.current ≡ Some b = search rules in
    let e = tx_intra_entered t fc b tx c.write_tx_size_intra.new.self.bc c.update_tx_size_context.new.self c.set_txsize.new.self current c.write_tx_size_intra.ensures.rest c.set_txsize.ensures c.update_tx_size_context.ensures in
    record { cdfs = c.write_tx_size_intra.ensures.moves.cdfs; kept = subst IsKept (sym e) (kept_after (TxIntra tx) fc t c.write_tx_size_intra.ensures.moves.cdfs c.args.self.now.kept c.requires.rules); switches = switched _ _ _ _ _ _ _ _ _ c.write_tx_size_intra.ensures.moves c.args.self.now.switches }

pub returns : goal.returns
returns g c =
    let t = tile_of c.args.self.now in
    let fc = c.write_tx_size_intra.new.self.fc in
    let b = c.unwrap-size.result in
    let tx = c.args.tx_size in
    let current : t.current ≡ Some b = search rules in
    let e = tx_intra_entered t fc b tx c.write_tx_size_intra.new.self.bc c.update_tx_size_context.new.self c.set_txsize.new.self current c.in_ok-write_tx_size_intra.ensures.rest c.set_txsize.ensures c.update_tx_size_context.ensures in
    writes_whole g.W.Known _ tt refl (TxIntra tx) (tx_intra_kind t b) tx _ _ _ _ 13 (current_tree TxIntra (tx_intra_kind t) t.current b current) refl
    (current_allowed TxIntra (tx_intra_kind t) t.current b tx current c.requires.rules)
    c.in_ok-write_tx_size_intra.ensures.wrote e (omega arith) c.in_ok-write_tx_size_intra.ensures.moves
