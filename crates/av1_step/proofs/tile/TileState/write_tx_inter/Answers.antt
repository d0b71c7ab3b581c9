use Rattle.std.proofs.Common.{◌≡◌, Some, refl, sym, ap, subst, ◌∙◌, arith, rules}
use Rattle.av1_blocks.specs.declared.block_context.BlockContext.{BlockContext}
use Rattle.av1_blocks.specs.Grid.{Grid, IsInside}
use Rattle.av1_step.specs.declared.step.TileStep.TheVariants.{TxInter}
use Rattle.av1_step.specs.Kept.{IsKept}
use Rattle.av1_step.specs.State.{tile_of}
use Rattle.av1_step.specs.TransformSteps.{tx_inter_kind}
use Rattle.av1_step.proofs.Arms.{writes_whole, writes_front}
use Rattle.av1_step.proofs.Effects.{numbers_kept}
use Rattle.av1_step.proofs.FilterArms.{only_numbers}
use Rattle.av1_step.proofs.OfCurrent.{current_there, current_allowed, current_tree}
use Rattle.av1_step.proofs.Splitting.{split_blocks}
use Rattle.av1_step.proofs.Ready.{is_paired}
use Rattle.av1_step.proofs.StepLaws.{kept_after}
use Rattle.av1_step.proofs.TransformArms.{err_of, tx_inter_entered}
use Rattle.av1_step.proofs.TransformSteps.{tx_inter_allowed}
use Rattle.av1_step.proofs.Switches.{switched}
use Rattle.av1_step.proofs.tile.TileState.write_tx_inter.Goals as goal

pub unwrap-size-requires : goal.unwrap-size-requires
unwrap-size-requires g c = let t = tile_of c.args.self.now in current_there TxInter (tx_inter_kind t) t.current c.args.split c.requires.rules

pub write_split-requires-clause-block : goal.write_split-requires-clause-block
write_split-requires-clause-block g c =
    let current : c.args.self.now.current ≡ Some c.unwrap-size.result = search rules in
    c.args.self.now.kept.current c.unwrap-size.result current

pub write_split-requires-clause-few : goal.write_split-requires-clause-few
write_split-requires-clause-few g c = (is_paired (tile_of c.args.self.now) c.args.self.now.kept).few

pub write_split-requires-clause-larger : goal.write_split-requires-clause-larger
write_split-requires-clause-larger g c =
    let t = tile_of c.args.self.now in
    let b = c.unwrap-size.result in
    let current : t.current ≡ Some b = search rules in
    tx_inter_allowed t b c.args.split (current_allowed TxInter (tx_inter_kind t) t.current b c.args.split current c.requires.rules)

pub write_split-requires-clause-edges : goal.write_split-requires-clause-edges
write_split-requires-clause-edges g c = c.args.self.now.kept.edges

pub set_txsize-requires : goal.set_txsize-requires
set_txsize-requires g c =
    let t = tile_of c.args.self.now in
    let b = c.unwrap-size.result in
    let current : t.current ≡ Some b = search rules in
    let is = c.args.self.now.kept.current b current in
    let same : c.write_split.new.cw.bc.blocks ≡ t.bc.blocks = ap (λ (bc : BlockContext). bc.blocks) c.in_ok-write_split.ensures.entered ∙ split_blocks b.0.0 b.1 c.args.split t.bc in
    subst (λ (grid : Grid). IsInside grid b.0.0) (sym same) (record { column = is.column; row = is.row })

pub invariant_of-self : goal.invariant_of-self
invariant_of-self g c =
    let t = tile_of c.args.self.now in
    let fc = c.write_split.new.cw.fc in
    record { cdfs = c.write_split.ensures.moves.cdfs; kept = subst IsKept (sym (only_numbers t fc c.write_split.new.cw.bc c.in_err-write_split.ensures.refused)) (numbers_kept fc t c.args.self.now.kept); switches = switched _ _ _ _ _ _ _ _ _ c.write_split.ensures.moves c.args.self.now.switches }

pub returns-in_err-write_split : goal.returns-in_err-write_split
returns-in_err-write_split g c =
    let t = tile_of c.args.self.now in
    let fc = c.write_split.new.cw.fc in
    let b = c.unwrap-size.result in
    let split = c.args.split in
    let current : t.current ≡ Some b = search rules in
    let e = err_of c.from_residual.result c.from_residual.ensures.0 in
    writes_front g.W.Known c.from_residual.result e.0 e.1 (TxInter split) (tx_inter_kind t b) split _ _ _ _ 65 (current_tree TxInter (tx_inter_kind t) t.current b current) refl
    (current_allowed TxInter (tx_inter_kind t) t.current b split current c.requires.rules)
    c.in_err-write_split.ensures.wrote (only_numbers t fc c.write_split.new.cw.bc c.in_err-write_split.ensures.refused) (omega arith) c.in_err-write_split.ensures.moves

pub invariant_of-self-2 : goal.invariant_of-self-2
invariant_of-self-2 g c =
    let t = tile_of c.args.self.now in
    let fc = c.write_split.new.cw.fc in
    let b = c.unwrap-size.result in
    let split = c.args.split in
    let current : t.current ≡ Some b = search rules in
    let e = tx_inter_entered t fc b split c.inter_tx_size.result c.write_split.new.cw.bc c.set_txsize.new.self current c.inter_tx_size.ensures c.in_ok-write_split.ensures.entered c.set_txsize.ensures in
    record { cdfs = c.write_split.ensures.moves.cdfs; kept = subst IsKept (sym e) (kept_after (TxInter split) fc t c.write_split.ensures.moves.cdfs c.args.self.now.kept c.requires.rules); switches = switched _ _ _ _ _ _ _ _ _ c.write_split.ensures.moves c.args.self.now.switches }

pub returns : goal.returns
returns g c =
    let t = tile_of c.args.self.now in
    let fc = c.write_split.new.cw.fc in
    let b = c.unwrap-size.result in
    let split = c.args.split in
    let current : t.current ≡ Some b = search rules in
    let e = tx_inter_entered t fc b split c.inter_tx_size.result c.write_split.new.cw.bc c.set_txsize.new.self current c.inter_tx_size.ensures c.in_ok-write_split.ensures.entered c.set_txsize.ensures in
    writes_whole g.W.Known _ tt refl (TxInter split) (tx_inter_kind t b) split _ _ _ _ 65 (current_tree TxInter (tx_inter_kind t) t.current b current) refl
    (current_allowed TxInter (tx_inter_kind t) t.current b split current c.requires.rules)
    c.in_ok-write_split.ensures.wrote e (omega arith) c.in_ok-write_split.ensures.moves
