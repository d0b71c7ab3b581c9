use Rattle.std.proofs.Common.{◌∙◌, [], ◌∷◌, true, codes, ap, subst, arith}
use Rattle.av1_blocks.specs.declared.block_context.BlockContext.{BlockContext}
use Rattle.av1_cdf.specs.Layout.{slot}
use Rattle.av1_geometry.specs.TxTables.{half_size}
use Rattle.av1_geometry.specs.declared.tx_size.TxSize.{TxSize}
use Rattle.av1_model.specs.Comes.{Wrote}
use Rattle.av1_model.proofs.ComesLaws.{wrote_err}
use Rattle.av1_syntax.specs.Calls.{stands, coded_in, learnt_in}
use Rattle.av1_syntax.specs.TransformSizes.{txfm_partition_context, halved, parts_of, parts_element}
use Rattle.av1_syntax.proofs.Splits.{whole_few, split_begun, split_wrote, split_none, some_as, entered_whole, on_err}
use Rattle.av1_syntax.proofs.Moving.{moves_then, moves_as}
use Rattle.av1_syntax.proofs.context_writer.ContextWriter.write_split.Goals as goal

pub txfm_partition_cdf-requires : goal.txfm_partition_cdf-requires
txfm_partition_cdf-requires g c =
    let few = whole_few c.args.self.now.bc c.args.bo.0 c.args.bsize c.args.tbx c.args.tby c.requires.larger in
    let e = c.txfm_partition_context-context.ensures.value ∙ ap (λ (t : TxSize). txfm_partition_context c.args.self.now.bc c.args.bo.0 c.args.bsize t c.args.tbx c.args.tby) c.requires.size in
    omega (arith, few, e)

pub returns-in_err-flag-clause-wrote : goal.returns-in_err-flag-clause-wrote
returns-in_err-flag-clause-wrote g c =
    let e = c.txfm_partition_context-context.ensures.value ∙ ap (λ (t : TxSize). txfm_partition_context c.args.self.now.bc c.args.bo.0 c.args.bsize t c.args.tbx c.args.tby) c.requires.size in
    wrote_err coded_in learnt_in c.from_residual.result _ _ _ _ c.from_residual.ensures.0
    (split_begun c.args.self.now.bc c.args.bo.0 c.args.bsize c.args.tbx c.args.tby c.requires.larger c.requires.width c.requires.height _ c.args.txfm_split _ _ (c.txfm_partition_cdf.ensures ∙ ap (λ k. slot (codes "txfm_partition_cdf") (k ∷ [])) e) c.in_err-flag.ensures.wrote)

pub returns-in_err-flag-clause-moves : goal.returns-in_err-flag-clause-moves
returns-in_err-flag-clause-moves g c = moves_as g.W.Known 13 65 _ _ _ _ _ _ (omega arith) c.in_err-flag.ensures.moves

pub returns-in_err-flag-clause-refused : goal.returns-in_err-flag-clause-refused
returns-in_err-flag-clause-refused g c = on_err c.from_residual.result _ c.from_residual.ensures.0 (0, omega arith, c.flag.ensures.rest)

pub returns-then-txfm_split-clause-wrote : goal.returns-then-txfm_split-clause-wrote
returns-then-txfm_split-clause-wrote g c =
    let bc = c.args.self.now.bc in
    let bo = c.args.bo.0 in
    let size = c.args.bsize in
    let part = c.sub_tx_size.result in
    let old = stands g.W.Known c.args.w.now c.args.self.now in
    let mid = stands g.W.Known c.flag.new.w c.flag.new.self in
    let new = stands g.W.Known c.write_parts.new.w c.write_parts.new.self in
    let e = c.txfm_partition_context-context.ensures.value ∙ ap (λ (t : TxSize). txfm_partition_context bc bo size t c.args.tbx c.args.tby) c.requires.size in
    let parts = subst (λ (x : BlockContext). Wrote coded_in learnt_in c.write_parts.result (parts_element bo size part (parts_of size part) x).tree true mid new) c.flag.ensures.rest c.write_parts.ensures.wrote in
    split_wrote bc bo size c.args.tbx c.args.tby c.requires.larger c.requires.width c.requires.height c.write_parts.result _ c.args.txfm_split part old mid new
    (c.txfm_partition_cdf.ensures ∙ ap (λ k. slot (codes "txfm_partition_cdf") (k ∷ [])) e) c.if-txfm_split.true (c.sub_tx_size.ensures ∙ ap half_size c.requires.size) c.in_ok-flag.ensures.wrote parts

pub returns-then-txfm_split-clause-moves : goal.returns-then-txfm_split-clause-moves
returns-then-txfm_split-clause-moves g c = moves_then g.W.Known 13 52 65 _ _ _ _ _ _ _ _ _ (omega arith) c.in_ok-flag.ensures.moves c.write_parts.ensures.moves

pub returns-then-txfm_split-clause-refused : goal.returns-then-txfm_split-clause-refused
returns-then-txfm_split-clause-refused g c =
    some_as c.write_parts.result c.args.bo.0 c.args.bsize c.sub_tx_size.result (halved 1 c.args.largest) c.args.txfm_split c.flag.new.self.bc c.args.self.now.bc c.write_parts.new.self.bc c.sub_tx_size.ensures c.if-txfm_split.true c.flag.ensures.rest c.write_parts.ensures.refused

pub returns-clause-wrote : goal.returns-clause-wrote
returns-clause-wrote g c =
    let e = c.txfm_partition_context-context.ensures.value ∙ ap (λ (t : TxSize). txfm_partition_context c.args.self.now.bc c.args.bo.0 c.args.bsize t c.args.tbx c.args.tby) c.requires.size in
    split_none c.args.self.now.bc c.args.bo.0 c.args.bsize c.args.tbx c.args.tby c.requires.larger c.requires.width c.requires.height _ c.args.txfm_split _ _
    (c.txfm_partition_cdf.ensures ∙ ap (λ k. slot (codes "txfm_partition_cdf") (k ∷ [])) e) c.if-txfm_split.false c.in_ok-flag.ensures.wrote

pub returns-clause-entered : goal.returns-clause-entered
returns-clause-entered g c =
    entered_whole c.args.bo.0 c.args.bsize c.block_size.result c.args.largest c.args.txfm_split c.args.self.now.bc c.flag.new.self.bc _ c.if-txfm_split.false c.requires.inside c.block_size.ensures.value c.flag.ensures.rest c.update_tx_size_context.ensures
