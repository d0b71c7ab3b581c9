use mir.Val.{SFits}
use Rattle.std.proofs.Common.{◌≡◌, ℕ, ◌^◌, List, [], refl, sym, ap, subst, ◌∙◌, arith, rules, w8}
use Rattle.std.proofs.lemmas.Int.{to_z-of_z}
use Rattle.av1_ec.proofs.MovesLaws.{moves_none}
use Rattle.av1_geometry.specs.declared.block_offset.BlockOffset.{BlockOffset}
use Rattle.av1_model.specs.Comes.{standing}
use Rattle.av1_step.specs.declared.step.TileStep.{TileStep}
use Rattle.av1_step.specs.declared.step.TileStep.TheVariants.{RowStart, Block, AngleDelta}
use Rattle.av1_step.specs.State.{tile_of}
use Rattle.av1_step.specs.Step.{block_kind, entered, row_start_kind}
use Rattle.av1_step.specs.Tile.{Tile, with_numbers}
use Rattle.av1_step.specs.Writing.{Writes}
use Rattle.av1_step.proofs.Arms.{writes_numbers}
use Rattle.av1_step.proofs.StepLaws.{IsAllowed}
use Rattle.av1_step.proofs.TransformArms.{note_wrote}
use Rattle.av1_step.proofs.VectorArms.{refs_wrote}
use Rattle.av1_step.proofs.tile.TileState.write_allowed.Goals as goal

pub enter_block-requires : goal.enter_block-requires
enter_block-requires g c = subst (λ (s : TileStep). IsAllowed s (tile_of c.args.self.now)) c.in-Block.is c.requires.rules

pub write_partition-requires-clause-rules : goal.write_partition-requires-clause-rules
write_partition-requires-clause-rules g c = subst (λ (s : TileStep). IsAllowed s (tile_of c.args.self.now)) c.in-Partition.is c.requires.rules

pub write_skip-requires-clause-rules : goal.write_skip-requires-clause-rules
write_skip-requires-clause-rules g c = subst (λ (s : TileStep). IsAllowed s (tile_of c.args.self.now)) c.in-Skip.is c.requires.rules

pub write_segment-requires-clause-rules : goal.write_segment-requires-clause-rules
write_segment-requires-clause-rules g c = subst (λ (s : TileStep). IsAllowed s (tile_of c.args.self.now)) c.in-Segment.is c.requires.rules

pub write_intra_mode_kf-requires-clause-rules : goal.write_intra_mode_kf-requires-clause-rules
write_intra_mode_kf-requires-clause-rules g c = subst (λ (s : TileStep). IsAllowed s (tile_of c.args.self.now)) c.in-IntraModeKf.is c.requires.rules

pub write_cdef-requires-clause-rules : goal.write_cdef-requires-clause-rules
write_cdef-requires-clause-rules g c = subst (λ (s : TileStep). IsAllowed s (tile_of c.args.self.now)) c.in-Cdef.is c.requires.rules

pub write_delta_lf-requires-clause-rules : goal.write_delta_lf-requires-clause-rules
write_delta_lf-requires-clause-rules g c = subst (λ (s : TileStep). IsAllowed s (tile_of c.args.self.now)) c.in-DeltaLf.is c.requires.rules

pub write_angle_delta-requires-clause-rules : goal.write_angle_delta-requires-clause-rules
write_angle_delta-requires-clause-rules g c =
    let t = tile_of c.args.self.now in
    let a = c.in-AngleDelta.answer in
    let fits : SFits w8 a = search rules in
    let allowed = subst (λ (s : TileStep). IsAllowed s t) c.in-AngleDelta.is c.requires.rules in
    subst (λ x. IsAllowed (AngleDelta c.in-AngleDelta.chroma x) t) (sym (to_z-of_z w8 a fits)) allowed

pub returns-in-AngleDelta : goal.returns-in-AngleDelta
returns-in-AngleDelta g c =
    let a = c.in-AngleDelta.answer in
    let fits : SFits w8 a = search rules in
    subst (λ (s : TileStep). Writes g.W.Known c.write_angle_delta.result s c.args.w.now c.write_angle_delta.new.w c.args.self.now c.write_angle_delta.new.self)
    (ap (λ x. AngleDelta c.in-AngleDelta.chroma x) (to_z-of_z w8 a fits) ∙ sym c.in-AngleDelta.is) c.write_angle_delta.ensures

pub write_cfl_alphas-requires-clause-rules : goal.write_cfl_alphas-requires-clause-rules
write_cfl_alphas-requires-clause-rules g c = subst (λ (s : TileStep). IsAllowed s (tile_of c.args.self.now)) c.in-CflAlphas.is c.requires.rules

pub write_filter_intra-requires-clause-rules : goal.write_filter_intra-requires-clause-rules
write_filter_intra-requires-clause-rules g c = subst (λ (s : TileStep). IsAllowed s (tile_of c.args.self.now)) c.in-FilterIntra.is c.requires.rules

pub write_palette-requires-clause-rules : goal.write_palette-requires-clause-rules
write_palette-requires-clause-rules g c = subst (λ (s : TileStep). IsAllowed s (tile_of c.args.self.now)) c.in-Palette.is c.requires.rules

pub write_coeffs-requires-clause-rules : goal.write_coeffs-requires-clause-rules
write_coeffs-requires-clause-rules g c = subst (λ (s : TileStep). IsAllowed s (tile_of c.args.self.now)) c.in-Coeffs.is c.requires.rules

pub write_lrf-requires-clause-rules : goal.write_lrf-requires-clause-rules
write_lrf-requires-clause-rules g c = subst (λ (s : TileStep). IsAllowed s (tile_of c.args.self.now)) c.in-Lrf.is c.requires.rules

pub returns-in-RowStart : goal.returns-in-RowStart
returns-in-RowStart g c =
    let t = tile_of c.args.self.now in
    let numbers : (tile_of c.enter_row.new.self).numbers ≡ t.numbers = ap (λ (x : Tile). x.numbers) c.enter_row.ensures.tile in
    rw (c.in-RowStart.is)
    (writes_numbers g.W.Known _ tt refl RowStart row_start_kind tt c.args.w.now c.args.w.now c.args.self.now c.enter_row.new.self (2 ^ 24) refl refl refl
    (record { symbols = []; follows = refl; fits = tt; wrote = ap (standing (g.W.Known.position c.args.w.now)) numbers })
    (c.enter_row.ensures.tile ∙ ap (λ (ns : List ℕ). entered RowStart (with_numbers ns t)) (sym numbers)) (omega arith)
    (moves_none g.W.Known _ _ _ _ _ _ c.enter_row.ensures.log numbers c.args.self.now.cdfs))

pub returns-in-Block : goal.returns-in-Block
returns-in-Block g c =
    let t = tile_of c.args.self.now in
    let bo : BlockOffset = record { x = c.in-Block.x; y = c.in-Block.y } in
    let allowed = subst (λ (s : TileStep). IsAllowed s t) c.in-Block.is c.requires.rules in
    let numbers : (tile_of c.enter_block.new.self).numbers ≡ t.numbers = ap (λ (x : Tile). x.numbers) c.enter_block.ensures.tile in
    rw (c.in-Block.is)
    (writes_numbers g.W.Known _ tt refl (Block c.in-Block.x c.in-Block.y c.in-Block.size) (block_kind bo c.in-Block.size t) tt c.args.w.now c.args.w.now c.args.self.now c.enter_block.new.self (2 ^ 24) refl refl allowed
    (record { symbols = []; follows = refl; fits = tt; wrote = ap (standing (g.W.Known.position c.args.w.now)) numbers })
    (c.enter_block.ensures.tile ∙ ap (λ (ns : List ℕ). entered (Block c.in-Block.x c.in-Block.y c.in-Block.size) (with_numbers ns t)) (sym numbers)) (omega arith)
    (moves_none g.W.Known _ _ _ _ _ _ c.enter_block.ensures.log numbers c.args.self.now.cdfs))

pub write_uv_mode-requires-clause-rules : goal.write_uv_mode-requires-clause-rules
write_uv_mode-requires-clause-rules g c = subst (λ (s : TileStep). IsAllowed s (tile_of c.args.self.now)) c.in-UvMode.is c.requires.rules

pub write_intra_mode-requires-clause-rules : goal.write_intra_mode-requires-clause-rules
write_intra_mode-requires-clause-rules g c = subst (λ (s : TileStep). IsAllowed s (tile_of c.args.self.now)) c.in-IntraMode.is c.requires.rules

pub enter_tx_note-requires : goal.enter_tx_note-requires
enter_tx_note-requires g c = subst (λ (s : TileStep). IsAllowed s (tile_of c.args.self.now)) c.in-TxNote.is c.requires.rules

pub write_tx_intra-requires-clause-rules : goal.write_tx_intra-requires-clause-rules
write_tx_intra-requires-clause-rules g c = subst (λ (s : TileStep). IsAllowed s (tile_of c.args.self.now)) c.in-TxIntra.is c.requires.rules

pub write_tx_inter-requires-clause-rules : goal.write_tx_inter-requires-clause-rules
write_tx_inter-requires-clause-rules g c = subst (λ (s : TileStep). IsAllowed s (tile_of c.args.self.now)) c.in-TxInter.is c.requires.rules

pub write_is_inter-requires-clause-rules : goal.write_is_inter-requires-clause-rules
write_is_inter-requires-clause-rules g c = subst (λ (s : TileStep). IsAllowed s (tile_of c.args.self.now)) c.in-IsInter.is c.requires.rules

pub write_ref_frames-requires-clause-rules : goal.write_ref_frames-requires-clause-rules
write_ref_frames-requires-clause-rules g c = subst (λ (s : TileStep). IsAllowed s (tile_of c.args.self.now)) c.in-RefFrames.is c.requires.rules

pub write_inter_mode-requires-clause-rules : goal.write_inter_mode-requires-clause-rules
write_inter_mode-requires-clause-rules g c = subst (λ (s : TileStep). IsAllowed s (tile_of c.args.self.now)) c.in-InterMode.is c.requires.rules

pub write_compound_mode-requires-clause-rules : goal.write_compound_mode-requires-clause-rules
write_compound_mode-requires-clause-rules g c = subst (λ (s : TileStep). IsAllowed s (tile_of c.args.self.now)) c.in-CompoundMode.is c.requires.rules

pub write_drl-requires-clause-rules : goal.write_drl-requires-clause-rules
write_drl-requires-clause-rules g c = subst (λ (s : TileStep). IsAllowed s (tile_of c.args.self.now)) c.in-Drl.is c.requires.rules

pub enter_mv_refs-requires : goal.enter_mv_refs-requires
enter_mv_refs-requires g c = subst (λ (s : TileStep). IsAllowed s (tile_of c.args.self.now)) c.in-MvRefs.is c.requires.rules

pub write_mv-requires-clause-rules : goal.write_mv-requires-clause-rules
write_mv-requires-clause-rules g c = subst (λ (s : TileStep). IsAllowed s (tile_of c.args.self.now)) c.in-Mv.is c.requires.rules

pub returns-in-TxNote : goal.returns-in-TxNote
returns-in-TxNote g c =
    rw (c.in-TxNote.is)
    (note_wrote g.W.Known c.args.w.now c.args.self.now c.enter_tx_note.new.self (subst (λ (s : TileStep). IsAllowed s (tile_of c.args.self.now)) c.in-TxNote.is c.requires.rules) c.enter_tx_note.ensures.tile c.enter_tx_note.ensures.log c.args.self.now.cdfs)

pub returns-in-MvRefs : goal.returns-in-MvRefs
returns-in-MvRefs g c =
    rw (c.in-MvRefs.is)
    (refs_wrote g.W.Known c.in-MvRefs.has_tr c.args.w.now c.args.self.now c.enter_mv_refs.new.self (subst (λ (s : TileStep). IsAllowed s (tile_of c.args.self.now)) c.in-MvRefs.is c.requires.rules) c.enter_mv_refs.ensures.tile c.enter_mv_refs.ensures.log c.args.self.now.cdfs)
