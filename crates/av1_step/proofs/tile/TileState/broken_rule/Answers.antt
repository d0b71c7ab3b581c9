use Rattle.std.proofs.Common.{sym, ◌∙◌, ap, w8, rules as search_rules}
use mir.Val.{SFits}
use Rattle.std.proofs.lemmas.Int.{to_z-of_z}
use Rattle.av1_geometry.specs.Rules.{first_broken}
use Rattle.av1_step.specs.declared.step.TileStep.{TileStep}
use Rattle.av1_step.specs.declared.step.TileStep.TheVariants.{AngleDelta}
use Rattle.av1_step.specs.State.{tile_of}
use Rattle.av1_step.specs.Step.{rules}
use Rattle.av1_step.proofs.tile.TileState.broken_rule.Goals as goal

pub returns-in-Block : goal.returns-in-Block
returns-in-Block c = c.check_block.ensures ∙ ap (λ (s : TileStep). first_broken (rules s (tile_of c.args.self.now))) (sym c.in-Block.is)

pub returns-in-Partition : goal.returns-in-Partition
returns-in-Partition c = c.check_partition.ensures ∙ ap (λ (s : TileStep). first_broken (rules s (tile_of c.args.self.now))) (sym c.in-Partition.is)

pub returns-in-Skip : goal.returns-in-Skip
returns-in-Skip c = c.check_skip.ensures ∙ ap (λ (s : TileStep). first_broken (rules s (tile_of c.args.self.now))) (sym c.in-Skip.is)

pub returns-in-Segment : goal.returns-in-Segment
returns-in-Segment c = c.check_segment.ensures ∙ ap (λ (s : TileStep). first_broken (rules s (tile_of c.args.self.now))) (sym c.in-Segment.is)

pub returns-in-IntraModeKf : goal.returns-in-IntraModeKf
returns-in-IntraModeKf c = c.check_intra_mode_kf.ensures ∙ ap (λ (s : TileStep). first_broken (rules s (tile_of c.args.self.now))) (sym c.in-IntraModeKf.is)

pub returns-in-RowStart : goal.returns-in-RowStart
returns-in-RowStart c = ap (λ (s : TileStep). first_broken (rules s (tile_of c.args.self.now))) (sym c.in-RowStart.is)

pub returns-in-UvMode : goal.returns-in-UvMode
returns-in-UvMode c = c.check_uv_mode.ensures ∙ ap (λ (s : TileStep). first_broken (rules s (tile_of c.args.self.now))) (sym c.in-UvMode.is)

pub returns-in-IntraMode : goal.returns-in-IntraMode
returns-in-IntraMode c = c.check_intra_mode.ensures ∙ ap (λ (s : TileStep). first_broken (rules s (tile_of c.args.self.now))) (sym c.in-IntraMode.is)

pub returns-in-Cdef : goal.returns-in-Cdef
returns-in-Cdef c = c.check_cdef.ensures ∙ ap (λ (s : TileStep). first_broken (rules s (tile_of c.args.self.now))) (sym c.in-Cdef.is)

pub returns-in-DeltaLf : goal.returns-in-DeltaLf
returns-in-DeltaLf c = c.check_delta_lf.ensures ∙ ap (λ (s : TileStep). first_broken (rules s (tile_of c.args.self.now))) (sym c.in-DeltaLf.is)

pub returns-in-AngleDelta : goal.returns-in-AngleDelta
returns-in-AngleDelta c =
    let t = tile_of c.args.self.now in
    let a = c.in-AngleDelta.answer in
    let fits : SFits w8 a = search search_rules in
    c.check_angle_delta.ensures ∙ ap (λ x. first_broken (rules (AngleDelta c.in-AngleDelta.chroma x) t)) (to_z-of_z w8 a fits) ∙ ap (λ (s : TileStep). first_broken (rules s t)) (sym c.in-AngleDelta.is)

pub returns-in-CflAlphas : goal.returns-in-CflAlphas
returns-in-CflAlphas c = c.check_cfl_alphas.ensures ∙ ap (λ (s : TileStep). first_broken (rules s (tile_of c.args.self.now))) (sym c.in-CflAlphas.is)

pub returns-in-FilterIntra : goal.returns-in-FilterIntra
returns-in-FilterIntra c = c.check_filter_intra.ensures ∙ ap (λ (s : TileStep). first_broken (rules s (tile_of c.args.self.now))) (sym c.in-FilterIntra.is)

pub returns-in-Palette : goal.returns-in-Palette
returns-in-Palette c = c.check_palette.ensures ∙ ap (λ (s : TileStep). first_broken (rules s (tile_of c.args.self.now))) (sym c.in-Palette.is)

pub returns-in-TxNote : goal.returns-in-TxNote
returns-in-TxNote c = c.check_tx_note.ensures ∙ ap (λ (s : TileStep). first_broken (rules s (tile_of c.args.self.now))) (sym c.in-TxNote.is)

pub returns-in-TxIntra : goal.returns-in-TxIntra
returns-in-TxIntra c = c.check_tx_intra.ensures ∙ ap (λ (s : TileStep). first_broken (rules s (tile_of c.args.self.now))) (sym c.in-TxIntra.is)

pub returns-in-TxInter : goal.returns-in-TxInter
returns-in-TxInter c = c.check_tx_inter.ensures ∙ ap (λ (s : TileStep). first_broken (rules s (tile_of c.args.self.now))) (sym c.in-TxInter.is)

pub returns-in-IsInter : goal.returns-in-IsInter
returns-in-IsInter c = c.check_is_inter.ensures ∙ ap (λ (s : TileStep). first_broken (rules s (tile_of c.args.self.now))) (sym c.in-IsInter.is)

pub returns-in-RefFrames : goal.returns-in-RefFrames
returns-in-RefFrames c = c.check_ref_frames.ensures ∙ ap (λ (s : TileStep). first_broken (rules s (tile_of c.args.self.now))) (sym c.in-RefFrames.is)

pub returns-in-InterMode : goal.returns-in-InterMode
returns-in-InterMode c = c.check_inter_mode.ensures ∙ ap (λ (s : TileStep). first_broken (rules s (tile_of c.args.self.now))) (sym c.in-InterMode.is)

pub returns-in-CompoundMode : goal.returns-in-CompoundMode
returns-in-CompoundMode c = c.check_compound_mode.ensures ∙ ap (λ (s : TileStep). first_broken (rules s (tile_of c.args.self.now))) (sym c.in-CompoundMode.is)

pub returns-in-Drl : goal.returns-in-Drl
returns-in-Drl c = c.check_drl.ensures ∙ ap (λ (s : TileStep). first_broken (rules s (tile_of c.args.self.now))) (sym c.in-Drl.is)

pub returns-in-MvRefs : goal.returns-in-MvRefs
returns-in-MvRefs c = c.check_mv_refs.ensures ∙ ap (λ (s : TileStep). first_broken (rules s (tile_of c.args.self.now))) (sym c.in-MvRefs.is)

pub returns-in-Mv : goal.returns-in-Mv
returns-in-Mv c = c.check_mv.ensures ∙ ap (λ (s : TileStep). first_broken (rules s (tile_of c.args.self.now))) (sym c.in-Mv.is)

pub returns-in-Coeffs : goal.returns-in-Coeffs
returns-in-Coeffs c = c.check_coeffs.ensures ∙ ap (λ (s : TileStep). first_broken (rules s (tile_of c.args.self.now))) (sym c.in-Coeffs.is)

pub returns-in-Lrf : goal.returns-in-Lrf
returns-in-Lrf c = c.check_lrf.ensures ∙ ap (λ (s : TileStep). first_broken (rules s (tile_of c.args.self.now))) (sym c.in-Lrf.is)
