use Rattle.std.proofs.Common.{◌≡◌, ℕ, option_map, sym, ◌∙◌, ap, refl}
use Rattle.av1_geometry.specs.declared.block_size.BlockSize.{BlockSize}
use Rattle.av1_geometry.specs.declared.partition_type.PartitionType.{PartitionType}
use Rattle.av1_geometry.specs.declared.tx_type.TxType.{TxType}
use Rattle.av1_syntax.specs.declared.restoration.RestorationFilter.{RestorationFilter}
use Rattle.av1_step.specs.declared.step.Levels.{Levels}
use Rattle.av1_step.specs.declared.step.TileStep.{TileStep}
use Rattle.av1_step.specs.declared.step.TileStep.TheVariants.{RowStart, Block, Partition, Coeffs, Lrf, TxNote, MvRefs, Skip, Segment, IntraModeKf, UvMode, IntraMode, Cdef, DeltaLf, AngleDelta, CflAlphas, FilterIntra, Palette, TxIntra, TxInter, IsInter, RefFrames, InterMode, CompoundMode, Drl, Mv}
use Rattle.av1_step.specs.AngleSteps.{angle_delta_kind, cfl_alphas_kind}
use Rattle.av1_step.specs.DeltaSteps.{segment_kind, delta_lf_kind}
use Rattle.av1_step.specs.FilterSteps.{cdef_kind, filter_intra_kind, palette_kind}
use Rattle.av1_step.specs.InterSteps.{is_inter_kind, ref_frames_kind}
use Rattle.av1_step.specs.IntraSteps.{intra_mode_kf_kind, uv_mode_kind, intra_mode_kind}
use Rattle.av1_step.specs.State.{tile_of}
use Rattle.av1_step.specs.ModeSteps.{inter_mode_kind, compound_mode_kind, drl_kind}
use Rattle.av1_step.specs.Step.{kind_of, place_of_step, question_of, skip_kind}
use Rattle.av1_step.specs.Tile.{Tile, place_of_block}
use Rattle.av1_step.specs.TransformSteps.{note, tx_note_kind, tx_intra_kind, tx_inter_kind}
use Rattle.av1_step.specs.VectorSteps.{find, mv_refs_kind, mv_kind}
use Rattle.av1_step.proofs.CoeffWriting.{place_is}
use Rattle.av1_step.proofs.OfCurrent.{of_current_place}
use Rattle.av1_step.proofs.tile.TileState.place_of.Goals as goal

-- every other step has the place of the current block
place_by_current : (step : TileStep) (t : Tile) → (step ≡ RowStart → ⊥) → ((x y : ℕ) (size : BlockSize) → step ≡ Block x y size → ⊥)
    → ((x y : ℕ) (size : BlockSize) (p : PartitionType) → step ≡ Partition x y size p → ⊥)
    → ((plane x y : ℕ) (given : TxType) (levels : Levels) → step ≡ Coeffs plane x y given levels → ⊥)
    → ((plane : ℕ) (filter : RestorationFilter) → step ≡ Lrf plane filter → ⊥) → option_map place_of_block t.current ≡ place_of_step step t
place_by_current RowStart t r b p c l = absurd (r refl)
place_by_current (Block x y size) t r b p c l = absurd (b x y size refl)
place_by_current (Partition x y size a) t r b p c l = absurd (p x y size a refl)
place_by_current (Coeffs plane x y given levels) t r b p c l = absurd (c plane x y given levels refl)
place_by_current (Lrf plane filter) t r b p c l = absurd (l plane filter refl)
place_by_current (Skip a) t r b p c l = of_current_place Skip (skip_kind t) t.current (λ b. refl)
place_by_current (Segment a) t r b p c l = of_current_place Segment (segment_kind t) t.current (λ b. refl)
place_by_current (IntraModeKf a) t r b p c l = of_current_place IntraModeKf (intra_mode_kf_kind t) t.current (λ b. refl)
place_by_current (UvMode m) t r b p c l = of_current_place UvMode (uv_mode_kind t) t.current (λ b. refl)
place_by_current (IntraMode a) t r b p c l = of_current_place IntraMode (intra_mode_kind t) t.current (λ b. refl)
place_by_current (Cdef a) t r b p c l = of_current_place Cdef (cdef_kind t) t.current (λ b. refl)
place_by_current (DeltaLf a) t r b p c l = of_current_place DeltaLf (delta_lf_kind t) t.current (λ b. refl)
place_by_current (AngleDelta chroma a) t r b p c l = of_current_place (AngleDelta chroma) (angle_delta_kind chroma t) t.current (λ b. refl)
place_by_current (CflAlphas a) t r b p c l = of_current_place CflAlphas (cfl_alphas_kind t) t.current (λ b. refl)
place_by_current (FilterIntra a) t r b p c l = of_current_place FilterIntra (filter_intra_kind t) t.current (λ b. refl)
place_by_current (Palette a) t r b p c l = of_current_place Palette (palette_kind t) t.current (λ b. refl)
place_by_current TxNote t r b p c l = of_current_place note (tx_note_kind t) t.current (λ b. refl)
place_by_current (TxIntra a) t r b p c l = of_current_place TxIntra (tx_intra_kind t) t.current (λ b. refl)
place_by_current (TxInter a) t r b p c l = of_current_place TxInter (tx_inter_kind t) t.current (λ b. refl)
place_by_current (IsInter a) t r b p c l = of_current_place IsInter (is_inter_kind t) t.current (λ b. refl)
place_by_current (RefFrames a) t r b p c l = of_current_place RefFrames (ref_frames_kind t) t.current (λ b. refl)
place_by_current (MvRefs has_tr) t r b p c l = of_current_place (find has_tr) (mv_refs_kind has_tr t) t.current (λ b. refl)
place_by_current (InterMode a) t r b p c l = of_current_place InterMode (inter_mode_kind t) t.current (λ b. refl)
place_by_current (CompoundMode a) t r b p c l = of_current_place CompoundMode (compound_mode_kind t) t.current (λ b. refl)
place_by_current (Drl index a) t r b p c l = of_current_place (Drl index) (drl_kind index t) t.current (λ b. refl)
place_by_current (Mv list a) t r b p c l = of_current_place (Mv list) (mv_kind list t) t.current (λ b. refl)

pub returns-in-RowStart : goal.returns-in-RowStart
returns-in-RowStart c = ap (λ (step : TileStep). (kind_of (question_of step) (tile_of c.args.self.now)).place) (sym c.in-RowStart.is)

pub returns-in-Block : goal.returns-in-Block
returns-in-Block c = ap (λ (step : TileStep). (kind_of (question_of step) (tile_of c.args.self.now)).place) (sym c.in-Block.is)

pub returns-in-Partition : goal.returns-in-Partition
returns-in-Partition c = ap (λ (step : TileStep). (kind_of (question_of step) (tile_of c.args.self.now)).place) (sym c.in-Partition.is)

pub returns-in-Coeffs : goal.returns-in-Coeffs
returns-in-Coeffs c =
    place_is c.in-Coeffs.plane c.in-Coeffs.x c.in-Coeffs.y c.in-Coeffs.tx_type c.in-Coeffs.answer (tile_of c.args.self.now) ∙ ap (λ (step : TileStep). (kind_of (question_of step) (tile_of c.args.self.now)).place) (sym c.in-Coeffs.is)

pub returns-in-Lrf : goal.returns-in-Lrf
returns-in-Lrf c = ap (λ (step : TileStep). (kind_of (question_of step) (tile_of c.args.self.now)).place) (sym c.in-Lrf.is)

pub returns-in_default : goal.returns-in_default
returns-in_default c =
    let no = c.in_default in
    c.place_of_current.ensures ∙ place_by_current c.args.step.now (tile_of c.args.self.now) no.not-RowStart no.not-Block no.not-Partition no.not-Coeffs no.not-Lrf
