-- All kinds of step. What each brings is one line for each of the first lemmas; the others hold of every kind.
use Rattle.std.proofs.Common.{inl, zero, suc, ◌≤◌, nat_lt, ◌==◌, option_map, ◌≡◌, ℕ, ◌+◌, ◌-◌, ◌%◌, ◌<◌, ◌^◌, Bool, true, false, IsTrue, List, [], ◌∷◌, ◌++◌, Option, Some, None, is_none, length, refl, sym, ◌∙◌, ap, subst, arith, if◌then◌else◌}
use Rattle.std.proofs.lemmas.Bool.Decides.{nat_tests}
use Rattle.std.specs.Option.{option_map_or}
use Rattle.av1_cdf.specs.Context.{AreCdfs}
use Rattle.av1_cdf.specs.Distribution.{coded_by, learnt, HasSymbols}
use Rattle.av1_cdf.proofs.Distributions.{keeps_cdfs}
use Rattle.av1_geometry.specs.declared.block_offset.BlockOffset.{BlockOffset}
use Rattle.av1_geometry.specs.declared.block_size.BlockSize.{BlockSize}
use Rattle.av1_geometry.specs.declared.error.Rule.{Rule}
use Rattle.av1_geometry.specs.BlockSize.{width_log2, height_log2}
use Rattle.av1_geometry.specs.BlockTables.{subsize_of}
use Rattle.av1_geometry.specs.Rules.{first_broken}
use Rattle.av1_model.specs.Comes.{Standing, standing, stored_along, Writes, Begins}
use Rattle.av1_model.specs.Element.{nothing}
use Rattle.av1_model.specs.Paths.{context_along}
use Rattle.av1_model.specs.Position.{Position, advance_all}
use Rattle.av1_model.specs.Reading.{Fits}
use Rattle.av1_model.specs.Syntax.{Leads}
use Rattle.av1_model.proofs.ComesLaws.{stored_is, begins_front}
use Rattle.av1_model.proofs.ElementLaws.{known_reads, fits_asked, nothing_reads, reads_as}
use Rattle.av1_syntax.specs.Partition.{IsParted, has_cols, has_rows, is_allowed}
use Rattle.av1_syntax.proofs.Elements.{partition_reads, skip_reads}
use Rattle.av1_step.specs.declared.error.StepFault.TheVariants.{TooLong, Broken}
use Rattle.av1_step.specs.declared.step.TileStep.{TileStep}
use Rattle.av1_step.specs.declared.step.TileStep.TheVariants.{RowStart, Block, Partition, Skip, IntraModeKf, UvMode, IntraMode, Cdef, FilterIntra, Palette, Lrf, Segment, DeltaLf, AngleDelta, CflAlphas, TxNote, TxIntra, TxInter, IsInter, RefFrames, Coeffs, InterMode, CompoundMode, Drl, MvRefs, Mv}
use Rattle.av1_step.specs.Effect.{Effect, Over, Parted, Unfilled, changed_by_all}
use Rattle.av1_step.specs.AngleSteps.{angle_delta_kind, cfl_alphas_kind}
use Rattle.av1_step.specs.DeltaSteps.{segment_kind, delta_lf_kind}
use Rattle.av1_step.specs.FilterSteps.{cdef_kind, filter_intra_kind, palette_kind}
use Rattle.av1_step.specs.InterSteps.{is_inter_kind, ref_frames_kind}
use Rattle.av1_step.specs.IntraSteps.{intra_mode_kf_kind, uv_mode_kind, intra_mode_kind}
use Rattle.av1_step.specs.ModeSteps.{inter_mode_kind, compound_mode_kind, drl_kind}
use Rattle.av1_step.specs.Kept.{IsBlock, IsKept, AllFit, AllAt}
use Rattle.av1_step.specs.Kind.{Kind, answers, holds, rules_of, of_none, of_current, IsKind}
use Rattle.av1_step.specs.Script.{tile_after, tokens_of}
use Rattle.av1_step.specs.Step.{is_split_on, row_start_kind, block_kind, partition_kind, skip_kind, step_fault, most_bits, Question, OfRowStart, OfBlock, OfPartition, OfSkip, OfIntraModeKf, OfUvMode, OfIntraMode, Answer, question_of, answer_of, kind_of, rules, syntax_of, symbols_of, effects_of, entered, is_untried, OfCdef, OfFilterIntra, OfPalette, OfLrf, OfSegment, OfDeltaLf, OfAngleDelta, OfCflAlphas, OfTxNote, OfTxIntra, OfTxInter, OfIsInter, OfRefFrames, OfLumaCoeffs, OfChromaCoeffs, OfInterMode, OfCompoundMode, OfDrl, OfMvRefs, OfMv}
use Rattle.av1_step.specs.Tile.{Tile, CurrentBlock, place_of_block, size_of_block, with_numbers, sampling, has_chroma_size}
use Rattle.av1_step.proofs.OfCurrent.{of_current_named, of_current_rules, of_current_places, current_bare}
use Rattle.av1_step.proofs.Effects.{all_kept, all_same, all_still, numbers_kept, still_sound}
use Rattle.av1_step.proofs.AngleSteps.{angle_delta_is_kind, cfl_alphas_is_kind}
use Rattle.av1_step.proofs.DeltaSteps.{segment_is_kind, delta_lf_is_kind}
use Rattle.av1_step.specs.TransformSteps.{note, tx_note_kind, tx_intra_kind, tx_inter_kind}
use Rattle.av1_step.proofs.CoeffSteps.{chroma_coeffs_is_kind, luma_coeffs_is_kind}
use Rattle.av1_step.proofs.InterSteps.{is_inter_is_kind, ref_frames_is_kind}
use Rattle.av1_step.proofs.IntraSteps.{intra_mode_kf_is_kind, uv_mode_is_kind, intra_mode_is_kind}
use Rattle.av1_step.proofs.ModeSteps.{inter_mode_is_kind, compound_mode_is_kind, drl_is_kind}
use Rattle.av1_step.proofs.FilterSteps.{cdef_is_kind, filter_intra_is_kind, palette_is_kind}
use Rattle.av1_step.proofs.RestorationSteps.{lrf_is_kind}
use Rattle.av1_step.proofs.KindLaws.{kind_reads, none_is, asking_holds, leads_step, step_apart, steps_ask}
use Rattle.av1_step.proofs.Places.{all_hold, both, is_at_most}
use Rattle.av1_step.proofs.Ready.{is_paired}
use Rattle.av1_step.proofs.TransformSteps.{tx_note_is_kind, tx_intra_is_kind, tx_inter_is_kind}
use Rattle.av1_step.specs.VectorSteps.{find, mv_refs_kind, mv_kind}
use Rattle.av1_step.proofs.VectorSteps.{mv_refs_is_kind, mv_is_kind}

-- a step's rules hold
abbrev pub IsAllowed : TileStep → Tile → Type 0
IsAllowed step t = first_broken (rules step t) ≡ None

pub is_below : (n m : ℕ) → nat_lt n m ≡ true → n < m
is_below n m h = grind (arith, nat_tests)

pub is_same : (n m : ℕ) → (n == m) ≡ true → n ≡ m
is_same n m h = grind (arith, nat_tests)

-- a row of superblocks begins
row_start_is_kind : (t : Tile) → IsKind t row_start_kind
row_start_is_kind t = record {
  reads = kind_reads row_start_kind (λ a. a ≡ tt) 0 (omega arith) (λ a h g. refl) (λ h. known_reads HasSymbols tt);
  fit = λ a h. (tt, tt);
  at_place = λ a. (tt, tt);
}

-- a block that keeps its rules can be entered
pub block_fits : (bo : BlockOffset) (size : BlockSize) (t : Tile) → holds (rules_of (block_kind bo size t) tt) ≡ true → IsBlock t.bc.blocks.cols t.bc.blocks.rows bo size
block_fits bo size t h =
    let all = all_hold (rules_of (block_kind bo size t) tt) (none_is _ h) in
    let inside = both _ _ all.0 in
    let coded = both _ _ all.1.0 in
    let sides = both _ _ (both _ _ coded.0).0 in
    let aligned = both _ _ coded.1 in
    record { column = is_below _ _ inside.0; row = is_below _ _ inside.1; width = is_at_most _ _ sides.0; height = is_at_most _ _ sides.1; aligned = (is_same _ _ aligned.0, is_same _ _ aligned.1) }

-- and its chroma has a size
block_coded : (bo : BlockOffset) (size : BlockSize) (t : Tile) → holds (rules_of (block_kind bo size t) tt) ≡ true → has_chroma_size (sampling t) size ≡ true
block_coded bo size t h =
    let all = all_hold (rules_of (block_kind bo size t) tt) (none_is _ h) in
    (both _ _ (both _ _ all.1.0).0).1

block_is_kind : (bo : BlockOffset) (size : BlockSize) (t : Tile) → IsKind t (block_kind bo size t)
block_is_kind bo size t = record {
  reads = kind_reads (block_kind bo size t) (λ a. a ≡ tt) 0 (omega arith) (λ a h g. refl) (λ h. known_reads HasSymbols tt);
  fit = λ a h. ((block_fits bo size t h, block_coded bo size t h), tt);
  at_place = λ a. (refl, tt);
}

-- a square that keeps its rules can be parted
pub can_part : (bo : BlockOffset) (size : BlockSize) (t : Tile) → IsKept t → holds (partition_kind bo size t).asking ≡ true → IsParted t.bc.blocks bo size
can_part bo size t k h =
    let all = all_hold (partition_kind bo size t).asking (none_is _ h) in
    let inside = both _ _ all.0 in
    let two = both _ _ all.1.0 in
    let sides = both _ _ two.0 in
    let square = both _ _ sides.0 in
    let aligned = both _ _ two.1 in
    let same : width_log2 size ≡ height_log2 size = is_same _ _ square.0 in
    let paired = is_paired t k in
    record {
      column = is_below _ _ inside.0;
      row = is_below _ _ inside.1;
      few = paired.few;
      pairs = (paired.cols, paired.rows);
      square = same;
      least = is_at_most _ _ square.1;
      most = is_at_most _ _ sides.1;
      aligned = (is_same _ _ aligned.0, subst (λ n. bo.y % 2 ^ (n - 2) ≡ 0) (sym same) (is_same _ _ aligned.1));
    }

pub parted_block : (t : Tile) (bo : BlockOffset) (size : BlockSize) → IsParted t.bc.blocks bo size → IsBlock t.bc.blocks.cols t.bc.blocks.rows bo size
parted_block t bo size p =
    record { column = p.column; row = p.row; width = p.most; height = omega (arith, p.square, p.most); aligned = (p.aligned.0, subst (λ n. bo.y % 2 ^ (n - 2) ≡ 0) p.square p.aligned.1) }

parted_fit : (t : Tile) (bo : BlockOffset) (size : BlockSize) (on : Bool) (o : Option BlockSize) → IsBlock t.bc.blocks.cols t.bc.blocks.rows bo size → AllFit t (if on then [] else option_map_or (λ subsize. Parted bo size subsize ∷ []) o [])
parted_fit t bo size true o b = tt
parted_fit t bo size false None b = tt
parted_fit t bo size false (Some subsize) b = (b, tt)

parted_at : (bo : BlockOffset) (size : BlockSize) (on : Bool) (o : Option BlockSize) → AllAt (Some bo) (if on then [] else option_map_or (λ subsize. Parted bo size subsize ∷ []) o [])
parted_at bo size true o = tt
parted_at bo size false None = tt
parted_at bo size false (Some subsize) = (refl, tt)

partition_is_kind : (bo : BlockOffset) (size : BlockSize) (t : Tile) → AreCdfs t.numbers → IsKept t → IsKind t (partition_kind bo size t)
partition_is_kind bo size t cdfs k = record {
  reads = kind_reads (partition_kind bo size t) (λ p. IsTrue (is_allowed (has_cols t.bc.blocks bo size) (has_rows t.bc.blocks bo size) size p)) 1 (omega arith)
      (λ p h g. (all_hold ((partition_kind bo size t).answering p) (none_is _ g)).0) (λ h. partition_reads t.numbers t.bc bo size cdfs (can_part bo size t k h));
  fit = λ p h. parted_fit t bo size (is_split_on size p) (subsize_of size p)
      (parted_block t bo size (can_part bo size t k (asking_holds (partition_kind bo size t).asking ((partition_kind bo size t).answering p) h)));
  at_place = λ p. parted_at bo size (is_split_on size p) (subsize_of size p);
}

-- where no block is the current one, nothing is read
none_is_kind : {A : Type 0} (t : Tile) (step : A → TileStep) → IsKind t (of_none step)
none_is_kind {A} t step = record {
  reads = reads_as HasSymbols nothing (λ a. holds (rules_of (of_none step) a) ≡ true) (λ a. holds (rules_of (of_none step) a) ≡ true) 0 (2 ^ 20) (λ a h. h) (λ a h. h) (omega arith)
      (nothing_reads HasSymbols (λ a. holds (rules_of (of_none step) a) ≡ true) (λ a h. let e : false ≡ true = h in cc));
  fit = λ a h. tt;
  at_place = λ a. tt;
}

current_is_kind : {A : Type 0} (t : Tile) (o : Option CurrentBlock) (step : A → TileStep) (f : CurrentBlock → Kind A) → ((b : CurrentBlock) → o ≡ Some b → IsKind t (f b)) → IsKind t (of_current o step f)
current_is_kind t None step f h = none_is_kind t step
current_is_kind t (Some b) step f h = h b refl

skip_fit : (t : Tile) (b : CurrentBlock) (on : Bool) → IsBlock t.bc.blocks.cols t.bc.blocks.rows (place_of_block b) (size_of_block b) →
    AllFit t (Over (place_of_block b) (size_of_block b) (λ x. record x { skip = on }) ∷ (if on then Unfilled (place_of_block b) (size_of_block b) ∷ [] else []))
skip_fit t b true h = (
  (h, λ x like fine. record { mode = fine.mode; segment = fine.segment; sound = still_sound x true x.cdef_index x.segmentation_idx x.deblock_deltas x.txsize fine.sound }, λ c is x e. e, λ c is. inl (λ x. refl)),
  (h, tt),
)
skip_fit t b false h = (
  (h, λ x like fine. record { mode = fine.mode; segment = fine.segment; sound = still_sound x false x.cdef_index x.segmentation_idx x.deblock_deltas x.txsize fine.sound }, λ c is x e. e, λ c is. inl (λ x. refl)),
  tt,
)

skip_at : (b : CurrentBlock) (on : Bool) → AllAt (Some (place_of_block b)) (Over (place_of_block b) (size_of_block b) (λ x. record x { skip = on }) ∷ (if on then Unfilled (place_of_block b) (size_of_block b) ∷ [] else []))
skip_at b true = (refl, (refl, tt))
skip_at b false = (refl, tt)

skip_is_kind : (t : Tile) (b : CurrentBlock) → IsBlock t.bc.blocks.cols t.bc.blocks.rows (place_of_block b) (size_of_block b) → IsKind t (skip_kind t b)
skip_is_kind t b h = record {
  reads = kind_reads (skip_kind t b) (λ on. Unit {0}) 1 (omega arith) (λ on h g. tt) (λ h. skip_reads t.bc.blocks (place_of_block b));
  fit = λ on g. skip_fit t b on h;
  at_place = λ on. skip_at b on;
}

-- what each kind brings
pub is_kind : (q : Question) (t : Tile) → AreCdfs t.numbers → IsKept t → IsKind t (kind_of q t)
is_kind OfRowStart t v k = row_start_is_kind t
is_kind (OfBlock bo size) t v k = block_is_kind bo size t
is_kind (OfPartition bo size) t v k = partition_is_kind bo size t v k
is_kind OfSkip t v k = current_is_kind t t.current Skip (skip_kind t) (λ b e. skip_is_kind t b (k.current b e))
is_kind OfSegment t v k = current_is_kind t t.current Segment (segment_kind t) (λ b e. segment_is_kind t b (k.current b e))
is_kind OfIntraModeKf t v k = current_is_kind t t.current IntraModeKf (intra_mode_kf_kind t) (λ b e. intra_mode_kf_is_kind t b e (k.current b e))
is_kind OfUvMode t v k = current_is_kind t t.current UvMode (uv_mode_kind t) (λ b e. uv_mode_is_kind t b k (k.current b e))
is_kind OfIntraMode t v k = current_is_kind t t.current IntraMode (intra_mode_kind t) (λ b e. intra_mode_is_kind t b e (k.current b e))
is_kind OfCdef t v k = current_is_kind t t.current Cdef (cdef_kind t) (λ b e. cdef_is_kind t b k (k.current b e))
is_kind OfDeltaLf t v k = current_is_kind t t.current DeltaLf (delta_lf_kind t) (λ b e. delta_lf_is_kind t b (k.current b e))
is_kind (OfAngleDelta chroma) t v k = current_is_kind t t.current (AngleDelta chroma) (angle_delta_kind chroma t) (λ b e. angle_delta_is_kind chroma t b)
is_kind OfCflAlphas t v k = current_is_kind t t.current CflAlphas (cfl_alphas_kind t) (λ b e. cfl_alphas_is_kind t b)
is_kind OfFilterIntra t v k = current_is_kind t t.current FilterIntra (filter_intra_kind t) (λ b e. filter_intra_is_kind t b (k.current b e))
is_kind OfPalette t v k = current_is_kind t t.current Palette (palette_kind t) (λ b e. palette_is_kind t b (k.current b e))
is_kind OfTxNote t v k = current_is_kind t t.current note (tx_note_kind t) (λ b e. tx_note_is_kind t b (k.current b e))
is_kind OfTxIntra t v k = current_is_kind t t.current TxIntra (tx_intra_kind t) (λ b e. tx_intra_is_kind t b e (k.current b e))
is_kind OfTxInter t v k = current_is_kind t t.current TxInter (tx_inter_kind t) (λ b e. tx_inter_is_kind t b e (k.current b e))
is_kind OfIsInter t v k = current_is_kind t t.current IsInter (is_inter_kind t) (λ b e. is_inter_is_kind t b e (k.current b e))
is_kind OfRefFrames t v k = current_is_kind t t.current RefFrames (ref_frames_kind t) (λ b e. ref_frames_is_kind t b e (k.current b e))
is_kind OfInterMode t v k = current_is_kind t t.current InterMode (inter_mode_kind t) (λ b e. inter_mode_is_kind t b k e)
is_kind OfCompoundMode t v k = current_is_kind t t.current CompoundMode (compound_mode_kind t) (λ b e. compound_mode_is_kind t b k e)
is_kind (OfDrl i) t v k = current_is_kind t t.current (Drl i) (drl_kind i t) (λ b e. drl_is_kind i t b k e)
is_kind (OfMvRefs has_tr) t v k = current_is_kind t t.current (find has_tr) (mv_refs_kind has_tr t) (λ b e. mv_refs_is_kind has_tr t b k)
is_kind (OfMv list) t v k = current_is_kind t t.current (Mv list) (mv_kind list t) (λ b e. mv_is_kind list t b k (k.current b e))
is_kind (OfLumaCoeffs bo) t v k = luma_coeffs_is_kind t k bo
is_kind (OfChromaCoeffs plane bo given) t v k = chroma_coeffs_is_kind t k plane bo given
is_kind (OfLrf plane) t v k = lrf_is_kind plane t k

-- a step is the one with its answer
step_named : (step : TileStep) (t : Tile) → (kind_of (question_of step) t).step (answer_of step) ≡ step
step_named RowStart t = refl
step_named (Block x y size) t = refl
step_named (Partition x y size p) t = refl
step_named (IntraModeKf m) t = of_current_named IntraModeKf (intra_mode_kf_kind t) t.current (λ b. refl) m
step_named (UvMode m) t = of_current_named UvMode (uv_mode_kind t) t.current (λ b. refl) m
step_named (IntraMode m) t = of_current_named IntraMode (intra_mode_kind t) t.current (λ b. refl) m
step_named (Skip on) t = of_current_named Skip (skip_kind t) t.current (λ b. refl) on
step_named (Segment i) t = of_current_named Segment (segment_kind t) t.current (λ b. refl) i
step_named (Cdef i) t = of_current_named Cdef (cdef_kind t) t.current (λ b. refl) i
step_named (DeltaLf ds) t = of_current_named DeltaLf (delta_lf_kind t) t.current (λ b. refl) ds
step_named (AngleDelta chroma a) t = of_current_named (AngleDelta chroma) (angle_delta_kind chroma t) t.current (λ b. refl) a
step_named (CflAlphas f) t = of_current_named CflAlphas (cfl_alphas_kind t) t.current (λ b. refl) f
step_named (FilterIntra on) t = of_current_named FilterIntra (filter_intra_kind t) t.current (λ b. refl) on
step_named (Palette on) t = of_current_named Palette (palette_kind t) t.current (λ b. refl) on
step_named TxNote t = of_current_named note (tx_note_kind t) t.current (λ b. refl) tt
step_named (TxIntra tx) t = of_current_named TxIntra (tx_intra_kind t) t.current (λ b. refl) tx
step_named (TxInter split) t = of_current_named TxInter (tx_inter_kind t) t.current (λ b. refl) split
step_named (IsInter on) t = of_current_named IsInter (is_inter_kind t) t.current (λ b. refl) on
step_named (RefFrames rs) t = of_current_named RefFrames (ref_frames_kind t) t.current (λ b. refl) rs
step_named (InterMode m) t = of_current_named InterMode (inter_mode_kind t) t.current (λ b. refl) m
step_named (CompoundMode m) t = of_current_named CompoundMode (compound_mode_kind t) t.current (λ b. refl) m
step_named (Drl i later) t = of_current_named (Drl i) (drl_kind i t) t.current (λ b. refl) later
step_named (MvRefs has_tr) t = of_current_named (find has_tr) (mv_refs_kind has_tr t) t.current (λ b. refl) tt
step_named (Mv list mv) t = of_current_named (Mv list) (mv_kind list t) t.current (λ b. refl) mv
step_named (Coeffs zero x y given levels) t = refl
step_named (Coeffs (suc plane) x y given levels) t = refl
step_named (Lrf plane filter) t = refl

-- what a step with an answer has
IsAsked : (q : Question) (t : Tile) (a : Answer q) → TileStep → Type 0
IsAsked q t a step = (question_of step ≡ q) × (rules step t ≡ rules_of (kind_of q t) a) × (symbols_of step t ≡ (answers (kind_of q t)).symbols a)

-- a step with an answer has its question, rules and symbols
asked : (q : Question) (t : Tile) (a : Answer q) → IsAsked q t a ((kind_of q t).step a)
unfolding IsAsked
asked OfRowStart t a = (refl, refl, refl)
asked (OfBlock bo size) t a = (refl, refl, refl)
asked (OfPartition bo size) t a = (refl, refl, refl)
asked OfIntraModeKf t a = subst (IsAsked OfIntraModeKf t a) (sym (of_current_named IntraModeKf (intra_mode_kf_kind t) t.current (λ b. refl) a)) (refl, refl, refl)
asked OfUvMode t a = subst (IsAsked OfUvMode t a) (sym (of_current_named UvMode (uv_mode_kind t) t.current (λ b. refl) a)) (refl, refl, refl)
asked OfIntraMode t a = subst (IsAsked OfIntraMode t a) (sym (of_current_named IntraMode (intra_mode_kind t) t.current (λ b. refl) a)) (refl, refl, refl)
asked OfSkip t a = subst (IsAsked OfSkip t a) (sym (of_current_named Skip (skip_kind t) t.current (λ b. refl) a)) (refl, refl, refl)
asked OfSegment t a = subst (IsAsked OfSegment t a) (sym (of_current_named Segment (segment_kind t) t.current (λ b. refl) a)) (refl, refl, refl)
asked OfCdef t a = subst (IsAsked OfCdef t a) (sym (of_current_named Cdef (cdef_kind t) t.current (λ b. refl) a)) (refl, refl, refl)
asked OfDeltaLf t a = subst (IsAsked OfDeltaLf t a) (sym (of_current_named DeltaLf (delta_lf_kind t) t.current (λ b. refl) a)) (refl, refl, refl)
asked (OfAngleDelta chroma) t a = subst (IsAsked (OfAngleDelta chroma) t a) (sym (of_current_named (AngleDelta chroma) (angle_delta_kind chroma t) t.current (λ b. refl) a)) (refl, refl, refl)
asked OfCflAlphas t a = subst (IsAsked OfCflAlphas t a) (sym (of_current_named CflAlphas (cfl_alphas_kind t) t.current (λ b. refl) a)) (refl, refl, refl)
asked OfFilterIntra t a = subst (IsAsked OfFilterIntra t a) (sym (of_current_named FilterIntra (filter_intra_kind t) t.current (λ b. refl) a)) (refl, refl, refl)
asked OfPalette t a = subst (IsAsked OfPalette t a) (sym (of_current_named Palette (palette_kind t) t.current (λ b. refl) a)) (refl, refl, refl)
asked OfTxNote t a = subst (IsAsked OfTxNote t a) (sym (of_current_named note (tx_note_kind t) t.current (λ b. refl) a)) (refl, refl, refl)
asked OfTxIntra t a = subst (IsAsked OfTxIntra t a) (sym (of_current_named TxIntra (tx_intra_kind t) t.current (λ b. refl) a)) (refl, refl, refl)
asked OfTxInter t a = subst (IsAsked OfTxInter t a) (sym (of_current_named TxInter (tx_inter_kind t) t.current (λ b. refl) a)) (refl, refl, refl)
asked OfIsInter t a = subst (IsAsked OfIsInter t a) (sym (of_current_named IsInter (is_inter_kind t) t.current (λ b. refl) a)) (refl, refl, refl)
asked OfRefFrames t a = subst (IsAsked OfRefFrames t a) (sym (of_current_named RefFrames (ref_frames_kind t) t.current (λ b. refl) a)) (refl, refl, refl)
asked OfInterMode t a = subst (IsAsked OfInterMode t a) (sym (of_current_named InterMode (inter_mode_kind t) t.current (λ b. refl) a)) (refl, refl, refl)
asked OfCompoundMode t a = subst (IsAsked OfCompoundMode t a) (sym (of_current_named CompoundMode (compound_mode_kind t) t.current (λ b. refl) a)) (refl, refl, refl)
asked (OfDrl i) t a = subst (IsAsked (OfDrl i) t a) (sym (of_current_named (Drl i) (drl_kind i t) t.current (λ b. refl) a)) (refl, refl, refl)
asked (OfMvRefs has_tr) t a = subst (IsAsked (OfMvRefs has_tr) t a) (sym (of_current_named (find has_tr) (mv_refs_kind has_tr t) t.current (λ b. refl) a)) (refl, refl, refl)
asked (OfMv list) t a = subst (IsAsked (OfMv list) t a) (sym (of_current_named (Mv list) (mv_kind list t) t.current (λ b. refl) a)) (refl, refl, refl)
asked (OfLumaCoeffs bo) t a = (refl, refl, refl)
asked (OfChromaCoeffs plane bo given) t a = (refl, refl, refl)
asked (OfLrf plane) t a = (refl, refl, refl)

is_asked : (q : Question) (t : Tile) (a : Answer q) → let step = (kind_of q t).step a in (question_of step ≡ q) × (rules step t ≡ rules_of (kind_of q t) a) × (symbols_of step t ≡ (answers (kind_of q t)).symbols a)
unfolding IsAsked
is_asked q t a = asked q t a

-- the symbols of an allowed step lead to it
pub leads : (step : TileStep) (t : Tile) → AreCdfs t.numbers → IsKept t → IsAllowed step t → Leads (syntax_of (question_of step) t) (symbols_of step t) step
leads step t v k h =
    let q = question_of step in
    subst (λ (s : TileStep). Leads (syntax_of q t) (symbols_of step t) s) (step_named step t) (leads_step t (kind_of q t) (is_kind q t v k) (answer_of step) h)

-- no other symbols lead to a step that answers the question
pub one_path : (q : Question) (t : Tile) (ss : List ℕ) (step : TileStep) → AreCdfs t.numbers → IsKept t → Leads (syntax_of q t) ss step → (question_of step ≡ q) × IsAllowed step t × (ss ≡ symbols_of step t)
one_path q t ss step v k h =
    let x = step_apart t (kind_of q t) (is_kind q t v k) ss step h in
    let n = is_asked q t x.0 in
    subst (λ (s : TileStep). (question_of s ≡ q) × IsAllowed s t × (ss ≡ symbols_of s t)) x.1 (n.0, ap first_broken n.1 ∙ x.2, x.3 ∙ sym n.2)

-- each symbol is one of a valid distribution, and the distributions stay valid
pub fits_after : (step : TileStep) (t : Tile) → AreCdfs t.numbers → IsKept t → IsAllowed step t →
    Fits coded_by (learnt t.learns) (syntax_of (question_of step) t) (symbols_of step t) t.numbers × AreCdfs (context_along coded_by (learnt t.learns) (syntax_of (question_of step) t) (symbols_of step t) t.numbers)
fits_after step t v k h =
    fits_asked HasSymbols coded_by (learnt t.learns) AreCdfs (keeps_cdfs t.learns) (syntax_of (question_of step) t) (symbols_of step t) step t.numbers v
    (steps_ask t (kind_of (question_of step) t) (is_kind (question_of step) t v k)) (leads step t v k h)

pub fits : (step : TileStep) (t : Tile) → AreCdfs t.numbers → IsKept t → IsAllowed step t → Fits coded_by (learnt t.learns) (syntax_of (question_of step) t) (symbols_of step t) t.numbers
fits step t v k h = (fits_after step t v k h).0

-- a step has few symbols
pub few_symbols : (step : TileStep) (t : Tile) → AreCdfs t.numbers → IsKept t → IsAllowed step t → length (symbols_of step t) ≤ 2 ^ 20
few_symbols step t v k h = (is_kind (question_of step) t v k).reads.few (answer_of step) (ap is_none h)

-- what no step changes
pub entered_same : (step : TileStep) (t : Tile) → ((entered step t).numbers ≡ t.numbers) × ((entered step t).number ≡ t.number) × ((entered step t).learns ≡ t.learns)
entered_same step t = let s = all_same (effects_of step t) t in (s.numbers, s.number, s.learns)

-- a step keeps the distributions valid
pub cdfs_after : (t : Tile) (step : TileStep) → AreCdfs t.numbers → IsKept t → IsAllowed step t → AreCdfs (tile_after t step).numbers
cdfs_after t step v k h =
    let c = context_along coded_by (learnt t.learns) (syntax_of (question_of step) t) (symbols_of step t) t.numbers in
    subst AreCdfs (sym (entered_same step (with_numbers c t)).0) (fits_after step t v k h).1

-- the rules of a step do not speak of the numbers
same_rules : (step : TileStep) (ns : List ℕ) (t : Tile) → rules step (with_numbers ns t) ≡ rules step t
same_rules RowStart ns t = refl
same_rules (Block x y size) ns t = refl
same_rules (Partition x y size p) ns t = refl
same_rules (IntraModeKf m) ns t = of_current_rules IntraModeKf (intra_mode_kf_kind (with_numbers ns t)) (intra_mode_kf_kind t) t.current m (λ b. refl)
same_rules (UvMode m) ns t = of_current_rules UvMode (uv_mode_kind (with_numbers ns t)) (uv_mode_kind t) t.current m (λ b. refl)
same_rules (IntraMode m) ns t = of_current_rules IntraMode (intra_mode_kind (with_numbers ns t)) (intra_mode_kind t) t.current m (λ b. refl)
same_rules (Skip on) ns t = of_current_rules Skip (skip_kind (with_numbers ns t)) (skip_kind t) t.current on (λ b. refl)
same_rules (Segment i) ns t = of_current_rules Segment (segment_kind (with_numbers ns t)) (segment_kind t) t.current i (λ b. refl)
same_rules (Cdef i) ns t = of_current_rules Cdef (cdef_kind (with_numbers ns t)) (cdef_kind t) t.current i (λ b. refl)
same_rules (DeltaLf ds) ns t = of_current_rules DeltaLf (delta_lf_kind (with_numbers ns t)) (delta_lf_kind t) t.current ds (λ b. refl)
same_rules (AngleDelta chroma a) ns t = of_current_rules (AngleDelta chroma) (angle_delta_kind chroma (with_numbers ns t)) (angle_delta_kind chroma t) t.current a (λ b. refl)
same_rules (CflAlphas f) ns t = of_current_rules CflAlphas (cfl_alphas_kind (with_numbers ns t)) (cfl_alphas_kind t) t.current f (λ b. refl)
same_rules (FilterIntra on) ns t = of_current_rules FilterIntra (filter_intra_kind (with_numbers ns t)) (filter_intra_kind t) t.current on (λ b. refl)
same_rules (Palette on) ns t = of_current_rules Palette (palette_kind (with_numbers ns t)) (palette_kind t) t.current on (λ b. refl)
same_rules TxNote ns t = of_current_rules note (tx_note_kind (with_numbers ns t)) (tx_note_kind t) t.current tt (λ b. refl)
same_rules (TxIntra tx) ns t = of_current_rules TxIntra (tx_intra_kind (with_numbers ns t)) (tx_intra_kind t) t.current tx (λ b. refl)
same_rules (TxInter split) ns t = of_current_rules TxInter (tx_inter_kind (with_numbers ns t)) (tx_inter_kind t) t.current split (λ b. refl)
same_rules (IsInter on) ns t = of_current_rules IsInter (is_inter_kind (with_numbers ns t)) (is_inter_kind t) t.current on (λ b. refl)
same_rules (RefFrames rs) ns t = of_current_rules RefFrames (ref_frames_kind (with_numbers ns t)) (ref_frames_kind t) t.current rs (λ b. refl)
same_rules (InterMode m) ns t = of_current_rules InterMode (inter_mode_kind (with_numbers ns t)) (inter_mode_kind t) t.current m (λ b. refl)
same_rules (CompoundMode m) ns t = of_current_rules CompoundMode (compound_mode_kind (with_numbers ns t)) (compound_mode_kind t) t.current m (λ b. refl)
same_rules (Drl i later) ns t = of_current_rules (Drl i) (drl_kind i (with_numbers ns t)) (drl_kind i t) t.current later (λ b. refl)
same_rules (MvRefs has_tr) ns t = of_current_rules (find has_tr) (mv_refs_kind has_tr (with_numbers ns t)) (mv_refs_kind has_tr t) t.current tt (λ b. refl)
same_rules (Mv list mv) ns t = of_current_rules (Mv list) (mv_kind list (with_numbers ns t)) (mv_kind list t) t.current mv (λ b. refl)
same_rules (Coeffs zero x y given levels) ns t = refl
same_rules (Coeffs (suc plane) x y given levels) ns t = refl
same_rules (Lrf plane filter) ns t = refl

-- a step keeps what every state keeps
pub kept_after : (step : TileStep) (ns : List ℕ) (t : Tile) → AreCdfs ns → IsKept t → IsAllowed step t → IsKept (entered step (with_numbers ns t))
kept_after step ns t v k h =
    let u = with_numbers ns t in
    let still : IsKept u = numbers_kept ns t k in
    all_kept (effects_of step u) u ((is_kind (question_of step) u v still).fit (answer_of step) (ap is_none (ap first_broken (same_rules step ns t) ∙ h))) still

-- also with the numbers that its symbols leave
pub kept_past : (t : Tile) (step : TileStep) → AreCdfs t.numbers → IsKept t → IsAllowed step t → IsKept (tile_after t step)
kept_past t step v k h = kept_after step (context_along coded_by (learnt t.learns) (syntax_of (question_of step) t) (symbols_of step t) t.numbers) t (fits_after step t v k h).1 k h

-- what a step changes fits, whatever the numbers
pub step_fit : (step : TileStep) (ns : List ℕ) (t : Tile) → AreCdfs ns → IsKept t → IsAllowed step t → AllFit (with_numbers ns t) (effects_of step (with_numbers ns t))
step_fit step ns t v k h =
    let u = with_numbers ns t in
    (is_kind (question_of step) u v (numbers_kept ns t k)).fit (answer_of step) (ap is_none (ap first_broken (same_rules step ns t) ∙ h))

-- the place of a step is not by the numbers
same_place : (q : Question) (ns : List ℕ) (t : Tile) → (kind_of q (with_numbers ns t)).place ≡ (kind_of q t).place
same_place OfRowStart ns t = refl
same_place (OfBlock bo size) ns t = refl
same_place (OfPartition bo size) ns t = refl
same_place OfIntraModeKf ns t = of_current_places IntraModeKf (intra_mode_kf_kind (with_numbers ns t)) (intra_mode_kf_kind t) t.current (λ b. refl)
same_place OfUvMode ns t = of_current_places UvMode (uv_mode_kind (with_numbers ns t)) (uv_mode_kind t) t.current (λ b. refl)
same_place OfIntraMode ns t = of_current_places IntraMode (intra_mode_kind (with_numbers ns t)) (intra_mode_kind t) t.current (λ b. refl)
same_place OfSkip ns t = of_current_places Skip (skip_kind (with_numbers ns t)) (skip_kind t) t.current (λ b. refl)
same_place OfSegment ns t = of_current_places Segment (segment_kind (with_numbers ns t)) (segment_kind t) t.current (λ b. refl)
same_place OfCdef ns t = of_current_places Cdef (cdef_kind (with_numbers ns t)) (cdef_kind t) t.current (λ b. refl)
same_place OfDeltaLf ns t = of_current_places DeltaLf (delta_lf_kind (with_numbers ns t)) (delta_lf_kind t) t.current (λ b. refl)
same_place (OfAngleDelta chroma) ns t = of_current_places (AngleDelta chroma) (angle_delta_kind chroma (with_numbers ns t)) (angle_delta_kind chroma t) t.current (λ b. refl)
same_place OfCflAlphas ns t = of_current_places CflAlphas (cfl_alphas_kind (with_numbers ns t)) (cfl_alphas_kind t) t.current (λ b. refl)
same_place OfFilterIntra ns t = of_current_places FilterIntra (filter_intra_kind (with_numbers ns t)) (filter_intra_kind t) t.current (λ b. refl)
same_place OfPalette ns t = of_current_places Palette (palette_kind (with_numbers ns t)) (palette_kind t) t.current (λ b. refl)
same_place OfTxNote ns t = of_current_places note (tx_note_kind (with_numbers ns t)) (tx_note_kind t) t.current (λ b. refl)
same_place OfTxIntra ns t = of_current_places TxIntra (tx_intra_kind (with_numbers ns t)) (tx_intra_kind t) t.current (λ b. refl)
same_place OfTxInter ns t = of_current_places TxInter (tx_inter_kind (with_numbers ns t)) (tx_inter_kind t) t.current (λ b. refl)
same_place OfIsInter ns t = of_current_places IsInter (is_inter_kind (with_numbers ns t)) (is_inter_kind t) t.current (λ b. refl)
same_place OfRefFrames ns t = of_current_places RefFrames (ref_frames_kind (with_numbers ns t)) (ref_frames_kind t) t.current (λ b. refl)
same_place OfInterMode ns t = of_current_places InterMode (inter_mode_kind (with_numbers ns t)) (inter_mode_kind t) t.current (λ b. refl)
same_place OfCompoundMode ns t = of_current_places CompoundMode (compound_mode_kind (with_numbers ns t)) (compound_mode_kind t) t.current (λ b. refl)
same_place (OfDrl i) ns t = of_current_places (Drl i) (drl_kind i (with_numbers ns t)) (drl_kind i t) t.current (λ b. refl)
same_place (OfMvRefs has_tr) ns t = of_current_places (find has_tr) (mv_refs_kind has_tr (with_numbers ns t)) (mv_refs_kind has_tr t) t.current (λ b. refl)
same_place (OfMv list) ns t = of_current_places (Mv list) (mv_kind list (with_numbers ns t)) (mv_kind list t) t.current (λ b. refl)
same_place (OfLumaCoeffs bo) ns t = refl
same_place (OfChromaCoeffs plane bo given) ns t = refl
same_place (OfLrf plane) ns t = refl

pub step_at : (step : TileStep) (ns : List ℕ) (t : Tile) → AreCdfs ns → IsKept t → AllAt (kind_of (question_of step) t).place (effects_of step (with_numbers ns t))
step_at step ns t v k =
    subst (λ o. AllAt o (effects_of step (with_numbers ns t))) (same_place (question_of step) ns t) ((is_kind (question_of step) (with_numbers ns t) v (numbers_kept ns t k)).at_place (answer_of step))

-- a step that a trial can have changes nothing where it has no place
bare : (step : TileStep) (t : Tile) → is_untried step ≡ false → (kind_of (question_of step) t).place ≡ None → effects_of step t ≡ []
bare RowStart t tried h = cc
bare (Block x y size) t tried h = cc
bare (Partition x y size p) t tried h = cc
bare (IntraModeKf m) t tried h = current_bare IntraModeKf (intra_mode_kf_kind t) t.current (λ b. refl) m h
bare (UvMode m) t tried h = current_bare UvMode (uv_mode_kind t) t.current (λ b. refl) m h
bare (IntraMode m) t tried h = current_bare IntraMode (intra_mode_kind t) t.current (λ b. refl) m h
bare (Skip on) t tried h = current_bare Skip (skip_kind t) t.current (λ b. refl) on h
bare (Segment i) t tried h = current_bare Segment (segment_kind t) t.current (λ b. refl) i h
bare (Cdef i) t tried h = current_bare Cdef (cdef_kind t) t.current (λ b. refl) i h
bare (DeltaLf ds) t tried h = current_bare DeltaLf (delta_lf_kind t) t.current (λ b. refl) ds h
bare (AngleDelta chroma a) t tried h = current_bare (AngleDelta chroma) (angle_delta_kind chroma t) t.current (λ b. refl) a h
bare (CflAlphas f) t tried h = current_bare CflAlphas (cfl_alphas_kind t) t.current (λ b. refl) f h
bare (FilterIntra on) t tried h = current_bare FilterIntra (filter_intra_kind t) t.current (λ b. refl) on h
bare (Palette on) t tried h = current_bare Palette (palette_kind t) t.current (λ b. refl) on h
bare TxNote t tried h = current_bare note (tx_note_kind t) t.current (λ b. refl) tt h
bare (TxIntra tx) t tried h = current_bare TxIntra (tx_intra_kind t) t.current (λ b. refl) tx h
bare (TxInter split) t tried h = current_bare TxInter (tx_inter_kind t) t.current (λ b. refl) split h
bare (IsInter on) t tried h = current_bare IsInter (is_inter_kind t) t.current (λ b. refl) on h
bare (RefFrames rs) t tried h = current_bare RefFrames (ref_frames_kind t) t.current (λ b. refl) rs h
bare (InterMode m) t tried h = current_bare InterMode (inter_mode_kind t) t.current (λ b. refl) m h
bare (CompoundMode m) t tried h = current_bare CompoundMode (compound_mode_kind t) t.current (λ b. refl) m h
bare (Drl i later) t tried h = current_bare (Drl i) (drl_kind i t) t.current (λ b. refl) later h
bare (MvRefs has_tr) t tried h = current_bare (find has_tr) (mv_refs_kind has_tr t) t.current (λ b. refl) tt h
bare (Mv list mv) t tried h = current_bare (Mv list) (mv_kind list t) t.current (λ b. refl) mv h
bare (Coeffs zero x y given levels) t tried h = cc
bare (Coeffs (suc plane) x y given levels) t tried h = cc
bare (Lrf plane filter) t tried h = cc

-- and it leaves what restoration filters refer to
pub tried_still : (step : TileStep) (ns : List ℕ) (t : Tile) → AreCdfs ns → IsKept t → is_untried step ≡ false → (entered step (with_numbers ns t)).rs ≡ t.rs
tried_still step ns t v k tried = at_place (kind_of (question_of step) t).place refl
  where
    at_place : (o : Option BlockOffset) → (kind_of (question_of step) t).place ≡ o → (entered step (with_numbers ns t)).rs ≡ t.rs
    at_place None e = ap (λ (es : List Effect). (changed_by_all es (with_numbers ns t)).rs) (bare step (with_numbers ns t) tried (same_place (question_of step) ns t ∙ e))
    at_place (Some bo) e = all_still (effects_of step (with_numbers ns t)) bo (with_numbers ns t) (subst (λ o. AllAt o (effects_of step (with_numbers ns t))) e (step_at step ns t v k))

-- what a writer stores of a step, and the numbers after it
pub step_written : (step : TileStep) (t : Tile) (p there : Position) (numbers : List ℕ) → AreCdfs t.numbers → IsKept t → Writes coded_by (learnt t.learns) (syntax_of (question_of step) t) step (standing p t.numbers) (standing there numbers) →
    (there ≡ advance_all p (tokens_of step t)) × (numbers ≡ context_along coded_by (learnt t.learns) (syntax_of (question_of step) t) (symbols_of step t) t.numbers)
step_written step t p there numbers v k w =
    let tree = syntax_of (question_of step) t in
    let one = (one_path (question_of step) t w.symbols step v k w.follows).2 in
    let e : standing there numbers ≡ standing (advance_all p (tokens_of step t)) (context_along coded_by (learnt t.learns) tree (symbols_of step t) t.numbers) =
    w.wrote ∙ ap (λ ss. stored_along coded_by (learnt t.learns) tree ss (standing p t.numbers)) one ∙ stored_is coded_by (learnt t.learns) tree (symbols_of step t) (standing p t.numbers) in
    (ap (λ (s : Standing (List ℕ)). s.position) e, ap (λ (s : Standing (List ℕ)). s.context) e)

-- what a writer has stored of a step that was refused: a front of its symbols
pub step_begun : (step : TileStep) (t : Tile) (old new : Standing (List ℕ)) → AreCdfs t.numbers → IsKept t → Begins coded_by (learnt t.learns) (syntax_of (question_of step) t) step old new →
    (front : List ℕ) × (rest : List ℕ) × (front ++ rest ≡ symbols_of step t) × (new ≡ stored_along coded_by (learnt t.learns) (syntax_of (question_of step) t) front old)
step_begun step t old new v k b =
    let tree = syntax_of (question_of step) t in
    let one = one_path (question_of step) t (b.comes.symbols ++ b.rest) step v k (begins_front coded_by (learnt t.learns) tree step old new b) in
    (b.comes.symbols, b.rest, one.2, b.comes.wrote)

-- a step with no fault breaks no rule, and begins early enough
pub faultless : (t : Tile) (bits : ℕ) (step : TileStep) → step_fault t bits step ≡ None → (bits ≤ most_bits) × IsAllowed step t
faultless t bits step h = let n = neither (nat_lt most_bits bits) (first_broken (rules step t)) h in (grind (arith, nat_tests, n.0), n.1)
  where
    neither : (long : Bool) (o : Option Rule) → (if long then Some TooLong else option_map Broken o) ≡ None → (long ≡ false) × (o ≡ None)
    neither true o e = cc
    neither false None e = (refl, refl)
    neither false (Some rule) e = cc

-- nor has it a fault after fewer bits
pub still_faultless : (t : Tile) (bits fewer : ℕ) (step : TileStep) → fewer ≤ bits → step_fault t bits step ≡ None → step_fault t fewer step ≡ None
still_faultless t bits fewer step h none =
    let f = faultless t bits step none in
    let early : nat_lt most_bits fewer ≡ false = grind (arith, nat_tests, f.0, h) in
    ap (λ b. if b then Some TooLong else option_map Broken (first_broken (rules step t))) early
    ∙ ap (λ o. option_map Broken o) f.1
