-- What the kinds of step for segments and for the deltas of the loop filter bring.
use Rattle.std.proofs.Common.{◌≡◌, ℕ, zero, suc, ◌+◌, ◌<◌, ◌≤◌, ◌==◌, ◌&&◌, ℤ, pos, List, [], ◌∷◌, Bool, true, false, Some, None, Result, if◌then◌else◌, length, nat_le, nat_lt, codes, refl, sym, ap, subst, ◌∙◌, arith, inl}
use Rattle.std.proofs.Math.ListN.{get_or-eq_default}
use Rattle.std.proofs.lemmas.Bool.Decides.{nat_tests}
use Rattle.av1_blocks.specs.declared.block.Block.{Block}
use Rattle.av1_blocks.specs.declared.block_context.BlockContext.{BlockContext}
use Rattle.av1_blocks.specs.Grid.{Grid, IsInside, block_at, over}
use Rattle.av1_cdf.specs.Distribution.{Distribution}
use Rattle.av1_frame.specs.declared.state.SegmentationState.{SegmentationState}
use Rattle.av1_geometry.specs.Cfl.{magnitude}
use Rattle.av1_geometry.specs.ChromaSampling.{planes_of}
use Rattle.av1_geometry.specs.declared.block_offset.BlockOffset.{BlockOffset}
use Rattle.av1_geometry.specs.declared.block_size.BlockSize.TheVariants.{BLOCK_4X4}
use Rattle.av1_geometry.specs.declared.chroma_sampling.ChromaSampling.{ChromaSampling}
use Rattle.av1_geometry.specs.declared.chroma_sampling.ChromaSampling.TheVariants.{Cs420, Cs422, Cs444, Cs400}
use Rattle.av1_geometry.specs.Rules.{first_broken}
use Rattle.av1_model.specs.Comes.{Standing, Begins, Writes, Wrote}
use Rattle.av1_model.specs.Element.{Element, known, symbol, choose}
use Rattle.av1_syntax.specs.Calls.{adaptive}
use Rattle.av1_syntax.specs.Deltas.{delta_at, deltas_element, AreDeltas}
use Rattle.av1_syntax.specs.Segments.{interleaved, deinterleaved, predicted_segment, segment_context, segment_of, segment_element, IsSegment}
use Rattle.av1_syntax.proofs.DeltaReads.{count_few, deltas_reads, zero_is}
use Rattle.av1_syntax.proofs.Readings.{segment_reads}
use Rattle.av1_syntax.proofs.Segments.{predicted_few, segment_skipped}
use Rattle.av1_syntax.specs.Calls.{Context, coded_in, learnt_in}
use Rattle.av1_step.specs.DeltaSteps.{IsWhole, are_segments_coded, is_skipped, is_delta_at, are_deltas, block_deltas, segment_kind, delta_lf_kind}
use Rattle.av1_step.specs.Effect.{Over, changed_by_all}
use Rattle.av1_step.specs.Kept.{IsBlock, IsKept}
use Rattle.av1_step.specs.Kind.{rules_of, IsKind}
use Rattle.av1_step.specs.Tile.{Tile, CurrentBlock, place_of_block, size_of_block, sampling, with_numbers}
use Rattle.av1_step.proofs.Effects.{still_sound}
use Rattle.av1_step.proofs.KindLaws.{kind_reads, none_is}
use Rattle.av1_step.proofs.OneBlock.{block_here, taken_back, prediction_stays, context_stays}
use Rattle.av1_step.proofs.Places.{all_hold, both, is_at_most}

-- a change over the current block is entered
pub over_entered : (t : Tile) (b : CurrentBlock) (f : Block → Block) (ns : List ℕ) (bc : BlockContext) (g : Grid) → bc ≡ t.bc → g ≡ over (place_of_block b) (size_of_block b) f bc.blocks →
    record t { numbers = ns; bc = record bc { blocks = g } } ≡ changed_by_all (Over (place_of_block b) (size_of_block b) f ∷ []) (with_numbers ns t)
over_entered t b f ns bc g same entered =
    ap (λ (h : Grid). record t { numbers = ns; bc = record bc { blocks = h } }) entered
    ∙ ap (λ (c : BlockContext). record t { numbers = ns; bc = record c { blocks = over (place_of_block b) (size_of_block b) f c.blocks } }) same

-- the grid of a tile is a whole frame
pub is_whole : (t : Tile) → IsKept t → IsWhole t.bc.blocks
is_whole t k = record { corner = k.sides.corner; cols = k.sides.frame.0; all = k.sides.all }

is_equal : (n m : ℕ) → (n == m) ≡ true → n ≡ m
is_equal n m h = grind (arith, nat_tests)

segment_is : (g : Grid) (bo : BlockOffset) (skip : Bool) (last i : ℕ) → (if skip then i == predicted_segment g bo last else nat_le i last) ≡ true → IsSegment g bo skip last i
segment_is g bo true last i h = is_equal i (predicted_segment g bo last) h
segment_is g bo false last i h = is_at_most i last h

segment_few : (g : Grid) (bo : BlockOffset) (skip : Bool) (last i : ℕ) → IsSegment g bo skip last i → i ≤ last
segment_few g bo true last i h = let p = predicted_few g bo last in omega (arith, h, p)
segment_few g bo false last i h = h

last_few : (s : SegmentationState) → are_segments_coded s ≡ true → s.last_active_segid ≤ 7
last_few s h = is_at_most s.last_active_segid 7 (both (s.enabled && s.update_map) (nat_le s.last_active_segid 7) h).1

-- what an allowed segment has
pub record IsGoodSegment (t : Tile) (b : CurrentBlock) (i : ℕ) : Type 0 where
  pub last : t.given.fs.segmentation.last_active_segid ≤ 7
  pub segment : IsSegment t.bc.blocks (place_of_block b) (is_skipped t b) t.given.fs.segmentation.last_active_segid i
  pub few : i ≤ 7

pub segment_allowed : (t : Tile) (b : CurrentBlock) (i : ℕ) → first_broken (rules_of (segment_kind t b) i) ≡ None → IsGoodSegment t b i
segment_allowed t b i h =
    let all = all_hold (rules_of (segment_kind t b) i) h in
    let last : t.given.fs.segmentation.last_active_segid ≤ 7 = last_few t.given.fs.segmentation all.1.0 in
    let segment = segment_is t.bc.blocks (place_of_block b) (is_skipped t b) t.given.fs.segmentation.last_active_segid i all.1.1.0 in
    record { last = last; segment = segment; few = omega (arith, last, segment_few t.bc.blocks (place_of_block b) (is_skipped t b) t.given.fs.segmentation.last_active_segid i segment) }

pub segment_is_kind : (t : Tile) (b : CurrentBlock) → IsBlock t.bc.blocks.cols t.bc.blocks.rows (place_of_block b) (size_of_block b) → IsKind t (segment_kind t b)
segment_is_kind t b h =
    let g = t.bc.blocks in
    let bo = place_of_block b in
    let skip = is_skipped t b in
    let last = t.given.fs.segmentation.last_active_segid in
    record {
      reads = kind_reads (segment_kind t b) (IsSegment g bo skip last) 1 (omega arith) (λ i asked r. segment_is g bo skip last i (all_hold ((segment_kind t b).answering i) (none_is _ r)).0)
          (λ asked. segment_reads g bo skip last (last_few t.given.fs.segmentation (all_hold (segment_kind t b).asking (none_is _ asked)).1.0));
      fit = λ i r. let good = segment_allowed t b i (none_is _ r) in ((h, λ x like fine. record { mode = fine.mode; segment = good.few; sound = still_sound x x.skip x.cdef_index i x.deblock_deltas x.txsize fine.sound }, λ c is x e. e, λ c is. inl (λ x. refl)), tt);
      at_place = λ i. (refl, tt);
    }

-- the element of a segment, by what is predicted
abbrev element_by : Bool → ℕ → ℕ → ℕ → Element Distribution ℕ
element_by skip last r context =
    choose skip (known r) (symbol (adaptive (codes "spatial_segmentation_cdfs") (context ∷ [])) (λ s. if nat_lt s (last + 1) then Some (deinterleaved (last + 1) r s) else None) (interleaved (last + 1) r))

-- nothing is coded of the segment of a skipped block
pub segment_none : (g : Grid) (bo : BlockOffset) (skip : Bool) (last i : ℕ) (at : Standing Context) → skip ≡ true → IsSegment g bo skip last i → Writes coded_in learnt_in (segment_element g bo skip last).tree i at at
segment_none g bo true last i at h is = subst (λ n. Writes coded_in learnt_in (segment_element g bo true last).tree n at at) (sym is) (segment_skipped g bo true last at refl)
segment_none g bo false last i at h is = absurd cc

-- where a change of a grid was taken back, the edges and the grid are as before
pub as_before : (old next : BlockContext) (bo : BlockOffset) (f h : Block → Block) (first last : Grid) → IsWhole old.blocks → IsInside old.blocks bo → first ≡ over bo BLOCK_4X4 f old.blocks → next ≡ record old { blocks = first } → last ≡ over bo BLOCK_4X4 h next.blocks →
    h (f (block_at old.blocks bo.x bo.y)) ≡ block_at old.blocks bo.x bo.y → record next { blocks = last } ≡ old
as_before old next bo f h first last w i one two three e =
    ap (λ (g : Grid). record next { blocks = g }) three
    ∙ ap (λ (bc : BlockContext). record bc { blocks = over bo BLOCK_4X4 h bc.blocks }) two
    ∙ ap (λ (g : Grid). record old { blocks = over bo BLOCK_4X4 h g }) one
    ∙ ap (λ (g : Grid). record old { blocks = g }) (taken_back old.blocks bo w i f h e)

-- the segment of a block that is not skipped, where it had been entered there, is one that is used
pub segment_here : (g next : Grid) (bo : BlockOffset) (skip : Bool) (last i : ℕ) → IsWhole g → IsInside g bo → skip ≡ false → IsSegment g bo skip last i → next ≡ over bo BLOCK_4X4 (λ b. record b { segmentation_idx = i }) g → (block_at next bo.x bo.y).segmentation_idx ≤ last
segment_here g next bo true last i w inside off h is = absurd cc
segment_here g next bo false last i w inside off h is =
    let f = λ (b : Block). record b { segmentation_idx = i } in
    let entered : (block_at next bo.x bo.y).segmentation_idx ≡ i = ap (λ (k : Grid). (block_at k bo.x bo.y).segmentation_idx) is ∙ ap (λ (b : Block). b.segmentation_idx) (block_here g bo w inside f) in
    subst (λ n. n ≤ last) (sym entered) h

-- the segment of a block was coded where it had been entered there
pub segment_as : {U E : Type 0} (r : Result U E) (g next : Grid) (bo : BlockOffset) (skip : Bool) (last i : ℕ) (from to : Standing Context) → IsWhole g → IsInside g bo → skip ≡ false → next ≡ over bo BLOCK_4X4 (λ b. record b { segmentation_idx = i }) g →
    Wrote coded_in learnt_in r (segment_element next bo false last).tree (segment_of next bo false last) from to → Wrote coded_in learnt_in r (segment_element g bo skip last).tree i from to
segment_as r g next bo skip last i from to w inside off is wrote =
    let f = λ (b : Block). record b { segmentation_idx = i } in
    let entered : segment_of next bo false last ≡ i = ap (λ (k : Grid). (block_at k bo.x bo.y).segmentation_idx) is ∙ ap (λ (b : Block). b.segmentation_idx) (block_here g bo w inside f) in
    let predicted : predicted_segment next bo last ≡ predicted_segment g bo last = ap (λ (k : Grid). predicted_segment k bo last) is ∙ prediction_stays g bo w inside f last in
    let context : segment_context next bo ≡ segment_context g bo = ap (λ (k : Grid). segment_context k bo) is ∙ context_stays g bo w inside f in
    let element : segment_element next bo false last ≡ segment_element g bo skip last =
    ap (λ n. element_by false last n (segment_context next bo)) predicted ∙ ap (λ n. element_by false last (predicted_segment g bo last) n) context ∙ ap (λ s. segment_element g bo s last) (sym off) in
    subst (λ (e : Element Distribution ℕ). Wrote coded_in learnt_in r e.tree i from to) element (subst (λ n. Wrote coded_in learnt_in r (segment_element next bo false last).tree n from to) entered wrote)

-- sizes and zeros of deltas
delta_is : (n count k : ℕ) → nat_le n (if nat_lt k count then 63 else 0) ≡ true → (n ≤ 63) × (count ≤ k → n ≡ 0)
delta_is n count k h = (grind (arith, nat_tests), λ l. grind (arith, nat_tests))

all_five : (a b c d e : Bool) → (a && (b && (c && (d && e)))) ≡ true → (a ≡ true) × (b ≡ true) × (c ≡ true) × (d ≡ true) × (e ≡ true)
all_five true true true true e h = (refl, refl, refl, refl, h)
all_five true true true false e h = absurd cc
all_five true true false d e h = absurd cc
all_five true false c d e h = absurd cc
all_five false b c d e h = absurd cc

module _ (count : ℕ) (few : count ≤ 4) (ds : List ℤ) (h : are_deltas count ds ≡ true) where
  parts : (length ds == 4 ≡ true) × (is_delta_at count ds 0 ≡ true) × (is_delta_at count ds 1 ≡ true) × (is_delta_at count ds 2 ≡ true) × (is_delta_at count ds 3 ≡ true)
  parts = all_five _ _ _ _ _ h

  four : length ds ≡ 4
  four = is_equal _ _ parts.0

  each : (k : ℕ) → k < 4 → (magnitude (delta_at ds k) ≤ 63) × (count ≤ k → magnitude (delta_at ds k) ≡ 0)
  each zero l = delta_is _ count 0 parts.1
  each (suc zero) l = delta_is _ count 1 parts.2
  each (suc (suc zero)) l = delta_is _ count 2 parts.3
  each (suc (suc (suc zero))) l = delta_is _ count 3 parts.4
  each (suc (suc (suc (suc k)))) l = absurd (omega (arith, l))

  none_past : (k : ℕ) → count ≤ k → delta_at ds k ≡ pos 0
  none_past zero l = zero_is _ ((each 0 (omega arith)).1 l)
  none_past (suc zero) l = zero_is _ ((each 1 (omega arith)).1 l)
  none_past (suc (suc zero)) l = zero_is _ ((each 2 (omega arith)).1 l)
  none_past (suc (suc (suc zero))) l = zero_is _ ((each 3 (omega arith)).1 l)
  none_past (suc (suc (suc (suc k)))) l = get_or-eq_default ds (pos 0) (let e = four in omega (arith, e))

  deltas_by : (most : ℕ) → 63 ≤ most → AreDeltas most count ds
  deltas_by most m = record { four = four; small = λ k l. let e = (each k (omega (arith, l, few))).0 in omega (arith, e, m); none = none_past }

few_planes : (cs : ChromaSampling) → (1 ≤ planes_of cs) × (planes_of cs ≤ 3)
few_planes Cs420 = (omega arith, omega arith)
few_planes Cs422 = (omega arith, omega arith)
few_planes Cs444 = (omega arith, omega arith)
few_planes Cs400 = (omega arith, omega arith)

-- a block has at most four deltas
deltas_few : (t : Tile) → block_deltas t ≤ 4
deltas_few t = count_few t.given.fs.deblock.block_delta_multi (planes_of (sampling t)) (few_planes (sampling t)).1

-- what allowed deltas have
pub delta_lf_allowed : (t : Tile) (b : CurrentBlock) (ds : List ℤ) → first_broken (rules_of (delta_lf_kind t b) ds) ≡ None → AreDeltas 63 (block_deltas t) ds
delta_lf_allowed t b ds h = deltas_by (block_deltas t) (deltas_few t) ds (all_hold (rules_of (delta_lf_kind t b) ds) h).1.1.0 63 (omega arith)

pub delta_lf_is_kind : (t : Tile) (b : CurrentBlock) → IsBlock t.bc.blocks.cols t.bc.blocks.rows (place_of_block b) (size_of_block b) → IsKind t (delta_lf_kind t b)
delta_lf_is_kind t b h = record {
  reads = kind_reads (delta_lf_kind t b) (AreDeltas 512 (block_deltas t)) 52 (omega arith)
      (λ ds asked r. deltas_by (block_deltas t) (deltas_few t) ds (all_hold ((delta_lf_kind t b).answering ds) (none_is _ r)).0 512 (omega arith))
      (λ asked. deltas_reads t.given.fs.deblock.block_delta_multi (planes_of (sampling t)) (few_planes (sampling t)).1);
  fit = λ ds r. ((h, λ x like fine. record { mode = fine.mode; segment = fine.segment; sound = still_sound x x.skip x.cdef_index x.segmentation_idx ds x.txsize fine.sound }, λ c is x e. e, λ c is. inl (λ x. refl)), tt);
  at_place = λ ds. (refl, tt);
}

pub planes_are : (cs : ChromaSampling) (n : ℕ) → n ≡ planes_of cs → (1 ≤ n) × (n ≤ 3)
planes_are cs n e = let f = few_planes cs in (omega (arith, e, f.0), omega (arith, e, f.1))

-- deltas were coded, or begun, by another name of the number of planes
pub deltas_whole : (multi : Bool) (n planes : ℕ) (ds : List ℤ) (from to : Standing Context) → n ≡ planes → Writes coded_in learnt_in (deltas_element multi n).tree ds from to → Writes coded_in learnt_in (deltas_element multi planes).tree ds from to
deltas_whole multi n planes ds from to e w = subst (λ k. Writes coded_in learnt_in (deltas_element multi k).tree ds from to) e w

pub deltas_front : (multi : Bool) (n planes : ℕ) (ds : List ℤ) (from to : Standing Context) → n ≡ planes → Begins coded_in learnt_in (deltas_element multi n).tree ds from to → Begins coded_in learnt_in (deltas_element multi planes).tree ds from to
deltas_front multi n planes ds from to e w = subst (λ k. Begins coded_in learnt_in (deltas_element multi k).tree ds from to) e w

-- the deltas of a block, where they had been entered there
pub deltas_here : (g next : Grid) (bo : BlockOffset) (ds : List ℤ) → IsWhole g → IsInside g bo → next ≡ over bo BLOCK_4X4 (λ b. record b { deblock_deltas = ds }) g → (block_at next bo.x bo.y).deblock_deltas ≡ ds
deltas_here g next bo ds w inside is =
    ap (λ (k : Grid). (block_at k bo.x bo.y).deblock_deltas) is ∙ ap (λ (b : Block). b.deblock_deltas) (block_here g bo w inside (λ (b : Block). record b { deblock_deltas = ds }))

pub deltas_wrote : {U E : Type 0} (r : Result U E) (multi : Bool) (planes : ℕ) (xs ds : List ℤ) (from to : Standing Context) → xs ≡ ds → Wrote coded_in learnt_in r (deltas_element multi planes).tree xs from to →
    Wrote coded_in learnt_in r (deltas_element multi planes).tree ds from to
deltas_wrote r multi planes xs ds from to e w = subst (λ x. Wrote coded_in learnt_in r (deltas_element multi planes).tree x from to) e w
