-- What the kinds of step bring that say whether a block is predicted from other frames, and from which.
use Rattle.std.proofs.Common.{◌≡◌, ◌⊎◌, inl, inr, ℕ, zero, suc, ◌+◌, ◌-◌, ◌<◌, ◌≤◌, ◌==◌, ◌&&◌, ◌||◌, [], ◌∷◌, Bool, true, false, not, IsTrue, None, Some, get_or, nat_le, nat_lt, if◌then◌else◌, refl, ap, arith}
use Rattle.std.proofs.lemmas.Bool.Decides.{nat_tests}
use Rattle.std.specs.Option.{ForSome}
use Rattle.av1_blocks.specs.declared.block.Block.{Block}
use Rattle.av1_blocks.specs.Grid.{Grid, block_at}
use Rattle.av1_frame.specs.declared.frame.FrameInvariants.{FrameInvariants}
use Rattle.av1_geometry.specs.PredictionMode.{prediction_mode_number}
use Rattle.av1_geometry.specs.RefType.{reference_number}
use Rattle.av1_geometry.specs.Rules.{first_broken}
use Rattle.av1_geometry.specs.declared.block_offset.BlockOffset.{BlockOffset}
use Rattle.av1_geometry.specs.declared.block_size.BlockSize.{BlockSize}
use Rattle.av1_geometry.specs.declared.block_size.BlockSize.TheVariants.{BLOCK_4X4}
use Rattle.av1_geometry.specs.declared.prediction_mode.PredictionMode.{PredictionMode}
use Rattle.av1_geometry.specs.declared.prediction_mode.PredictionMode.TheVariants.{NEARESTMV, NEAREST_NEARESTMV}
use Rattle.av1_geometry.specs.declared.ref_type.RefType.{RefType}
use Rattle.av1_geometry.specs.declared.ref_type.RefType.TheVariants.{NONE_FRAME}
use Rattle.av1_mvref.specs.References.{count_of, counts, times}
use Rattle.av1_syntax.specs.RefFrames.{is_pair, may_be_pair, AreRefFrames}
use Rattle.av1_syntax.proofs.InterReads.{is_inter_reads, ref_frames_reads}
use Rattle.av1_step.specs.Effect.{changed_by}
use Rattle.av1_step.specs.InterSteps.{counted, first_mode, first_refs, is_inter_kind, is_one, is_two, mode_of_refs, ref_frames_kind}
use Rattle.av1_step.specs.Kept.{AreCandidates, IsBlock, IsFine}
use Rattle.av1_step.specs.Kind.{rules_of, IsKind}
use Rattle.av1_step.specs.Tile.{Tile, CurrentBlock, grid_block, place_of_block, size_of_block}
use Rattle.av1_step.proofs.Effects.{says_alike}
use Rattle.av1_step.proofs.KindLaws.{kind_reads, none_is}
use Rattle.av1_step.proofs.Places.{all_hold, both, is_at_most}

-- references and a mode that a fine block may get: a mode of luma, or one of prediction from other frames with a first reference
record IsReferring (fi : FrameInvariants) (rs : RefType × RefType) (m : PredictionMode) : Type 0 where
  pub mode : IsTrue fi.intra_only ⊎ (prediction_mode_number m < 14) → prediction_mode_number m < 13
  pub refers : 14 ≤ prediction_mode_number m → (1 ≤ reference_number rs.0) × (reference_number rs.0 ≤ 7)

referring_fine : (fi : FrameInvariants) (rs : RefType × RefType) (m : PredictionMode) → IsReferring fi rs m → (x : Block) → IsFine fi x → IsFine fi (record x { ref_frames = rs.0 ∷ rs.1 ∷ []; mode = m })
referring_fine fi rs m h x fine = record {
  mode = h.mode;
  segment = fine.segment;
  sound = record {
    width = fine.sound.width;
    height = fine.sound.height;
    first_valid = fine.sound.first_valid;
    second_valid = fine.sound.second_valid;
    counts = fine.sound.counts;
    refers = λ i. (h.refers (is_at_most 14 _ i)).0;
    refers_within = λ i. (h.refers (is_at_most 14 _ i)).1;
  };
}

is_off : (b : Bool) → not b ≡ true → IsTrue b → ⊥
is_off true h i = absurd cc
is_off false h i = absurd cc

first_referring : (fi : FrameInvariants) (on : Bool) → not fi.intra_only ≡ true → IsReferring fi (first_refs on) (first_mode on)
first_referring fi true h = record {
  mode = λ e. elim e as (λ e. 14 < 13) [ inl i ↦ absurd (is_off fi.intra_only h i) | inr l ↦ absurd (omega (arith, l)) ];
  refers = λ l. (omega arith, omega arith);
}
first_referring fi false h = record { mode = λ e. omega arith; refers = λ l. absurd (omega (arith, l)) }

-- there are no candidates
none_listed : ForSome None AreCandidates
none_listed c e = let z : ⊥ = cc in absurd z

pub is_inter_is_kind : (t : Tile) (b : CurrentBlock) → t.current ≡ Some b → IsBlock t.bc.blocks.cols t.bc.blocks.rows (place_of_block b) (size_of_block b) → IsKind t (is_inter_kind t b)
is_inter_is_kind t b e s = record {
  reads = kind_reads (is_inter_kind t b) (λ on. Unit {0}) 1 (omega arith) (λ on h g. tt) (λ h. is_inter_reads t.bc.blocks (place_of_block b));
  fit = λ on h.
      let frame = (all_hold (rules_of (is_inter_kind t b) on) (none_is _ h)).1.0 in (
        (s, λ x like fine. referring_fine t.given.fi (first_refs on) (first_mode on) (first_referring t.given.fi on frame) x fine, λ c is x e. e, says_alike t b (λ (x : Block). record x { ref_frames = (first_refs on).0 ∷ (first_refs on).1 ∷ []; mode = first_mode on }) e (λ x y. refl)),
        (none_listed, tt),
      );
  at_place = λ on. (refl, (tt, tt));
}

-- how often the neighbours of a block refer to a frame
times_few : (x : Block) (r : ℕ) → times x r ≤ 2
times_few x r = grind (arith, nat_tests)

sum_few : (a l : Bool) (m n : ℕ) → m ≤ 2 → n ≤ 2 → (if a then m else 0) + (if l then n else 0) ≤ 4
sum_few true true m n h k = omega (arith, h, k)
sum_few true false m n h k = omega (arith, h)
sum_few false true m n h k = omega (arith, k)
sum_few false false m n h k = omega arith

count_few : (g : Grid) (bo : BlockOffset) (r : ℕ) → count_of g bo r ≤ 4
count_few g bo r = sum_few (nat_lt 0 bo.y) (nat_lt 0 bo.x) _ _ (times_few (block_at g bo.x (bo.y - 1)) r) (times_few (block_at g (bo.x - 1) bo.y) r)

pub counts_few : (g : Grid) (bo : BlockOffset) (k : ℕ) → k < 7 → get_or (counts g bo) k 0 ≤ 4
counts_few g bo zero h = count_few g bo 1
counts_few g bo (suc zero) h = count_few g bo 2
counts_few g bo (suc (suc zero)) h = count_few g bo 3
counts_few g bo (suc (suc (suc zero))) h = count_few g bo 4
counts_few g bo (suc (suc (suc (suc zero)))) h = count_few g bo 5
counts_few g bo (suc (suc (suc (suc (suc zero))))) h = count_few g bo 6
counts_few g bo (suc (suc (suc (suc (suc (suc zero)))))) h = count_few g bo 7
counts_few g bo (suc (suc (suc (suc (suc (suc (suc k))))))) h = absurd (omega (arith, h))

counted_fine : (fi : FrameInvariants) (g : Grid) (bo : BlockOffset) (x : Block) → IsFine fi x → IsFine fi (record x { neighbors_ref_counts = counts g bo })
counted_fine fi g bo x fine = record {
  mode = fine.mode;
  segment = fine.segment;
  sound = record {
    width = fine.sound.width;
    height = fine.sound.height;
    first_valid = fine.sound.first_valid;
    second_valid = fine.sound.second_valid;
    counts = counts_few g bo;
    refers = fine.sound.refers;
    refers_within = fine.sound.refers_within;
  };
}

-- the first block of a block is one that can be entered
one_block : (cols rows : ℕ) (bo : BlockOffset) (size : BlockSize) → IsBlock cols rows bo size → IsBlock cols rows bo BLOCK_4X4
one_block cols rows bo size s = record { column = s.column; row = s.row; width = omega arith; height = omega arith; aligned = (omega arith, omega arith) }

is_eight : (n : ℕ) → (n == 8) ≡ true → n ≡ 8
is_eight n h = grind (arith, nat_tests)

none_frame : (r : RefType) → reference_number r ≡ 8 → r ≡ NONE_FRAME
none_frame NONE_FRAME h = refl
none_frame _ h = absurd (omega (arith, h))

is_either : (a b : Bool) → (a || b) ≡ true → (a ≡ true) ⊎ (b ≡ true)
is_either true b h = inl refl
is_either false b h = inr h

-- one reference has a number from 1 to 7, and is alone
one_has : (rs : RefType × RefType) → is_one rs ≡ true → (1 ≤ reference_number rs.0) × (reference_number rs.0 ≤ 7) × (rs.1 ≡ NONE_FRAME)
one_has rs h =
    let all = both (nat_le 1 (reference_number rs.0) && nat_le (reference_number rs.0) 7) (reference_number rs.1 == 8) h in
    let first = both _ _ all.0 in
    (is_at_most 1 _ first.0, is_at_most _ 7 first.1, none_frame rs.1 (is_eight (reference_number rs.1) all.1))

-- of two one lies behind, and one ahead
two_have : (rs : RefType × RefType) → is_two rs ≡ true → (1 ≤ reference_number rs.0) × (reference_number rs.0 ≤ 4) × (5 ≤ reference_number rs.1) × (reference_number rs.1 ≤ 7)
two_have rs h =
    let all = both (nat_le 1 (reference_number rs.0) && nat_le (reference_number rs.0) 4 && nat_le 5 (reference_number rs.1)) (nat_le (reference_number rs.1) 7) h in
    let three = both (nat_le 1 (reference_number rs.0) && nat_le (reference_number rs.0) 4) (nat_le 5 (reference_number rs.1)) all.0 in
    let first = both _ _ three.0 in
    (is_at_most 1 _ first.0, is_at_most _ 4 first.1, is_at_most 5 _ three.1, is_at_most _ 7 all.1)

pair_ahead : (rs : RefType × RefType) → 5 ≤ reference_number rs.1 → reference_number rs.1 ≤ 7 → is_pair rs ≡ true
pair_ahead rs h k = grind (arith, nat_tests, h, k)

alone_apart : (rs : RefType × RefType) → rs.1 ≡ NONE_FRAME → is_pair rs ≡ false
alone_apart rs h = ap (λ r. is_pair (rs.0, r)) h

pub references_are : (two : Bool) (rs : RefType × RefType) → (is_one rs || (is_two rs && two)) ≡ true → AreRefFrames two rs
references_are two rs h = elim (is_either (is_one rs) (is_two rs && two) h) as (λ e. AreRefFrames two rs) [
  | inl one ↦
      let has = one_has rs one in
      record { some = has.0; alone = λ e. (has.1, has.2); apart = λ e. let n = alone_apart rs has.2 in absurd cc }
  | inr pair ↦
      let parts = both (is_two rs) two pair in
      let have = two_have rs parts.0 in
      record { some = have.0; alone = λ e. let p = pair_ahead rs have.2 have.3 in absurd cc; apart = λ e. (parts.1, have.1, have.2) }
]

-- the first reference is one of the seven
pub first_within : (two : Bool) (rs : RefType × RefType) → AreRefFrames two rs → (1 ≤ reference_number rs.0) × (reference_number rs.0 ≤ 7)
first_within two rs h = (h.some, at_most (is_pair rs) refl)
  where
    at_most : (b : Bool) → is_pair rs ≡ b → reference_number rs.0 ≤ 7
    at_most true e = let a = h.apart e in omega (arith, a.1)
    at_most false e = (h.alone e).0

-- what allowed references have
pub ref_frames_allowed : (t : Tile) (b : CurrentBlock) (rs : RefType × RefType) → first_broken (rules_of (ref_frames_kind t b) rs) ≡ None → AreRefFrames (may_be_pair t.given.fi.reference_mode (grid_block t b)) rs
ref_frames_allowed t b rs h = references_are (may_be_pair t.given.fi.reference_mode (grid_block t b)) rs (all_hold (rules_of (ref_frames_kind t b) rs) h).1.1.1.0

refs_mode : (rs : RefType × RefType) → 14 ≤ prediction_mode_number (mode_of_refs rs)
refs_mode rs = elim (is_two rs) as (λ b. 14 ≤ prediction_mode_number (if b then NEAREST_NEARESTMV else NEARESTMV)) [ true ↦ omega arith | false ↦ omega arith ]

refs_referring : (fi : FrameInvariants) (two : Bool) (rs : RefType × RefType) → not fi.intra_only ≡ true → AreRefFrames two rs → IsReferring fi rs (mode_of_refs rs)
refs_referring fi two rs h are =
    let later = refs_mode rs in
    record {
      mode = λ e. elim e as (λ e. prediction_mode_number (mode_of_refs rs) < 13) [ inl i ↦ absurd (is_off fi.intra_only h i) | inr l ↦ absurd (omega (arith, l, later)) ];
      refers = λ l. first_within two rs are;
    }

pub ref_frames_is_kind : (t : Tile) (b : CurrentBlock) → t.current ≡ Some b → IsBlock t.bc.blocks.cols t.bc.blocks.rows (place_of_block b) (size_of_block b) → IsKind t (ref_frames_kind t b)
ref_frames_is_kind t b e s =
    let k = ref_frames_kind t b in
    let mode = t.given.fi.reference_mode in
    let two = may_be_pair mode (grid_block t b) in
    record {
      reads = kind_reads k (AreRefFrames two) 6 (omega arith) (λ rs h g. references_are two rs (all_hold (k.answering rs) (none_is _ g)).0) (λ h. ref_frames_reads t.bc.blocks (place_of_block b) mode);
      fit = λ rs h.
          let frame = (all_hold (rules_of k rs) (none_is _ h)).1.0 in
          let are = ref_frames_allowed t b rs (none_is _ h) in (
            (one_block t.bc.blocks.cols t.bc.blocks.rows (place_of_block b) (size_of_block b) s, λ x like fine. counted_fine t.given.fi t.bc.blocks (place_of_block b) x fine, λ c is x e. e, λ c is. inl (λ x. refl)),
            ((s, λ x like fine. referring_fine t.given.fi rs (mode_of_refs rs) (refs_referring t.given.fi two rs frame are) x fine, λ c is x e. e, says_alike (changed_by (counted t b) t) b (λ (x : Block). record x { ref_frames = rs.0 ∷ rs.1 ∷ []; mode = mode_of_refs rs }) e (λ x y. refl)), (none_listed, tt)),
          );
      at_place = λ rs. (refl, (refl, (tt, tt)));
    }
