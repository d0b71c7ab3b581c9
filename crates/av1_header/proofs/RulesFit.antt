-- What the rules of sequences and frames say of the numbers in headers.
use Rattle.std.proofs.Common.{◌≡◌, ℕ, zero, suc, ◌+◌, ◌^◌, ◌<◌, ◌≤◌, List, [], ◌∷◌, ◌++◌, Bool, true, false, not, nat_lt, nat_le, Option, Some, None, subst, sym, refl, arith, inl, inr, ℤ, pos, negsuc}
use Rattle.std.specs.Prelude.{◌&&◌, ◌||◌, if◌then◌else◌, slice_index_or, int_le}
use Rattle.std.specs.List.{list_all, range_with_len}
use Rattle.std.proofs.lemmas.Bool.{cases_lt}
use Rattle.std.proofs.lemmas.Bool.Decides.{nat_tests}
use Rattle.std.proofs.lemmas.Int.{ints}
use Rattle.av1_geometry.specs.Rules.{Check, first_broken}
use Rattle.av1_geometry.specs.declared.error.Rule.{Rule}
use Rattle.std.proofs.Common.{lit<, negsuc}
use Rattle.std.proofs.lemmas.Nat.{pow_pos}
use Rattle.av1_geometry.specs.declared.segmentation.TheConstants.{seg_feature_bits}
use Rattle.av1_frame.specs.FilterRules.{six_bits, level_delta_fits, deblock_fits, cdef_fits, restoration_fits}
use Rattle.av1_frame.specs.HeaderRules.{side_fits, sides_fit, render_fits, reference_hint_fits, header_rules, primary_fits, hints_fit, refresh_fits, references_fit}
use Rattle.av1_frame.specs.SegmentRules.{delta_fits, quantizer_fits, feature_max, feature_fits, segment_fits, segments_fit, features_at}
use Rattle.av1_frame.specs.SequenceRules.{sequence_rules, known_profile, time_base_fits, tools_fit, position_fits}
use Rattle.av1_frame.specs.declared.frame.FrameInvariants.{FrameInvariants}
use Rattle.av1_frame.specs.declared.reference.RefState.{RefState}
use Rattle.av1_frame.specs.declared.state.DeblockState.{DeblockState}
use Rattle.av1_frame.specs.declared.state.RestorationPlaneConfig.{RestorationPlaneConfig}
use Rattle.av1_frame.specs.declared.state.RestorationState.{RestorationState}
use Rattle.av1_frame.specs.declared.state.SegmentationState.{SegmentationState}
use Rattle.av1_header.specs.Deltas.{QuantizerFits, DeblockFits}
use Rattle.av1_header.specs.Filters.{CdefFits, RestorationFits, no_filter}
use Rattle.av1_header.specs.FrameFlags.{hint_of}
use Rattle.av1_header.specs.FrameHeader.{StartFits}
use Rattle.av1_header.specs.Rows.{InBits}
use Rattle.av1_header.specs.Segments.{HaveFittingFeatures}
use Rattle.av1_header.specs.SequenceHeader.{SidesFit, SequenceFits}
use Rattle.av1_header.specs.Sizes.{RenderFits}
use Rattle.av1_header.proofs.SignedWords.{small_in_bits}

-- all of these checks hold
abbrev pub AllHold : List Check → Type 0
AllHold [] = Unit {0}
AllHold (c ∷ cs) = (c.1 ≡ true) × AllHold cs

first_holds : (b : Bool) (r : Option Rule) (n : Rule) → (if b then r else Some n) ≡ None → (b ≡ true) × (r ≡ None)
first_holds true r n e = (refl, e)
first_holds false r n e = absurd cc

pub all_hold : (cs : List Check) → first_broken cs ≡ None → AllHold cs
all_hold [] e = tt
all_hold (c ∷ cs) e = let both = first_holds c.1 (first_broken cs) c.0 e in (both.0, all_hold cs both.1)

pub first_hold : (cs ds : List Check) → AllHold (cs ++ ds) → AllHold cs
first_hold [] ds h = tt
first_hold (c ∷ cs) ds h = (h.0, first_hold cs ds h.1)

pub later_hold : (cs ds : List Check) → AllHold (cs ++ ds) → AllHold ds
later_hold [] ds h = h
later_hold (c ∷ cs) ds h = later_hold cs ds h.1

pub both : (a b : Bool) → (a && b) ≡ true → (a ≡ true) × (b ≡ true)
both true b h = (refl, h)
both false b h = absurd cc

-- what holds where something does
pub then_holds : (a b : Bool) → (not a || b) ≡ true → a ≡ true → b ≡ true
then_holds true b h e = h
then_holds false b h e = absurd cc

pub is_at_most : (n m : ℕ) → nat_le n m ≡ true → n ≤ m
is_at_most n m h = grind (arith, nat_tests)

pub small_of : (n m k : ℕ) → nat_le n m ≡ true → m < k → n < k
small_of n m k h less = let most = is_at_most n m h in omega (arith, most, less)

pub is_below : (n m : ℕ) → nat_lt n m ≡ true → n < m
is_below n m h = grind (arith, nat_tests)

-- an entry of a list of which a test holds, where it holds of the entry that stands for no entry
pub entry_passes : {X : Type 0} (test : X → Bool) (xs : List X) (other : X) (i : ℕ) → list_all test xs ≡ true → test other ≡ true → test (slice_index_or xs i other) ≡ true
entry_passes test [] other i all none = none
entry_passes test (x ∷ xs) other zero all none = (both (test x) (list_all test xs) all).0
entry_passes test (x ∷ xs) other (suc i) all none = entry_passes test xs other i (both (test x) (list_all test xs) all).1 none

-- a number of a range passes
pub number_passes : (test : ℕ → Bool) (n a i : ℕ) → list_all test (range_with_len a n) ≡ true → a ≤ i → i < a + n → test i ≡ true
number_passes test zero a i all low high = absurd (omega arith)
number_passes test (suc n) a i all low high =
    let two = both (test a) (list_all test (range_with_len (a + 1) n)) all in
    elim (cases_lt a i) [
      | inl more ↦ number_passes test n (a + 1) i two.1 (omega arith) (omega arith)
      | inr same ↦ subst (λ k. test k ≡ true) (let e : a ≡ i = omega arith in e) two.0
    ]

-- a sequence that keeps its rules
pub sequence_fits : (fi : FrameInvariants) → first_broken (sequence_rules fi.sequence) ≡ None → SidesFit fi → SequenceFits fi
unfolding sequence_rules known_profile time_base_fits tools_fit position_fits
sequence_fits fi e sides =
    let h = all_hold (sequence_rules fi.sequence) e in
    let head = both _ _ h.0 in
    let time = both _ _ h.1.1.1.1.0 in
    let tools = both _ _ (both _ _ h.1.1.1.1.1.0).0 in
    let forces = both _ _ (both _ _ tools.0).0 in
    record {
      tools = record {
        sides = sides;
        screen = is_at_most _ _ forces.0;
        integer = is_at_most _ _ forces.1;
        hint_bits = small_of _ 7 _ tools.1 (lit< tt);
      };
      profile = small_of _ 2 _ head.0 (lit< tt);
      level = small_of _ 31 _ head.1 (lit< tt);
      num = is_below _ _ time.0;
      den = is_below _ _ time.1;
      position = small_of _ 2 _ h.1.1.1.1.1.1.1.1.0 (lit< tt);
    }

side_within : (side : ℕ) → side_fits side ≡ true → (1 ≤ side) × (side ≤ 65536)
side_within side h = let two = both _ _ h in (is_at_most _ _ two.0, is_at_most _ _ two.1)

pub sides_within : (fi : FrameInvariants) → sides_fit fi ≡ true → SidesFit fi
unfolding sides_fit
sides_within fi h =
    let two = both _ _ (both _ _ h).0 in
    let width = side_within _ two.0 in
    let height = side_within _ two.1 in
    (width.0, width.1, height.0, height.1)

render_within : (fi : FrameInvariants) → render_fits fi ≡ true → RenderFits fi
unfolding render_fits
render_within fi h =
    let two = both _ _ (both _ _ h).0 in
    let width = side_within _ two.0 in
    let height = side_within _ two.1 in
    (width.0, width.1, height.0, height.1)

hint_within : (n : ℕ) (r : Option RefState) → reference_hint_fits n r ≡ true → hint_of r < 2 ^ n
hint_within n None h = omega (arith, pow_pos n)
hint_within n (Some r) h = is_below _ _ h

some_hints : (on : Bool) (n : ℕ) → nat_lt 0 (if on then n else 0) ≡ true → on ≡ true
some_hints true n h = refl
some_hints false n h = absurd cc

hint_bits_few : (on : Bool) (n : ℕ) → n ≤ 8 → (if on then n else 0) ≤ 8
hint_bits_few true n h = h
hint_bits_few false n h = omega arith

pub start_within : (fi : FrameInvariants) (refs : List (Option RefState)) → sides_fit fi ≡ true → AllHold (header_rules fi refs) → tools_fit fi.sequence ≡ true →
    StartFits (record { invariants = fi; refs = refs })
unfolding header_rules primary_fits hints_fit refresh_fits references_fit tools_fit
start_within fi refs sides h tools =
    let n = fi.sequence.order_hint_bits_minus_1 + 1 in
    let hints = h.1.1.1.1.1.0 in
    let places = both _ _ h.1.1.1.1.1.1.1.1.1.0 in
    let few : fi.sequence.order_hint_bits_minus_1 ≤ 7 = is_at_most _ _ (both _ _ (both _ _ tools).0).1 in
    record {
      hint_bits = hint_bits_few fi.sequence.enable_order_hint n (omega (arith, few));
      hint = λ some.
          let on = some_hints fi.sequence.enable_order_hint n some in
          subst (λ b. fi.order_hint < 2 ^ (if b then n else 0)) (sym on) (is_below _ _ (both _ _ (then_holds _ _ hints on)).0);
      ref_hints = λ some i within.
          let on = some_hints fi.sequence.enable_order_hint n some in
          subst (λ b. hint_of (slice_index_or refs i None) < 2 ^ (if b then n else 0)) (sym on)
          (hint_within n (slice_index_or refs i None) (entry_passes (reference_hint_fits n) refs None i (both _ _ (then_holds _ _ hints on)).1 refl));
      primary = small_of _ 7 _ (both _ _ (both _ _ (both _ _ h.1.1.1.0).0).0).0 (lit< tt);
      refresh = small_of _ 255 _ (both _ _ (both _ _ h.1.1.1.1.1.1.0).0).0 (lit< tt);
      places = λ i within. small_of _ 7 _ (entry_passes (λ place. nat_le place 7) fi.ref_frames 0 i places.0 refl) (lit< tt);
      filter = small_of _ 3 _ places.1 (lit< tt);
      sides = sides_within fi sides;
      render = render_within fi h.1.1.1.1.1.1.1.1.0;
    }

pub quantizer_within : (fi : FrameInvariants) → quantizer_fits fi ≡ true → QuantizerFits fi
unfolding quantizer_fits
quantizer_within fi h i within =
    let lists = both _ _ (both _ _ h).0 in
    let dc = entry_passes delta_fits fi.dc_delta_q (pos 0) i (both _ _ lists.0).1 refl in
    let ac = entry_passes delta_fits fi.ac_delta_q (pos 0) i lists.1 refl in
    (small_in_bits 7 _ (small_of _ 63 _ dc (lit< tt)), small_in_bits 7 _ (small_of _ 63 _ ac (lit< tt)))

below_eight : (P : ℕ → Type 0) → P 0 → P 1 → P 2 → P 3 → P 4 → P 5 → P 6 → P 7 → (j : ℕ) → j < 8 → P j
below_eight P a b c d e f g h zero within = a
below_eight P a b c d e f g h (suc zero) within = b
below_eight P a b c d e f g h (suc (suc zero)) within = c
below_eight P a b c d e f g h (suc (suc (suc zero))) within = d
below_eight P a b c d e f g h (suc (suc (suc (suc zero)))) within = e
below_eight P a b c d e f g h (suc (suc (suc (suc (suc zero))))) within = f
below_eight P a b c d e f g h (suc (suc (suc (suc (suc (suc zero)))))) within = g
below_eight P a b c d e f g h (suc (suc (suc (suc (suc (suc (suc zero))))))) within = h
below_eight P a b c d e f g h (suc (suc (suc (suc (suc (suc (suc (suc j)))))))) within = absurd (omega arith)

-- the greatest value of a feature is within its bits
max_within : (j : ℕ) → j < 8 → slice_index_or feature_max j 0 < 2 ^ slice_index_or seg_feature_bits j 0
max_within j within = below_eight (λ k. slice_index_or feature_max k 0 < 2 ^ slice_index_or seg_feature_bits k 0) (lit< tt) (lit< tt) (lit< tt) (lit< tt) (lit< tt) (lit< tt) (lit< tt) (lit< tt) j within

pub segments_within : (s : SegmentationState) → segments_fit s ≡ true → HaveFittingFeatures s
unfolding segments_fit segment_fits
segments_within s h i j row column present =
    let segment = number_passes (λ k. segment_fits (features_at s k) (slice_index_or s.values k [])) 8 0 i h (omega arith) row in
    let feature = number_passes (feature_fits (features_at s i) (slice_index_or s.values i [])) 8 0 j segment (omega arith) column in
    let value = then_holds _ _ feature present in
    small_of _ _ _ (both _ _ value).0 (max_within j column)

level_delta_within : (z : ℤ) → level_delta_fits z ≡ true → InBits 7 z
level_delta_within z h =
    let two : (int_le (negsuc 63) z ≡ true) × (int_le z (pos 63) ≡ true) = both (int_le (negsuc 63) z) (int_le z (pos 63)) h in
    grind (arith, ints, two.0, two.1)

pub deblock_within : (d : DeblockState) → deblock_fits d ≡ true → DeblockFits d
unfolding deblock_fits
deblock_within d h =
    let shift = both _ _ h in
    let modes = both _ _ shift.0 in
    let refs = both _ _ modes.0 in
    let front = both _ _ refs.0 in
    record {
      levels = λ i within. is_below _ _ (entry_passes six_bits d.levels 0 i front.0 refl);
      sharpness = small_of _ 7 _ front.1 (lit< tt);
      refs = λ i within. level_delta_within _ (entry_passes level_delta_fits d.ref_deltas (pos 0) i refs.1 refl);
      modes = λ i within. level_delta_within _ (entry_passes level_delta_fits d.mode_deltas (pos 0) i modes.1 refl);
    }

pub cdef_within : (fi : FrameInvariants) → cdef_fits fi ≡ true → fi.sequence.enable_cdef ≡ true → CdefFits fi
unfolding cdef_fits
cdef_within fi h on =
    let uv = both _ _ (then_holds _ _ h on) in
    let y = both _ _ uv.0 in
    let front = both _ _ y.0 in
    let damping = both _ _ front.0 in
    record {
      damping = (is_at_most _ _ damping.0, is_at_most _ _ damping.1);
      bits = is_at_most _ _ front.1;
      y = λ i within. is_below _ _ (entry_passes six_bits fi.cdef_y_strengths 0 i y.1 refl);
      uv = λ i within. is_below _ _ (entry_passes six_bits fi.cdef_uv_strengths 0 i uv.1 refl);
    }

pub restoration_within : (fi : FrameInvariants) (rs : RestorationState) → restoration_fits fi rs ≡ true → RestorationFits rs
unfolding restoration_fits
restoration_within fi rs h i within = small_of _ 3 _ (entry_passes (λ (p : RestorationPlaneConfig). nat_le p.lrf_type 3) rs.planes no_filter i (both _ _ h).0 refl) (lit< tt)
