-- What the step that codes the filter of a unit of loop restoration brings.
use Rattle.std.proofs.Common.{◌≡◌, ℕ, zero, suc, ◌<◌, ◌≤◌, ◌||◌, ◌⊎◌, List, [], ◌∷◌, Bool, true, false, None, get_or, nat_eq, nat_lt, inl, inr, refl, arith, ℤ, pos}
use Rattle.std.specs.List.{list_all}
use Rattle.std.specs.Prelude.{int_le}
use Rattle.std.proofs.lemmas.Bool.Decides.{nat_tests, Decides-int_eq}
use Rattle.std.proofs.lemmas.Int.{ints}
use Rattle.av1_frame.specs.FilterRules.{restoration_fits, type_fits}
use Rattle.av1_frame.specs.FrameRules.{coding_rules}
use Rattle.av1_frame.specs.Tests.{int_within}
use Rattle.av1_frame.specs.declared.state.RestorationPlaneConfig.{RestorationPlaneConfig}
use Rattle.av1_geometry.specs.ChromaSampling.{planes_of}
use Rattle.av1_geometry.specs.Rules.{first_broken}
use Rattle.av1_geometry.specs.declared.chroma_sampling.ChromaSampling.{ChromaSampling}
use Rattle.av1_geometry.specs.declared.chroma_sampling.ChromaSampling.TheVariants.{Cs420, Cs422, Cs444, Cs400}
use Rattle.av1_geometry.specs.declared.constants.TheConstants.{SGRPROJ_XQD_MIN, SGRPROJ_XQD_MAX, WIENER_TAPS_MIN, WIENER_TAPS_MAX}
use Rattle.av1_syntax.specs.Restoration.{plane_at, number_at, row_at, has_radius, unused_weight, has_tap, IsBetween, AreWeights, ArePassTaps, AreTaps, IsFilterOf, HasReferences}
use Rattle.av1_syntax.specs.declared.restoration.RestorationFilter.{RestorationFilter}
use Rattle.av1_syntax.specs.declared.restoration.RestorationFilter.TheVariants.{None as Unfiltered, Wiener, Sgrproj}
use Rattle.av1_syntax.proofs.Restoring.{lrf_reads}
use Rattle.av1_step.specs.Given.{IsGiven}
use Rattle.av1_step.specs.Kept.{IsKept}
use Rattle.av1_step.specs.Kind.{holds, rules_of, IsKind}
use Rattle.av1_step.specs.RestorationSteps.{weight_fits, weights_fit, tap_fits, pass_fits, passes_fit, filter_fits, lrf_kind}
use Rattle.av1_step.specs.Tile.{Tile, lrf_type_of, sampling}
use Rattle.av1_step.proofs.FilterSteps.{coding_hold}
use Rattle.av1_step.proofs.KindLaws.{kind_reads, none_is}
use Rattle.av1_step.proofs.Places.{all_hold, both, is_at_most}

is_under : (n m : ℕ) → nat_lt n m ≡ true → n < m
is_under n m h = grind (arith, nat_tests)

is_equal : (n m : ℕ) → nat_eq n m ≡ true → n ≡ m
is_equal n m h = grind (arith, nat_tests)

either_is : (a b : Bool) → (a || b) ≡ true → (a ≡ true) ⊎ (b ≡ true)
either_is true b h = inl refl
either_is false b h = inr h

or_else : (a b : Bool) → (a || b) ≡ true → a ≡ false → b ≡ true
or_else true b h e = cc
or_else false b h e = h

-- a number that is tested to be in a range is in it
in_range : (least greatest v : ℤ) → int_within least greatest v ≡ true → IsBetween least greatest v
in_range least greatest v h =
    let p = both (int_le least v) (int_le v greatest) h in
    let a : int_le least v ≡ true = p.0 in
    let b : int_le v greatest ≡ true = p.1 in
    record { from = grind (arith, ints); to = grind (arith, ints) }

two_cases : (P : ℕ → Type 0) → P 0 → P 1 → (k : ℕ) → k < 2 → P k
two_cases P a b zero h = a
two_cases P a b (suc zero) h = b
two_cases P a b (suc (suc k)) h = absurd (omega (arith, h))

three_cases : (P : ℕ → Type 0) → P 0 → P 1 → P 2 → (k : ℕ) → k < 3 → P k
three_cases P a b c zero h = a
three_cases P a b c (suc zero) h = b
three_cases P a b c (suc (suc zero)) h = c
three_cases P a b c (suc (suc (suc k))) h = absurd (omega (arith, h))

-- what a weight that fits has
Weighs : ℕ → ℕ → ℤ → Type 0
Weighs set pass w = IsBetween (number_at SGRPROJ_XQD_MIN pass) (number_at SGRPROJ_XQD_MAX pass) w × (has_radius set pass ≡ false → w ≡ unused_weight pass)

weighs : (set pass : ℕ) (w : ℤ) → weight_fits set pass w ≡ true → Weighs set pass w
unfolding Weighs
weighs set pass w h =
    let p = both _ _ h in
    (in_range _ _ w p.0, λ e. (Decides-int_eq w (unused_weight pass)).0 (or_else _ _ p.1 e))

weights_are : (set : ℕ) (ws : List ℤ) → weights_fit set ws ≡ true → AreWeights set ws
unfolding Weighs
weights_are set ws h =
    let all = both _ _ h in
    let first = both _ _ all.0 in
    let each = two_cases (λ pass. Weighs set pass (number_at ws pass)) (weighs set 0 (number_at ws 0) first.1) (weighs set 1 (number_at ws 1) all.1) in
    record { two = is_equal _ _ first.0; within = λ pass l. (each pass l).0; unused = λ pass l. (each pass l).1 }

-- what a tap that fits has
Taps : Bool → ℕ → ℤ → Type 0
Taps luma k tap = IsBetween (number_at WIENER_TAPS_MIN k) (number_at WIENER_TAPS_MAX k) tap × (has_tap luma k ≡ false → tap ≡ pos 0)

taps : (luma : Bool) (k : ℕ) (tap : ℤ) → tap_fits luma k tap ≡ true → Taps luma k tap
unfolding Taps
taps luma k tap h =
    let p = both _ _ h in
    (in_range _ _ tap p.0, λ e. (Decides-int_eq tap (pos 0)).0 (or_else _ _ p.1 e))

pass_is : (luma : Bool) (ts : List ℤ) → pass_fits luma ts ≡ true → ArePassTaps luma ts
unfolding Taps
pass_is luma ts h =
    let all = both _ _ h in
    let two = both _ _ all.0 in
    let one = both _ _ two.0 in
    let each = three_cases (λ k. Taps luma k (number_at ts k)) (taps luma 0 (number_at ts 0) one.1) (taps luma 1 (number_at ts 1) two.1) (taps luma 2 (number_at ts 2) all.1) in
    record { three = is_equal _ _ one.0; within = λ k l. (each k l).0; first = λ k l. (each k l).1 }

passes_are : (luma : Bool) (ts : List (List ℤ)) → passes_fit luma ts ≡ true → AreTaps luma ts
passes_are luma ts h =
    let all = both _ _ h in
    let first = both _ _ all.0 in
    record { two = is_equal _ _ first.0; each_pass = two_cases (λ pass. ArePassTaps luma (row_at ts pass)) (pass_is luma (row_at ts 0) first.1) (pass_is luma (row_at ts 1) all.1) }

one_of : (t a b : ℕ) → (nat_eq t a || nat_eq t b) ≡ true → (t ≡ a) ⊎ (t ≡ b)
one_of t a b h = elim (either_is (nat_eq t a) (nat_eq t b) h) [ inl e ↦ inl (is_equal t a e) | inr e ↦ inr (is_equal t b e) ]

-- a filter that fits is one of its type
pub filter_is : (lrf_type : ℕ) (luma : Bool) (f : RestorationFilter) → filter_fits lrf_type luma f ≡ true → IsFilterOf lrf_type luma f
filter_is lrf_type luma Unfiltered h = tt
filter_is lrf_type luma (Wiener taps) h = let p = both _ _ h in (one_of lrf_type 1 2 p.0, passes_are luma taps p.1)
filter_is lrf_type luma (Sgrproj set weights) h =
    let p = both _ _ h in
    let q = both _ _ p.0 in
    (one_of lrf_type 1 3 q.0, is_under set 16 q.1, weights_are set weights p.1)

all_types : (planes : List RestorationPlaneConfig) (p : ℕ) → list_all type_fits planes ≡ true → (get_or planes p record { lrf_type = 0; unit_size = 64 }).lrf_type ≤ 3
all_types [] p h = omega arith
all_types (x ∷ planes) zero h = is_at_most _ _ (both _ _ h).0
all_types (x ∷ planes) (suc p) h = all_types planes p (both _ _ h).1

-- a plane of a frame has one of four types
types_few : (t : Tile) → IsGiven t.given → (plane : ℕ) → lrf_type_of t.given.fs plane ≤ 3
unfolding restoration_fits coding_rules
types_few t k plane =
    let h : restoration_fits t.given.fi t.given.fs.restoration ≡ true = (coding_hold t k).1.1.1.1.0 in
    all_types t.given.fs.restoration.planes plane (both _ _ h).0

few_planes : (cs : ChromaSampling) → planes_of cs ≤ 3
few_planes Cs420 = omega arith
few_planes Cs422 = omega arith
few_planes Cs444 = omega arith
few_planes Cs400 = omega arith

-- a plane that is there is one of three
plane_there : (plane : ℕ) (t : Tile) → holds (lrf_kind plane t).asking ≡ true → plane < 3
plane_there plane t g =
    let less = is_under _ _ (all_hold (lrf_kind plane t).asking (none_is _ g)).0 in
    omega (arith, less, few_planes (sampling t))

type_few : (plane : ℕ) (t : Tile) → IsKept t → plane < 3 → (plane_at t.rs plane).lrf_type ≤ 3
type_few plane t k there = omega (arith, k.planes.types plane there, types_few t k.given plane)

-- what an allowed filter has
pub record MayCode (plane : ℕ) (t : Tile) (f : RestorationFilter) : Type 0 where
  pub there : plane < 3
  pub type_few : (plane_at t.rs plane).lrf_type ≤ 3
  pub references : HasReferences (plane_at t.rs plane)
  pub filter : IsFilterOf (plane_at t.rs plane).lrf_type (nat_eq plane 0) f

pub lrf_allowed : (plane : ℕ) (t : Tile) (f : RestorationFilter) → IsKept t → first_broken (rules_of (lrf_kind plane t) f) ≡ None → MayCode plane t f
lrf_allowed plane t f k h =
    let all = all_hold (rules_of (lrf_kind plane t) f) h in
    let less = is_under _ _ all.0 in
    let there : plane < 3 = omega (arith, less, few_planes (sampling t)) in
    record { there = there; type_few = type_few plane t k there; references = k.planes.references plane there; filter = filter_is _ _ f all.1.0 }

pub lrf_is_kind : (plane : ℕ) (t : Tile) → IsKept t → IsKind t (lrf_kind plane t)
lrf_is_kind plane t k =
    let luma = nat_eq plane 0 in
    let now = plane_at t.rs plane in
    record {
      reads = kind_reads (lrf_kind plane t) (IsFilterOf now.lrf_type luma) 295 (omega arith) (λ f g r. filter_is now.lrf_type luma f (all_hold ((lrf_kind plane t).answering f) (none_is _ r)).0)
          (λ g. let there = plane_there plane t g in lrf_reads now luma (type_few plane t k there) (k.planes.references plane there));
      fit = λ f g. let may = lrf_allowed plane t f k (none_is _ g) in ((may.there, now.lrf_type, may.filter), tt);
      at_place = λ f. (refl, tt);
    }
