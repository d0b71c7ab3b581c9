-- What the steps of the modes of inter blocks bring.
use Rattle.std.proofs.Common.{◌≡◌, inl, inr, ℕ, zero, suc, ◌+◌, ◌<◌, ◌≤◌, ◌&&◌, ◌||◌, List, [], Bool, true, false, not, Option, Some, None, if◌then◌else◌, length, nat_le, nat_lt, refl, ◌∙◌, arith}
use Rattle.std.proofs.lemmas.Bool.Decides.{nat_tests}
use Rattle.std.specs.Option.{ForSome, option_map_or}
use Rattle.av1_blocks.specs.declared.block.Block.{Block}
use Rattle.av1_blocks.specs.Block.{is_inter}
use Rattle.av1_geometry.specs.MotionVector.{IsValid}
use Rattle.av1_geometry.specs.PredictionMode.{prediction_mode_number}
use Rattle.av1_geometry.specs.Rules.{first_broken}
use Rattle.av1_geometry.specs.declared.motion_vector.MotionVector.{MotionVector}
use Rattle.av1_geometry.specs.declared.prediction_mode.PredictionMode.{PredictionMode}
use Rattle.av1_geometry.specs.declared.prediction_mode.PredictionMode.TheVariants.{DC_PRED}
use Rattle.av1_mvref.specs.Candidates.{drl_context, no_vector}
use Rattle.av1_mvref.specs.ExtraSearch.{Candidates}
use Rattle.av1_mvref.specs.declared.candidate.CandidateMV.{CandidateMV}
use Rattle.av1_syntax.specs.InterModes.{compound_modes, inter_modes, new_context, ref_context}
use Rattle.av1_syntax.proofs.InterReads.{IsAmong, compound_below, compound_mode_reads, drl_mode_reads, inter_mode_reads, of_all}
use Rattle.av1_step.specs.IntraSteps.{is_intra, mode_at}
use Rattle.av1_step.specs.Kept.{AllAt, AllFit, AreCandidates, IsFine, IsKept, IsLike, candidate_at}
use Rattle.av1_step.specs.Kind.{rules_of, IsKind}
use Rattle.av1_step.specs.Listed.{listed, listed_context}
use Rattle.av1_step.specs.ModeSteps.{compound_mode_kind, drl_kind, first_pick, inter_mode_kind, is_global, is_pair_mode, may_pick_after, takes, variant, vectors_of}
use Rattle.av1_step.specs.Tile.{Tile, CurrentBlock, place_of_block, size_of_block}
use Rattle.av1_step.proofs.Effects.{no_vector_valid, says_alike}
use Rattle.av1_step.proofs.IntraSteps.{is_less}
use Rattle.av1_step.proofs.KindLaws.{kind_reads, none_is}
use Rattle.av1_step.proofs.Places.{all_hold, both, is_at_most}

-- the modes that are coded are modes of inter blocks
inter_high : (m : PredictionMode) → IsAmong inter_modes m → 14 ≤ prediction_mode_number m
inter_high m h = of_all (λ m. 14 ≤ prediction_mode_number m) inter_modes (omega arith, (omega arith, (omega arith, (omega arith, tt)))) m h

compound_high : (m : PredictionMode) → IsAmong compound_modes m → 14 ≤ prediction_mode_number m
compound_high m h = let low = (compound_below m h).0 in omega (arith, low)

implied : (a b : Bool) → (not a || b) ≡ true → a ≡ true → b ≡ true
implied true b h e = h
implied false b h e = absurd cc

-- and so are their variants
near_high : (i : ℕ) (m : PredictionMode) → (not (nat_le 14 (prediction_mode_number m)) || nat_le 14 (prediction_mode_number (variant i m))) ≡ true
near_high zero DC_PRED = refl
near_high zero _ = refl
near_high (suc zero) DC_PRED = refl
near_high (suc zero) _ = refl
near_high (suc (suc zero)) DC_PRED = refl
near_high (suc (suc zero)) _ = refl
near_high (suc (suc (suc i))) DC_PRED = refl
near_high (suc (suc (suc i))) _ = refl

is_high : (n : ℕ) → not (nat_lt n 14) ≡ true → nat_le 14 n ≡ true
is_high n h = grind (arith, nat_tests)

variant_high : (t : Tile) (b : CurrentBlock) (i : ℕ) → not (is_intra t b) ≡ true → 14 ≤ prediction_mode_number (variant i (mode_at t b))
variant_high t b i h = is_at_most _ _ (implied _ _ (near_high i (mode_at t b)) (is_high (prediction_mode_number (mode_at t b)) h))

not_both : (b : Bool) → not b ≡ true → b ≡ true → ⊥
not_both true n h = cc
not_both false n h = cc

-- the vectors that a mode takes are valid
candidates_valid : (o : Option Candidates) → ForSome o AreCandidates → (i : ℕ) → let c = candidate_at (option_map_or (λ c. c.list) o []) i in IsValid c.this_mv × IsValid c.comp_mv
candidates_valid None h i = (no_vector_valid, no_vector_valid)
candidates_valid (Some c) h i = (h c refl).vectors i

either_valid : (c : Bool) (mv : MotionVector) → IsValid mv → IsValid (if c then mv else no_vector)
either_valid true mv h = h
either_valid false mv h = no_vector_valid

-- a block that is predicted from other frames stays fine where it takes a mode and its vectors
takes_fine : (t : Tile) (b : CurrentBlock) (m : PredictionMode) (pick : ℕ) → IsKept t → t.current ≡ Some b → not t.given.fi.intra_only ≡ true → not (is_intra t b) ≡ true → 14 ≤ prediction_mode_number m →
    (x : Block) → IsLike t (place_of_block b) (size_of_block b) x → IsFine t.given.fi x → IsFine t.given.fi (record x { mode = m; mv = vectors_of (listed t) m pick })
takes_fine t b m pick k e other inter high x like fine =
    let valid = candidates_valid t.cands k.cands pick in
    let c = candidate_at (listed t) pick in
    let there : is_inter x ≡ true = like b e refl refl ∙ is_high (prediction_mode_number (mode_at t b)) inter in
    record {
      mode = λ h. elim h [ inl intra ↦ absurd (not_both t.given.fi.intra_only other intra) | inr low ↦ absurd (omega (arith, low, high)) ];
      segment = fine.segment;
      sound = record {
        width = fine.sound.width;
        height = fine.sound.height;
        first_valid = either_valid (not (is_global m)) c.this_mv valid.0;
        second_valid = either_valid (is_pair_mode m && not (is_global m)) c.comp_mv valid.1;
        counts = fine.sound.counts;
        refers = λ h. fine.sound.refers there;
        refers_within = λ h. fine.sound.refers_within there;
      };
    }

takes_fit : (t : Tile) (b : CurrentBlock) (m : PredictionMode) (pick : ℕ) → IsKept t → t.current ≡ Some b → not t.given.fi.intra_only ≡ true → not (is_intra t b) ≡ true → 14 ≤ prediction_mode_number m → AllFit t (takes t b m pick)
takes_fit t b m pick k e other inter high = (
  (k.current b e, takes_fine t b m pick k e other inter high, λ c is x entered. entered, says_alike t b (λ x. record x { mode = m; mv = vectors_of (listed t) m pick }) e (λ x y. refl)),
  (tt, tt),
)

-- the contexts of a mode
contexts_few : (o : Option Candidates) → ForSome o AreCandidates → let ctx = option_map_or (λ c. c.context) o 0 in (new_context ctx ≤ 5) × (ref_context ctx ≤ 5)
contexts_few None h = (omega arith, omega arith)
contexts_few (Some c) h = let a = h c refl in (omega (arith, a.new_context), omega (arith, a.ref_context))

pub mode_contexts : (t : Tile) → IsKept t → (new_context (listed_context t) ≤ 5) × (ref_context (listed_context t) ≤ 5)
mode_contexts t k = contexts_few t.cands k.cands

two_few : (a b : Bool) → (if a then 1 else 0) + (if b then 1 else 0) ≤ 2
two_few true true = omega arith
two_few true false = omega arith
two_few false true = omega arith
two_few false false = omega arith

drl_few : (list : List CandidateMV) (i : ℕ) → drl_context list i ≤ 2
drl_few list i = two_few _ _

-- what an allowed mode of a block with one reference has
pub inter_mode_allowed : (t : Tile) (b : CurrentBlock) (m : PredictionMode) → first_broken (rules_of (inter_mode_kind t b) m) ≡ None → (not t.given.fi.intra_only ≡ true) × (not (is_intra t b) ≡ true) × IsAmong inter_modes m
inter_mode_allowed t b m h = let all = all_hold (rules_of (inter_mode_kind t b) m) h in (all.1.0, all.1.1.0, all.1.1.1.1.0)

pub inter_mode_is_kind : (t : Tile) (b : CurrentBlock) → IsKept t → t.current ≡ Some b → IsKind t (inter_mode_kind t b)
inter_mode_is_kind t b k e = record {
  reads = kind_reads (inter_mode_kind t b) (IsAmong inter_modes) 3 (omega arith) (λ m asked g. (all_hold ((inter_mode_kind t b).answering m) (none_is _ g)).0)
      (λ asked. let few = mode_contexts t k in inter_mode_reads (listed_context t) few.0 few.1);
  fit = λ m h. let may = inter_mode_allowed t b m (none_is _ h) in takes_fit t b m (first_pick m) k e may.0 may.1 (inter_high m may.2);
  at_place = λ m. (refl, (tt, tt));
}

-- what an allowed mode of a block with two has
pub compound_mode_allowed : (t : Tile) (b : CurrentBlock) (m : PredictionMode) → first_broken (rules_of (compound_mode_kind t b) m) ≡ None → (not t.given.fi.intra_only ≡ true) × (not (is_intra t b) ≡ true) × IsAmong compound_modes m
compound_mode_allowed t b m h = let all = all_hold (rules_of (compound_mode_kind t b) m) h in (all.1.0, all.1.1.0, all.1.1.1.1.0)

pub compound_mode_is_kind : (t : Tile) (b : CurrentBlock) → IsKept t → t.current ≡ Some b → IsKind t (compound_mode_kind t b)
compound_mode_is_kind t b k e = record {
  reads = kind_reads (compound_mode_kind t b) (IsAmong compound_modes) 1 (omega arith) (λ m asked g. (all_hold ((compound_mode_kind t b).answering m) (none_is _ g)).0) (λ asked. compound_mode_reads (listed_context t));
  fit = λ m h. let may = compound_mode_allowed t b m (none_is _ h) in takes_fit t b m (first_pick m) k e may.0 may.1 (compound_high m may.2);
  at_place = λ m. (refl, (tt, tt));
}

-- what an allowed choice has
pub record MayTake (t : Tile) (b : CurrentBlock) (i : ℕ) : Type 0 where
  pub other : not t.given.fi.intra_only ≡ true
  pub inter : not (is_intra t b) ≡ true
  pub more : i + 1 < length (listed t)
  pub mode : may_pick_after i (mode_at t b) ≡ true

pub drl_allowed : (i : ℕ) (t : Tile) (b : CurrentBlock) (later : Bool) → first_broken (rules_of (drl_kind i t b) later) ≡ None → MayTake t b i
drl_allowed i t b later h =
    let all = all_hold (rules_of (drl_kind i t b) later) h in
    let two = both (nat_lt (i + 1) (length (listed t))) (may_pick_after i (mode_at t b)) all.1.1.1.0 in
    record { other = all.1.0; inter = all.1.1.0; more = is_less _ _ two.0; mode = two.1 }

-- the number of a candidate after which there is a choice is small
pub small_index : (i : ℕ) (a b : Bool) → ((a && nat_le i 1) || (b && nat_le 1 i && nat_le i 2)) ≡ true → i ≤ 2
small_index i a b h = grind (arith, nat_tests)

drl_fit : (i : ℕ) (t : Tile) (b : CurrentBlock) (later : Bool) → IsKept t → t.current ≡ Some b → MayTake t b i → AllFit t ((drl_kind i t b).effects later)
drl_fit i t b true k e may = takes_fit t b (variant i (mode_at t b)) (i + 1) k e may.other may.inter (variant_high t b i may.inter)
drl_fit i t b false k e may = tt

drl_at : (i : ℕ) (t : Tile) (b : CurrentBlock) (later : Bool) → AllAt (Some (place_of_block b)) ((drl_kind i t b).effects later)
drl_at i t b true = (refl, (tt, tt))
drl_at i t b false = tt

pub drl_is_kind : (i : ℕ) (t : Tile) (b : CurrentBlock) → IsKept t → t.current ≡ Some b → IsKind t (drl_kind i t b)
drl_is_kind i t b k e = record {
  reads = kind_reads (drl_kind i t b) (λ later. Unit {0}) 1 (omega arith) (λ later asked g. tt) (λ asked. drl_mode_reads (drl_context (listed t) i) (drl_few (listed t) i));
  fit = λ later h. drl_fit i t b later k e (drl_allowed i t b later (none_is _ h));
  at_place = λ later. drl_at i t b later;
}
