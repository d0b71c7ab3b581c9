-- What the steps of the vectors of inter blocks bring.
use Rattle.std.proofs.Common.{◌≡◌, ℕ, zero, suc, ◌+◌, ◌*◌, ◌<◌, ◌≤◌, ◌<ℤ◌, ℤ, ◌==◌, List, [], ◌∷◌, Bool, true, false, IsTrue, Some, None, length, get_or, set, not, int_lt, nat_le, nat_lt, refl, sym, subst, arith, inl, inr}
use Rattle.std.proofs.lemmas.Bool.{cases_lt}
use Rattle.std.proofs.lemmas.Bool.Decides.{nat_tests}
use Rattle.std.proofs.lemmas.Int.{ints}
use Rattle.std.proofs.lemmas.List.{get_or_past}
use Rattle.av1_blocks.specs.declared.block.Block.{Block}
use Rattle.av1_blocks.specs.declared.block.TheConstants.Block.{DEFAULT}
use Rattle.av1_blocks.specs.Block.{is_inter, has_second_ref}
use Rattle.av1_blocks.specs.Grid.{block_at}
use Rattle.av1_blocks.specs.Sound.{IsSound}
use Rattle.av1_cdf.specs.Distribution.{HasSymbols}
use Rattle.av1_geometry.specs.MotionVector.{IsValid}
use Rattle.av1_geometry.specs.PredictionMode.{prediction_mode_number}
use Rattle.av1_geometry.specs.RefType.{reference_number}
use Rattle.av1_geometry.specs.Rules.{first_broken}
use Rattle.av1_geometry.specs.declared.motion_vector.MotionVector.{MotionVector}
use Rattle.av1_geometry.specs.declared.motion_vector.MvSubpelPrecision.{MvSubpelPrecision}
use Rattle.av1_model.proofs.ElementLaws.{known_reads}
use Rattle.av1_mvref.specs.Candidates.{no_vector, ref_of}
use Rattle.av1_mvref.specs.Conditions.{IsReference}
use Rattle.av1_mvref.specs.ExtraSearch.{Candidates}
use Rattle.av1_syntax.specs.Vectors.{IsDifference, difference}
use Rattle.av1_syntax.proofs.VectorReads.{vector_reads}
use Rattle.av1_step.specs.IntraSteps.{is_intra, mode_at}
use Rattle.av1_step.specs.Kept.{AreCandidates, IsBlock, IsKept}
use Rattle.av1_step.specs.Kind.{rules_of, IsKind}
use Rattle.av1_step.specs.Listed.{is_compound}
use Rattle.av1_step.specs.Tile.{Tile, CurrentBlock, grid_block, place_of_block, size_of_block}
use Rattle.av1_step.specs.VectorSteps.{candidates_of, is_coded_list, is_small, is_valid, is_whole, mv_kind, mv_refs_kind, precision_of, reference_vector, with_vector}
use Rattle.av1_step.proofs.Candidates.{HasVectors, are_candidates, none_valid}
use Rattle.av1_step.proofs.IntraSteps.{fine_at}
use Rattle.av1_step.proofs.KindLaws.{kind_reads, none_is}
use Rattle.av1_step.proofs.Places.{all_hold, both, is_at_most}

-- each block of the grid has valid vectors, and so has what stands past its end
all_have : (t : Tile) → IsKept t → (x y : ℕ) → HasVectors (block_at t.bc.blocks x y)
all_have t k x y =
    let g = t.bc.blocks in
    let i = (g.y + y) * g.frame.frame_cols + (g.x + x) in
    elim (cases_lt i (length g.frame.blocks)) [
      | inl l ↦ let s = (k.fine i l).sound in (s.first_valid, s.second_valid)
      | inr m ↦ subst HasVectors (sym (get_or_past g.frame.blocks i DEFAULT m)) (none_valid, none_valid)
    ]

pub found_are : (has_tr : Bool) (t : Tile) (b : CurrentBlock) → IsKept t → AreCandidates (candidates_of has_tr t b)
found_are has_tr t b k = are_candidates t.bc.blocks (all_have t k) (place_of_block b) (size_of_block b) (grid_block t b).ref_frames (is_compound t b) has_tr t.given.fi.ref_frame_sign_bias

found_fit : (c : Candidates) → AreCandidates c → (d : Candidates) → Some c ≡ Some d → AreCandidates d
found_fit c h d e = let same : c ≡ d = cc in subst AreCandidates same h

pub mv_refs_is_kind : (has_tr : Bool) (t : Tile) (b : CurrentBlock) → IsKept t → IsKind t (mv_refs_kind has_tr t b)
mv_refs_is_kind has_tr t b k = record {
  reads = kind_reads (mv_refs_kind has_tr t b) (λ a. a ≡ tt) 0 (omega arith) (λ a g r. refl) (λ g. known_reads HasSymbols tt);
  fit = λ a g. (found_fit (candidates_of has_tr t b) (found_are has_tr t b k), tt);
  at_place = λ a. (tt, tt);
}

not_so : (b : Bool) → not b ≡ true → b ≡ false
not_so true h = cc
not_so false h = refl

-- a mode that is not one of prediction within the frame is one of an inter block
later : (n : ℕ) → nat_lt n 14 ≡ false → IsTrue (nat_le 14 n)
later n h = grind (arith, nat_tests)

-- an inter block of the current place refers to one of the seven references
inter_here : (has_tr : Bool) (t : Tile) (b : CurrentBlock) → first_broken (rules_of (mv_refs_kind has_tr t b) tt) ≡ None → IsTrue (is_inter (grid_block t b))
inter_here has_tr t b h = later (prediction_mode_number (mode_at t b)) (not_so _ (all_hold (rules_of (mv_refs_kind has_tr t b) tt) h).1.1.0)

pub refers_from : (has_tr : Bool) (t : Tile) (b : CurrentBlock) (x : Block) → IsKept t → t.current ≡ Some b → x ≡ grid_block t b → first_broken (rules_of (mv_refs_kind has_tr t b) tt) ≡ None → 1 ≤ reference_number (ref_of x 0)
refers_from has_tr t b x k current is h =
    let s = k.current b current in
    subst (λ (y : Block). 1 ≤ reference_number (ref_of y 0)) (sym is) ((fine_at t k (place_of_block b).x (place_of_block b).y s.column s.row).sound.refers (inter_here has_tr t b h))

pub refers_to : (has_tr : Bool) (t : Tile) (b : CurrentBlock) (x : Block) → IsKept t → t.current ≡ Some b → x ≡ grid_block t b → first_broken (rules_of (mv_refs_kind has_tr t b) tt) ≡ None → reference_number (ref_of x 0) ≤ 7
refers_to has_tr t b x k current is h =
    let s = k.current b current in
    subst (λ (y : Block). reference_number (ref_of y 0) ≤ 7) (sym is) ((fine_at t k (place_of_block b).x (place_of_block b).y s.column s.row).sound.refers_within (inter_here has_tr t b h))

-- and a second reference is one of them
pub second_is : (x : Block) → IsTrue (has_second_ref x) → IsReference (ref_of x 1)
second_is x h = let two = both _ _ h in record { first = is_at_most _ _ two.0; last = is_at_most _ _ two.1 }

-- a vector that passes the test is valid
above : (m n : ℤ) → int_lt m n ≡ true → m <ℤ n
above m n h = omega (arith, ints, h)

pub valid_is : (mv : MotionVector) → is_valid mv ≡ true → IsValid mv
valid_is mv h =
    let col = both _ _ h in
    let low = both _ _ col.0 in
    let row = both _ _ low.0 in
    (above _ _ row.0, above _ _ row.1, above _ _ low.1, above _ _ col.1)

zero_is : (n : ℕ) → (n == 0) ≡ true → n ≡ 0
zero_is n h = grind (arith, nat_tests)

-- a difference that passes the tests can be coded
pub difference_is : (p : MvSubpelPrecision) (d : MotionVector) → is_small d ≡ true → is_whole p d ≡ true → IsDifference p d
difference_is p d small whole =
    let sizes = both _ _ small in
    let units = both _ _ whole in
    record {
      rows = record { size = is_at_most _ _ sizes.0; whole = zero_is _ units.0 };
      columns = record { size = is_at_most _ _ sizes.1; whole = zero_is _ units.1 };
    }

-- what an allowed vector has
pub record IsAllowedVector (list : ℕ) (t : Tile) (b : CurrentBlock) (mv : MotionVector) : Type 0 where
  pub inter : is_intra t b ≡ false
  pub coded : is_coded_list list (mode_at t b) ≡ true
  pub valid : IsValid mv
  pub fits : IsDifference (precision_of t.given.fi) (difference mv (reference_vector list t))

pub mv_allowed : (list : ℕ) (t : Tile) (b : CurrentBlock) (mv : MotionVector) → first_broken (rules_of (mv_kind list t b) mv) ≡ None → IsAllowedVector list t b mv
mv_allowed list t b mv h =
    let all = all_hold (rules_of (mv_kind list t b) mv) h in
    let vector = both _ _ all.1.1.1.1.0 in
    record {
      inter = not_so _ all.1.1.0;
      coded = (both _ _ all.1.1.1.0).1;
      valid = valid_is mv vector.0;
      fits = difference_is (precision_of t.given.fi) (difference mv (reference_vector list t)) vector.1 all.1.1.1.1.1.0;
    }

answer_fits : (list : ℕ) (t : Tile) (b : CurrentBlock) (mv : MotionVector) → first_broken ((mv_kind list t b).answering mv) ≡ None → IsDifference (precision_of t.given.fi) (difference mv (reference_vector list t))
answer_fits list t b mv h =
    let all = all_hold ((mv_kind list t b).answering mv) h in
    difference_is (precision_of t.given.fi) (difference mv (reference_vector list t)) (both _ _ all.0).1 all.1.0

-- a list of valid vectors stays one where a valid one is put into it
set_valid : (mvs : List MotionVector) (list i : ℕ) (mv : MotionVector) → IsValid mv → IsValid (get_or mvs i no_vector) → IsValid (get_or (set mvs list mv) i no_vector)
set_valid [] list i mv h g = g
set_valid (m ∷ ms) zero zero mv h g = h
set_valid (m ∷ ms) zero (suc i) mv h g = g
set_valid (m ∷ ms) (suc list) zero mv h g = g
set_valid (m ∷ ms) (suc list) (suc i) mv h g = set_valid ms list i mv h g

-- a block stays sound where it gets valid vectors
pub sound_with : (x : Block) (mvs : List MotionVector) → IsValid (get_or mvs 0 no_vector) → IsValid (get_or mvs 1 no_vector) → IsSound x → IsSound (record x { mv = mvs })
sound_with x mvs first second s = record {
  width = s.width;
  height = s.height;
  first_valid = first;
  second_valid = second;
  counts = s.counts;
  refers = s.refers;
  refers_within = s.refers_within;
}

pub mv_is_kind : (list : ℕ) (t : Tile) (b : CurrentBlock) → IsKept t → IsBlock t.bc.blocks.cols t.bc.blocks.rows (place_of_block b) (size_of_block b) → IsKind t (mv_kind list t b)
mv_is_kind list t b k s =
    let here = (fine_at t k (place_of_block b).x (place_of_block b).y s.column s.row).sound in
    record {
      reads = kind_reads (mv_kind list t b) (λ mv. IsDifference (precision_of t.given.fi) (difference mv (reference_vector list t))) 29 (omega arith) (λ mv h g. answer_fits list t b mv (none_is _ g))
          (λ h. vector_reads (reference_vector list t) (precision_of t.given.fi));
      fit = λ mv h.
          let valid = (mv_allowed list t b mv (none_is _ h)).valid in
          let mvs = with_vector list t b mv in
          let first = set_valid (grid_block t b).mv list 0 mv valid here.first_valid in
          let second = set_valid (grid_block t b).mv list 1 mv valid here.second_valid in
          ((s, λ x like fine. record { mode = fine.mode; segment = fine.segment; sound = sound_with x mvs first second fine.sound }, λ c is x e. e, λ c is. inl (λ x. refl)), tt);
      at_place = λ mv. (refl, tt);
    }
