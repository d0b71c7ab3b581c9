-- Candidates with the same vectors.
use Rattle.std.proofs.Common.{◌≡◌, Bool, true, false, ◌&&◌, refl, ap, ◌∙◌}
use Rattle.std.specs.Cmp.{IsEquivalence, int_eq_equiv, on_equiv}
use Rattle.std.specs.Ordering.{int_eq}
use Rattle.av1_geometry.specs.declared.motion_vector.MotionVector.{MotionVector}
use Rattle.av1_mvref.specs.declared.candidate.CandidateMV.{CandidateMV}
use Rattle.av1_mvref.specs.Candidates.{same, same_mv}

and_left : (a b : Bool) → (a && b) ≡ true → a ≡ true
and_left true b h = refl
and_left false b h = h

and_right : (a b : Bool) → (a && b) ≡ true → b ≡ true
and_right true b h = h
and_right false b h = cc

both : {K : Type 0} (e f : K → K → Bool) → IsEquivalence e → IsEquivalence f → IsEquivalence (λ x y. e x y && f x y)
both e f p q = record {
  refl = λ x. let a = p.refl x in let b = q.refl x in ap (λ v. v && f x x) a ∙ b;
  symm = λ x y. ap (λ v. v && f x y) (p.symm x y) ∙ ap (λ v. e y x && v) (q.symm x y);
  congr = λ x y z h. ap (λ v. v && f x z) (p.congr x y z (and_left (e x y) (f x y) h)) ∙ ap (λ v. e y z && v) (q.congr x y z (and_right (e x y) (f x y) h));
}

same_mv_equiv : IsEquivalence same_mv
same_mv_equiv = both (λ (a b : MotionVector). int_eq a.row b.row) (λ a b. int_eq a.col b.col) (on_equiv (λ (a : MotionVector). a.row) int_eq_equiv) (on_equiv (λ (a : MotionVector). a.col) int_eq_equiv)

pub same_equiv : IsEquivalence same
same_equiv = both (λ (a b : CandidateMV). same_mv a.this_mv b.this_mv) (λ a b. same_mv a.comp_mv b.comp_mv) (on_equiv (λ (a : CandidateMV). a.this_mv) same_mv_equiv) (on_equiv (λ (a : CandidateMV). a.comp_mv) same_mv_equiv)
