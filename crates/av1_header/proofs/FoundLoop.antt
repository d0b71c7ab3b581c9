-- A loop that looks for a reference of the frame's sides, a step at a time.
use Rattle.std.proofs.Common.{◌≡◌, ℕ, suc, ◌+◌, List, Bool, true, false, subst, sym, refl}
use Rattle.av1_header.specs.Rows.{Wrote, WroteFlag}
use Rattle.av1_header.specs.Sizes.{FrameRefs, found_ref, reference_has_sides}
use Rattle.av1_header.proofs.RowLaws.{flag_then, wrote_done, wrote_if, wrote_else}

pub found_none : (n i : ℕ) (s : FrameRefs) (p : Bool) (old : List Bool) → n ≡ 0 → Wrote (found_ref n i) s false p p old old
unfolding found_ref
found_none n i s p old e = subst (λ m. Wrote (found_ref m i) s false p p old old) (sym e) (wrote_done s false false p old refl)

pub found_one : (n m i : ℕ) (s : FrameRefs) (value told p q : Bool) (old new : List Bool) → n ≡ suc m → WroteFlag true false value told p q old new → value ≡ reference_has_sides i s → told ≡ true →
    Wrote (found_ref n i) s true p q old new
unfolding found_ref
found_one n m i s value told p q old new e w v t = subst (λ k. Wrote (found_ref k i) s true p q old new) (sym e)
    (flag_then _ _ _ _ _ _ _ _ _ _ _ _ _ _ _ _ _ w refl refl v (wrote_if _ _ _ _ _ _ _ _ _ t (wrote_done s true true q new refl)))

pub found_later : (n m i : ℕ) (s : FrameRefs) (a value told p q r : Bool) (old mid new : List Bool) → n ≡ suc m → WroteFlag true false value told p q old mid → value ≡ reference_has_sides i s → told ≡ false →
    Wrote (found_ref m (i + 1)) s a q r mid new → Wrote (found_ref n i) s a p r old new
unfolding found_ref
found_later n m i s a value told p q r old mid new e w v t x = subst (λ k. Wrote (found_ref k i) s a p r old new) (sym e)
    (flag_then _ _ _ _ _ _ _ _ _ _ _ _ _ _ _ _ _ w refl refl v (wrote_else _ _ _ _ _ _ _ _ _ t x))
