-- What restoration filters refer to stays in its ranges, and each plane has the frame's type.
use Rattle.std.proofs.Common.{◌≡◌, ℕ, zero, suc, ◌<◌, List, [], ◌∷◌, Bool, length, get_or, set, nat_eq, refl, sym, ap, ◌∙◌, arith}
use Rattle.std.proofs.lemmas.List.{length-set}
use Rattle.av1_frame.specs.declared.state.FrameState.{FrameState}
use Rattle.av1_syntax.specs.Restoration.{plane_at, renewed, HasReferences, IsFilterOf}
use Rattle.av1_syntax.specs.declared.restoration.RestorationFilter.{RestorationFilter}
use Rattle.av1_syntax.specs.declared.restoration.RestorationFilter.TheVariants.{None as Unfiltered, Wiener, Sgrproj}
use Rattle.av1_syntax.specs.declared.restoration.RestorationPlane.{RestorationPlane}
use Rattle.av1_syntax.specs.declared.restoration.TileRestorationState.{TileRestorationState}
use Rattle.av1_syntax.proofs.Restoring.{starting_references, renewed_references}
use Rattle.av1_step.specs.Kept.{HasPlanes}
use Rattle.av1_step.specs.Tile.{first_planes, lrf_type_of}

-- what holds of the first three holds of each of them
three_cases : (P : ℕ → Type 0) → P 0 → P 1 → P 2 → (k : ℕ) → k < 3 → P k
three_cases P a b c zero h = a
three_cases P a b c (suc zero) h = b
three_cases P a b c (suc (suc zero)) h = c
three_cases P a b c (suc (suc (suc k))) h = absurd (omega (arith, h))

-- what holds of a new item, and held of the others, holds of each item
at_set : {A : Type 0} (P : A → Type 0) (xs : List A) (i j : ℕ) (v d : A) → (j ≡ i → P v) → P (get_or xs j d) → P (get_or (set xs i v) j d)
at_set P [] i j v d f h = h
at_set P (x ∷ xs) zero zero v d f h = f refl
at_set P (x ∷ xs) zero (suc j) v d f h = h
at_set P (x ∷ xs) (suc i) zero v d f h = h
at_set P (x ∷ xs) (suc i) (suc j) v d f h = at_set P xs i j v d (λ e. f (ap (λ (n : ℕ). suc n) e)) h

-- a filter leaves the type of its plane
renewed_type : (luma : Bool) (f : RestorationFilter) (plane : RestorationPlane) → (renewed luma f plane).lrf_type ≡ plane.lrf_type
renewed_type luma Unfiltered plane = refl
renewed_type luma (Wiener taps) plane = refl
renewed_type luma (Sgrproj set weights) plane = refl

-- a filter of any type leaves references in their ranges
renewed_within : (lrf_type : ℕ) (luma : Bool) (f : RestorationFilter) (plane : RestorationPlane) → IsFilterOf lrf_type luma f → HasReferences plane → HasReferences (renewed luma f plane)
renewed_within lrf_type luma Unfiltered plane fit h = h
renewed_within lrf_type luma (Wiener taps) plane fit h =
    let r = renewed_references (record plane { lrf_type = lrf_type }) luma (Wiener taps) (record { weights = h.weights; taps = h.taps }) fit in
    record { weights = r.weights; taps = r.taps }
renewed_within lrf_type luma (Sgrproj set weights) plane fit h =
    let r = renewed_references (record plane { lrf_type = lrf_type }) luma (Sgrproj set weights) (record { weights = h.weights; taps = h.taps }) fit in
    record { weights = r.weights; taps = r.taps }

pub planes_kept : (fs : FrameState) (rs : TileRestorationState) (plane lrf_type : ℕ) (f : RestorationFilter) → plane < 3 → IsFilterOf lrf_type (nat_eq plane 0) f → HasPlanes fs rs →
    HasPlanes fs record { planes = set rs.planes plane (renewed (nat_eq plane 0) f (plane_at rs plane)) }
planes_kept fs rs plane lrf_type f there fit k =
    let luma = nat_eq plane 0 in
    let old = plane_at rs plane in
    let new = renewed luma f old in
    let none : RestorationPlane = record { lrf_type = 0; sgrproj_ref = []; wiener_ref = [] } in
    record {
      three = length-set rs.planes plane new ∙ k.three;
      types = λ p h.
          at_set (λ (x : RestorationPlane). x.lrf_type ≡ lrf_type_of fs p) rs.planes plane p new none
          (λ e. renewed_type luma f old ∙ k.types plane there ∙ ap (λ (n : ℕ). lrf_type_of fs n) (sym e)) (k.types p h);
      references = λ p h. at_set HasReferences rs.planes plane p new none (λ e. renewed_within lrf_type luma f old fit (k.references plane there)) (k.references p h);
    }

pub first_fit : (fs : FrameState) → HasPlanes fs (first_planes fs)
first_fit fs = record {
  three = refl;
  types = three_cases (λ p. (plane_at (first_planes fs) p).lrf_type ≡ lrf_type_of fs p) refl refl refl;
  references = three_cases (λ p. HasReferences (plane_at (first_planes fs) p)) (starting_references (lrf_type_of fs 0)) (starting_references (lrf_type_of fs 1)) (starting_references (lrf_type_of fs 2));
}
