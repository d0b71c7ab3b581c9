-- What the kinds of step for angles and for factors of chroma from luma bring.
use mir.Val.{SFits}
use Rattle.std.proofs.Common.{◌≡◌, ℕ, zero, suc, ◌+◌, ◌<◌, ◌≤◌, ◌≤ℤ◌, ℤ, pos, negsuc, [], ◌∷◌, Bool, true, false, Option, Some, None, Result, refl, sym, ap, subst, ◌∙◌, arith, int_le, nat_le, w16}
use Rattle.std.specs.Option.{option_map_or}
use Rattle.std.proofs.lemmas.Int.{ints}
use Rattle.av1_cdf.specs.Distribution.{HasSymbols}
use Rattle.av1_geometry.specs.BlockSize.{number_of}
use Rattle.av1_geometry.specs.Cfl.{sign_number, sign_of, sign_at, scale_at, signed, magnitude}
use Rattle.av1_geometry.specs.PredictionMode.{prediction_mode_number}
use Rattle.av1_geometry.specs.Rules.{first_broken}
use Rattle.av1_geometry.specs.declared.cfl.CFLParams.{CFLParams}
use Rattle.av1_geometry.specs.declared.prediction_mode.PredictionMode.{PredictionMode}
use Rattle.av1_model.specs.Comes.{Standing, Wrote}
use Rattle.av1_model.specs.Element.{Reads, where_some}
use Rattle.av1_syntax.specs.Factors.{factors_element, factors_of, AreFactors, AreCoded}
use Rattle.av1_syntax.specs.IntraModes.{angle_delta_element}
use Rattle.av1_syntax.proofs.Elements.{angle_delta_reads}
use Rattle.av1_syntax.proofs.Factors.{neg_is}
use Rattle.av1_syntax.proofs.Readings.{factors_read}
use Rattle.av1_syntax.specs.Calls.{Context, coded_in, learnt_in}
use Rattle.av1_step.specs.AngleSteps.{angle_mode, is_directional, is_angle, are_factors, angle_delta_kind, cfl_alphas_kind}
use Rattle.av1_step.specs.Kind.{rules_of, IsKind}
use Rattle.av1_step.specs.Tile.{Tile, CurrentBlock, size_of_block}
use Rattle.av1_step.proofs.KindLaws.{kind_reads, none_is}
use Rattle.av1_step.proofs.Places.{all_hold, both, is_at_most}

-- at most three steps to either side
abbrev pub IsAngle : ℤ → Type 0
IsAngle a = (negsuc 2 ≤ℤ a) × (a ≤ℤ pos 3)

angle_is : (a : ℤ) → is_angle a ≡ true → IsAngle a
angle_is a h =
    let two : (int_le (negsuc 2) a ≡ true) × (int_le a (pos 3) ≡ true) = both (int_le (negsuc 2) a) (int_le a (pos 3)) h in
    (omega (arith, ints, two.0), omega (arith, ints, two.1))

directional_is : (m : PredictionMode) → is_directional m ≡ true → (1 ≤ prediction_mode_number m) × (prediction_mode_number m ≤ 8)
directional_is m h = let two = both _ _ h in (is_at_most _ _ two.0, is_at_most _ _ two.1)

-- a mode that is there, and has a direction
record IsTurned (o : Option PredictionMode) : Type 0 where
  mode : PredictionMode
  there : o ≡ Some mode
  from : 1 ≤ prediction_mode_number mode
  to : prediction_mode_number mode ≤ 8

turned_is : (o : Option PredictionMode) → option_map_or is_directional o false ≡ true → IsTurned o
turned_is None h = absurd cc
turned_is (Some m) h = let d = directional_is m h in record { mode = m; there = refl; from = d.0; to = d.1 }

angle_reads : (o : Option PredictionMode) → IsTurned o → Reads HasSymbols (where_some o angle_delta_element) IsAngle 1
angle_reads o t = subst (λ (p : Option PredictionMode). Reads HasSymbols (where_some p angle_delta_element) IsAngle 1) (sym t.there) (angle_delta_reads t.mode t.from t.to)

-- what an allowed angle has
pub record IsTurnedBy (o : Option PredictionMode) (a : ℤ) : Type 0 where
  pub some : (m : PredictionMode) → o ≡ Some m → (1 ≤ prediction_mode_number m) × (prediction_mode_number m ≤ 8)
  pub none : o ≡ None → ⊥
  pub angle : IsAngle a

pub angle_delta_allowed : (chroma : Bool) (t : Tile) (b : CurrentBlock) (a : ℤ) → first_broken (rules_of (angle_delta_kind chroma t b) a) ≡ None → IsTurnedBy (angle_mode chroma t b) a
angle_delta_allowed chroma t b a h =
    let all = all_hold (rules_of (angle_delta_kind chroma t b) a) h in
    let o = angle_mode chroma t b in
    let turned = (both (nat_le 3 (number_of (size_of_block b))) (option_map_or is_directional o false) all.1.1.0).1 in
    record {
      some = λ m e. directional_is m (let same : option_map_or is_directional o false ≡ is_directional m = ap (λ (p : Option PredictionMode). option_map_or is_directional p false) e in cc (same, turned));
      none = λ e. (let same : option_map_or is_directional o false ≡ false = ap (λ (p : Option PredictionMode). option_map_or is_directional p false) e in cc (same, turned));
      angle = angle_is a all.1.1.1.0;
    }

pub angle_delta_is_kind : (chroma : Bool) (t : Tile) (b : CurrentBlock) → IsKind t (angle_delta_kind chroma t b)
angle_delta_is_kind chroma t b = record {
  reads = kind_reads (angle_delta_kind chroma t b) IsAngle 1 (omega arith) (λ a g r. angle_is a (all_hold ((angle_delta_kind chroma t b).answering a) (none_is _ r)).0)
      (λ g. angle_reads (angle_mode chroma t b) (turned_is _ (both _ _ (all_hold (angle_delta_kind chroma t b).asking (none_is _ g)).1.1.0).1));
  fit = λ a g. tt;
  at_place = λ a. tt;
}

-- the angle of a mode that is there was coded
pub angle_as : {U E : Type 0} (r : Result U E) (o : Option PredictionMode) (m : PredictionMode) (x a : ℤ) (from to : Standing Context) → o ≡ Some m → x ≡ a → Wrote coded_in learnt_in r (angle_delta_element m).tree x from to →
    Wrote coded_in learnt_in r (where_some o angle_delta_element).tree a from to
angle_as r o m x a from to e same w =
    subst (λ (p : Option PredictionMode). Wrote coded_in learnt_in r (where_some p angle_delta_element).tree a from to) (sym e) (subst (λ y. Wrote coded_in learnt_in r (angle_delta_element m).tree y from to) same w)

factors_are : (f : ℤ × ℤ) → are_factors f ≡ true → AreFactors f
factors_are f h =
    let some = both _ _ h in
    let sizes = both _ _ some.0 in
    record { first = is_at_most _ _ sizes.0; second = is_at_most _ _ sizes.1; some = is_at_most _ _ some.1 }

-- what allowed factors have
pub cfl_alphas_allowed : (t : Tile) (b : CurrentBlock) (f : ℤ × ℤ) → first_broken (rules_of (cfl_alphas_kind t b) f) ≡ None → AreFactors f
cfl_alphas_allowed t b f h = factors_are f (all_hold (rules_of (cfl_alphas_kind t b) f) h).1.1.1.0

pub cfl_alphas_is_kind : (t : Tile) (b : CurrentBlock) → IsKind t (cfl_alphas_kind t b)
cfl_alphas_is_kind t b = record {
  reads = kind_reads (cfl_alphas_kind t b) AreFactors 3 (omega arith) (λ f g r. factors_are f (all_hold ((cfl_alphas_kind t b).answering f) (none_is _ r)).0) (λ g. factors_read);
  fit = λ f g. tt;
  at_place = λ f. tt;
}

-- the signs and sizes of two factors
abbrev pub params : ℤ → ℤ → CFLParams
params u v = record { sign = sign_of u ∷ sign_of v ∷ []; scale = magnitude u ∷ magnitude v ∷ [] }

sized : (a : ℤ) → magnitude a ≤ 16 → 1 ≤ sign_number (sign_of a) → (1 ≤ magnitude a) × (magnitude a ≤ 16)
sized (pos zero) few h = absurd (omega (arith, h))
sized (pos (suc n)) few h = (omega arith, few)
sized (negsuc n) few h = (omega arith, few)

signs_some : (u v : ℤ) → 1 ≤ magnitude u + magnitude v → 1 ≤ sign_number (sign_of u) + sign_number (sign_of v)
signs_some (pos zero) (pos zero) h = absurd (omega (arith, h))
signs_some (pos zero) (pos (suc n)) h = omega arith
signs_some (pos zero) (negsuc n) h = omega arith
signs_some (pos (suc m)) v h = omega arith
signs_some (negsuc m) v h = omega arith

params_sized : (u v : ℤ) → AreFactors (u, v) → (uv : ℕ) → uv < 2 → 1 ≤ sign_number (sign_at (params u v) uv) → (1 ≤ scale_at (params u v) uv) × (scale_at (params u v) uv ≤ 16)
params_sized u v f zero l h = sized u f.first h
params_sized u v f (suc zero) l h = sized v f.second h
params_sized u v f (suc (suc uv)) l h = absurd (omega (arith, l))

pub params_are : (p : CFLParams) (u v x y : ℤ) → x ≡ u → y ≡ v → p.sign ≡ sign_of x ∷ sign_of y ∷ [] → p.scale ≡ magnitude x ∷ magnitude y ∷ [] → p ≡ params u v
params_are p u v x y e f signs scales =
    let q : p ≡ params x y = λ i. record { sign = signs i; scale = scales i } in
    q ∙ ap (λ n. params n y) e ∙ ap (λ n. params u n) f

pub params_coded : (p : CFLParams) (u v : ℤ) → p ≡ params u v → AreFactors (u, v) → AreCoded p
params_coded p u v e f = subst AreCoded (sym e) (record { some = signs_some u v f.some; scales = params_sized u v f })

factor_is : (a : ℤ) → signed (sign_of a) (magnitude a) ≡ a
factor_is (pos zero) = refl
factor_is (pos (suc n)) = refl
factor_is (negsuc n) = neg_is n

params_factors : (u v : ℤ) → factors_of (params u v) ≡ (u, v)
params_factors u v = λ i. (factor_is u i, factor_is v i)

-- a factor is a number that signs and sizes are made of
pub within_eight : (a : ℤ) → magnitude a ≤ 16 → (negsuc 254 ≤ℤ a) × (a ≤ℤ pos 255)
within_eight (pos n) h = (omega (arith, ints), omega (arith, ints, h))
within_eight (negsuc n) h = (omega (arith, ints, h), omega (arith, ints))

pub factor_fits : (a : ℤ) → magnitude a ≤ 16 → SFits w16 a
factor_fits (pos n) h = record { sfits = omega (arith, h) }
factor_fits (negsuc n) h = record { sfits = omega (arith, h) }

-- factors were coded by their signs and sizes
pub factors_as : {U E : Type 0} (r : Result U E) (p : CFLParams) (f : ℤ × ℤ) (from to : Standing Context) → p ≡ params f.0 f.1 → Wrote coded_in learnt_in r factors_element.tree (factors_of p) from to →
    Wrote coded_in learnt_in r factors_element.tree f from to
factors_as r p f from to e w =
    subst (λ x. Wrote coded_in learnt_in r factors_element.tree x from to) (params_factors f.0 f.1) (subst (λ (q : CFLParams). Wrote coded_in learnt_in r factors_element.tree (factors_of q) from to) e w)
