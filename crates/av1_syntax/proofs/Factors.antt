-- What a call that codes the factors of chroma from luma writes.
use Rattle.std.proofs.Common.{◌≡◌, ℕ, zero, suc, ◌+◌, ◌-◌, ◌*◌, ◌≤◌, [], ◌∷◌, ◌++◌, Option, Some, Result, codes, refl, sym, ap, subst, ◌∙◌, arith, ℤ, pos, negsuc, ◌-ℤ◌}
use Rattle.std.specs.Option.{option_map_or}
use Rattle.std.specs.Prelude.{OnOk, OnErr}
use Rattle.std.proofs.lemmas.Int.{ints}
use Rattle.av1_cdf.specs.Distribution.{Distribution}
use Rattle.av1_cdf.specs.Distribution.Distribution.{Adaptive}
use Rattle.av1_cdf.specs.Layout.{Slot, slot}
use Rattle.av1_geometry.specs.Cfl.{sign_number, signed, magnitude}
use Rattle.av1_geometry.specs.declared.cfl.CFLSign.{CFLSign}
use Rattle.av1_geometry.specs.declared.cfl.CFLSign.TheVariants.{CFL_SIGN_ZERO, CFL_SIGN_NEG, CFL_SIGN_POS}
use Rattle.av1_model.specs.Comes.{Standing, Stores, Comes, Wrote, Writes, Begins}
use Rattle.av1_model.specs.Element.{Element, known, nothing}
use Rattle.av1_model.specs.Syntax.{Syntax, Leads, bind}
use Rattle.av1_model.specs.Syntax.Syntax.{Done}
use Rattle.av1_model.proofs.ComesLaws.{stays, writes_symbol, begins_symbol, writes_first, begins_first, begins_then, comes_then, wrote_then, wrote_as}
use Rattle.av1_model.proofs.TreeLaws.{leads_then}
use Rattle.av1_syntax.specs.Calls.{Context, coded_in, learnt_in}
use Rattle.av1_syntax.specs.Factors.{signs_of, signs_number, signs_element, factor_of, factor_number, factor_element, sizes_element, factors_element}
use Rattle.av1_syntax.proofs.Values.{below}
use Rattle.av1_syntax.proofs.Writing.{wrote_symbol, stores_as}

pub neg_is : (n : ℕ) → pos 0 -ℤ pos (suc n) ≡ negsuc n
neg_is n = grind (arith, ints)

pub magnitude_neg : (n : ℕ) → magnitude (pos 0 -ℤ pos n) ≡ n
magnitude_neg zero = refl
magnitude_neg (suc n) = rw (neg_is n) refl

pub magnitude_signed : (own : CFLSign) (n : ℕ) → 1 ≤ sign_number own → magnitude (signed own n) ≡ n
magnitude_signed CFL_SIGN_ZERO n h = absurd (omega (arith, h))
magnitude_signed CFL_SIGN_NEG n h = magnitude_neg n
magnitude_signed CFL_SIGN_POS n h = refl

-- the size of a factor that is not zero
abbrev pub IsSized : CFLSign → ℕ → Type 0
IsSized own n = 1 ≤ sign_number own → (1 ≤ n) × (n ≤ 16)

pub factor_told : (own : CFLSign) (n : ℕ) → 1 ≤ sign_number own → IsSized own n → factor_of own (factor_number (signed own n)) ≡ Some (signed own n)
factor_told own n h sized =
    let s = sized h in
    let e : n - 1 + 1 ≡ n = omega (arith, s) in
    ap (λ m. factor_of own (m - 1)) (magnitude_signed own n h) ∙ below 16 (n - 1) (Some (signed own (n - 1 + 1))) (omega (arith, s)) ∙ ap (λ k. Some (signed own k)) e

-- the size of a factor that is not zero is coded
pub factor_wrote : {U E : Type 0} (r : Result U E) (own other : CFLSign) (n ctx s : ℕ) (p : Slot) (old new : Standing Context) → 1 ≤ sign_number own → IsSized own n → ctx + 3 ≡ 3 * sign_number own + sign_number other → s + 1 ≡ n →
    p ≡ slot (codes "cfl_alpha_cdf") (ctx ∷ []) → OnOk r (Stores coded_in learnt_in (Adaptive p) s old new) → OnErr r (new ≡ old) → Wrote coded_in learnt_in r (factor_element own other).tree (signed own n) old new
factor_wrote r CFL_SIGN_ZERO other n ctx s p old new h sized at e is ok err = absurd (omega (arith, h))
factor_wrote r CFL_SIGN_NEG other n ctx s p old new h sized at e is ok err =
    let m = magnitude_signed CFL_SIGN_NEG n h in
    let k : ctx ≡ 3 * sign_number CFL_SIGN_NEG + sign_number other - 3 = omega (arith, at) in
    wrote_symbol r p (slot (codes "cfl_alpha_cdf") ((3 * sign_number CFL_SIGN_NEG + sign_number other - 3) ∷ [])) (factor_of CFL_SIGN_NEG) factor_number s (signed CFL_SIGN_NEG n) old new (is ∙ ap (λ k. slot (codes "cfl_alpha_cdf") (k ∷ [])) k)
    (omega (arith, m, e)) (factor_told CFL_SIGN_NEG n h sized) ok err
factor_wrote r CFL_SIGN_POS other n ctx s p old new h sized at e is ok err =
    let m = magnitude_signed CFL_SIGN_POS n h in
    let k : ctx ≡ 3 * sign_number CFL_SIGN_POS + sign_number other - 3 = omega (arith, at) in
    wrote_symbol r p (slot (codes "cfl_alpha_cdf") ((3 * sign_number CFL_SIGN_POS + sign_number other - 3) ∷ [])) (factor_of CFL_SIGN_POS) factor_number s (signed CFL_SIGN_POS n) old new (is ∙ ap (λ k. slot (codes "cfl_alpha_cdf") (k ∷ [])) k)
    (omega (arith, m, e)) (factor_told CFL_SIGN_POS n h sized) ok err

-- nothing is coded of a factor that is zero
pub factor_none : (own other : CFLSign) (n : ℕ) (at : Standing Context) → (1 ≤ sign_number own → ⊥) → Writes coded_in learnt_in (factor_element own other).tree (signed own n) at at
factor_none CFL_SIGN_ZERO other n at h = stays coded_in learnt_in (Done (pos 0)) at
factor_none CFL_SIGN_NEG other n at h = absurd (h (omega arith))
factor_none CFL_SIGN_POS other n at h = absurd (h (omega arith))

abbrev of_option : Option ℤ → Element Distribution ℤ
of_option o = option_map_or known o nothing

told : (o : Option ℤ) (a : ℤ) → o ≡ Some a → Leads (of_option o).tree ((of_option o).symbols a) a
told o a e = subst (λ (o : Option ℤ). Leads (of_option o).tree ((of_option o).symbols a) a) (sym e) refl

factor_leads : (own other : CFLSign) (n : ℕ) → IsSized own n → Leads (factor_element own other).tree ((factor_element own other).symbols (signed own n)) (signed own n)
factor_leads CFL_SIGN_ZERO other n h = refl
factor_leads CFL_SIGN_NEG other n h = told (factor_of CFL_SIGN_NEG (factor_number (signed CFL_SIGN_NEG n))) (signed CFL_SIGN_NEG n) (factor_told CFL_SIGN_NEG n (omega arith) h)
factor_leads CFL_SIGN_POS other n h = told (factor_of CFL_SIGN_POS (factor_number (signed CFL_SIGN_POS n))) (signed CFL_SIGN_POS n) (factor_told CFL_SIGN_POS n (omega arith) h)

pub signs_told : (a b : CFLSign) → 1 ≤ sign_number a + sign_number b → signs_of (signs_number (a, b)) ≡ Some (a, b)
signs_told CFL_SIGN_ZERO CFL_SIGN_ZERO h = absurd (omega (arith, h))
signs_told CFL_SIGN_ZERO CFL_SIGN_NEG h = refl
signs_told CFL_SIGN_ZERO CFL_SIGN_POS h = refl
signs_told CFL_SIGN_NEG CFL_SIGN_ZERO h = refl
signs_told CFL_SIGN_NEG CFL_SIGN_NEG h = refl
signs_told CFL_SIGN_NEG CFL_SIGN_POS h = refl
signs_told CFL_SIGN_POS CFL_SIGN_ZERO h = refl
signs_told CFL_SIGN_POS CFL_SIGN_NEG h = refl
signs_told CFL_SIGN_POS CFL_SIGN_POS h = refl

-- the second factor, of which the first is known
abbrev second_tree : CFLSign → CFLSign → ℤ → Syntax Distribution (ℤ × ℤ)
second_tree a b u = bind (factor_element b a).tree (λ v. Done (u, v))

module _ (a b : CFLSign) (m n : ℕ) (some : 1 ≤ sign_number a + sign_number b) (first : IsSized a m) (second : IsSized b n) where
  second_leads : Leads (second_tree a b (signed a m)) ((factor_element b a).symbols (signed b n) ++ []) (signed a m, signed b n)
  second_leads = leads_then (factor_element b a).tree (λ v. Done (signed a m, v)) ((factor_element b a).symbols (signed b n)) [] (signed b n) (signed a m, signed b n) (factor_leads b a n second) refl

  sizes_lead : Leads (sizes_element (a, b)).tree ((factor_element a b).symbols (signed a m) ++ ((factor_element b a).symbols (signed b n) ++ [])) (signed a m, signed b n)
  sizes_lead = leads_then (factor_element a b).tree (second_tree a b) ((factor_element a b).symbols (signed a m)) ((factor_element b a).symbols (signed b n) ++ []) (signed a m) (signed a m, signed b n) (factor_leads a b m first) second_leads

  signs_come : (p : Slot) (s : ℕ) (old mid : Standing Context) → p ≡ slot (codes "cfl_sign_cdf") [] → s ≡ signs_number (a, b) → Stores coded_in learnt_in (Adaptive p) s old mid →
      Comes coded_in learnt_in factors_element.tree (sizes_element (a, b)).tree old mid
  signs_come p s old mid is e h =
      let q = slot (codes "cfl_sign_cdf") [] in
      writes_first coded_in learnt_in signs_element.tree (λ x. (sizes_element x).tree) (a, b) old mid
      (writes_symbol coded_in learnt_in (Adaptive q) signs_of signs_number (a, b) old mid (signs_told a b some) (stores_as (Adaptive p) (Adaptive q) s (signs_number (a, b)) old mid (ap Adaptive is) e h))

  -- the signs are refused
  pub signs_begun : (old new : Standing Context) → new ≡ old → Begins coded_in learnt_in factors_element.tree (signed a m, signed b n) old new
  signs_begun old new e =
      begins_first coded_in learnt_in signs_element.tree (λ x. (sizes_element x).tree) (a, b) (signed a m, signed b n) _ old new sizes_lead
      (begins_symbol coded_in learnt_in (Adaptive (slot (codes "cfl_sign_cdf") [])) signs_of signs_number (a, b) old new (signs_told a b some) e)

  -- the first factor is refused
  pub first_begun : (p : Slot) (s : ℕ) (old mid new : Standing Context) → p ≡ slot (codes "cfl_sign_cdf") [] → s ≡ signs_number (a, b) → Stores coded_in learnt_in (Adaptive p) s old mid →
      Begins coded_in learnt_in (factor_element a b).tree (signed a m) mid new → Begins coded_in learnt_in factors_element.tree (signed a m, signed b n) old new
  first_begun p s old mid new is e h g =
      begins_then coded_in learnt_in factors_element.tree (sizes_element (a, b)).tree (signed a m, signed b n) old mid new (signs_come p s old mid is e h)
      (begins_first coded_in learnt_in (factor_element a b).tree (second_tree a b) (signed a m) (signed a m, signed b n) ((factor_element b a).symbols (signed b n) ++ []) mid new second_leads g)

  -- the second one after both
  pub factors_wrote : {U E : Type 0} (r : Result U E) (p : Slot) (s : ℕ) (old mid late new : Standing Context) → p ≡ slot (codes "cfl_sign_cdf") [] → s ≡ signs_number (a, b) → Stores coded_in learnt_in (Adaptive p) s old mid →
      Writes coded_in learnt_in (factor_element a b).tree (signed a m) mid late → Wrote coded_in learnt_in r (factor_element b a).tree (signed b n) late new → Wrote coded_in learnt_in r factors_element.tree (signed a m, signed b n) old new
  factors_wrote r p s old mid late new is e h g w =
      wrote_then coded_in learnt_in r factors_element.tree (second_tree a b (signed a m)) (signed a m, signed b n) old late new
      (comes_then coded_in learnt_in factors_element.tree (sizes_element (a, b)).tree (second_tree a b (signed a m)) old mid late (signs_come p s old mid is e h) (writes_first coded_in learnt_in (factor_element a b).tree (second_tree a b) (signed a m) mid late g))
      (wrote_as coded_in learnt_in r (factor_element b a).tree (λ v. Done (signed a m, v)) (signed b n) (signed a m, signed b n) late new refl w)
