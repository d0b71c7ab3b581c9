-- What calls that code the levels of a transform block write.
use Rattle.std.proofs.Common.{◌≡◌, ℕ, ◌+◌, ◌*◌, ◌<◌, ◌≤◌, List, [], ◌∷◌, zero, suc, Bool, Result, min, length, map, take, slice_index, replicate, refl, sym, ap, subst, ◌∙◌, arith, inl, inr, ℤ, unsigned_abs}
use Rattle.std.proofs.lemmas.Bool.{cases_lt}
use Rattle.std.proofs.lemmas.List.{length-take-le, length-replicate, get_or-take, take-map}
use Rattle.std.proofs.lemmas.Nat.{mul-add-lt}
use Rattle.av1_cdf.specs.Distribution.{Distribution}
use Rattle.av1_cdf.proofs.Cells.{lt_is, lt_not}
use Rattle.av1_coef.specs.Contexts.{coded_width, coded_height, coded_area}
use Rattle.av1_coef.specs.Padded.{in_block, cut, sizes_of, IsPadded, IsRoom}
use Rattle.av1_coef.proofs.CodedSizes.{room_few}
use Rattle.av1_geometry.specs.declared.tx_size.TxSize.{TxSize}
use Rattle.av1_geometry.specs.declared.tx_type.TxClass.{TxClass}
use Rattle.av1_model.specs.Comes.{Standing, Comes, Writes, Begins, Wrote}
use Rattle.av1_model.specs.Element.{Element, after}
use Rattle.av1_model.specs.Syntax.{Syntax, Leads}
use Rattle.av1_model.proofs.ComesLaws.{writes_first, begins_first, begins_then, wrote_then}
use Rattle.av1_syntax.specs.Calls.{Context, coded_in, learnt_in}
use Rattle.av1_syntax.specs.Coefficients.{value_at, levels_at, sizes_from, base_distribution, range_distribution, sign_distribution, one_dimensional, sizes_element, signs_element, block_element, AreCoded, ArePadded}
use Rattle.av1_syntax.specs.EndOfBlock.{end_element}
use Rattle.av1_syntax.specs.Levels.{cut_level}
use Rattle.av1_syntax.proofs.CoeffKnown.{counted}
use Rattle.av1_syntax.proofs.CoeffReads.{coders, signs_have}
use Rattle.av1_syntax.proofs.LevelReads.{all_few, levels_read, levels_are, counted_read}

abbrev Numbers : Type 0
Numbers = Standing Context

-- the size of a coefficient
sizes_at : {T : Type 0} (value : T → ℤ) (coeffs : List T) (p : ℕ) → slice_index (sizes_of value coeffs) p ≡ unsigned_abs (value_at (map value coeffs) p)
sizes_at value [] p = refl
sizes_at value (x ∷ xs) zero = refl
sizes_at value (x ∷ xs) (suc p) = sizes_at value xs p

module _ (w h : ℕ) (f g : ℕ → ℕ) (same : (p : ℕ) → p < w * h → f p ≡ g p) where
  in_same : (c r : ℕ) → in_block w h (cut 127 f) c r ≡ in_block w h (cut 127 g) c r
  in_same c r = elim (cases_lt c w) [
    | inl l ↦ elim (cases_lt r h) [
      | inl m ↦ rw (lt_is c w l, lt_is r h m) (ap (λ a. min a 127) (same (c * h + r) (let p = mul-add-lt c h r w l m in omega (arith, p))))
      | inr m ↦ rw (lt_is c w l, lt_not r h m) refl
    ]
    | inr m ↦ rw (lt_not c w m) refl
  ]

  -- the padded levels of the same sizes
  pub padded_as : (levels : List ℕ) → IsPadded w h f levels → IsPadded w h g levels
  padded_as levels p c r l m = p c r l m ∙ in_same c r

-- nothing is in new levels
none_at : (n p : ℕ) → slice_index (replicate n 0) p ≡ 0
none_at zero p = refl
none_at (suc n) zero = refl
none_at (suc n) (suc p) = none_at n p

pub room_is : {T : Type 0} (coeffs : List T) (size : TxSize) (area height : ℕ) → area ≡ coded_area size → height ≡ coded_height size → coded_area size ≤ length coeffs →
    IsRoom (coded_width size) height (height + 4) (length (take area coeffs)) (replicate 1384 0)
room_is coeffs size area height e f l =
    let n = length-take-le area coeffs (omega (arith, e, l)) in
    record {
      columns = refl;
      coefficients = ap (λ h. coded_width size * h) f ∙ sym (n ∙ e);
      places = subst (λ h. (coded_width size + 4) * (h + 4) ≤ length {A = ℕ} (replicate 1384 0)) (sym f) (let r = room_few size in let m : length {A = ℕ} (replicate 1384 0) ≡ 1384 = length-replicate {A = ℕ} 1384 0 in omega (arith, r, m));
      zeros = none_at 1384;
    }

-- the padded levels of the coded coefficients are those of all
pub are_padded : {T : Type 0} (value : T → ℤ) (coeffs : List T) (size : TxSize) (levels : List ℕ) (area height : ℕ) → area ≡ coded_area size → height ≡ coded_height size → 1296 ≤ length levels →
    IsPadded (coded_width size) height (slice_index (sizes_of value (take area coeffs))) levels → ArePadded size (map value coeffs) levels
are_padded value coeffs size levels n h e f m padded =
    let area = coded_area size in
    let p = subst (λ n. IsPadded (coded_width size) (coded_height size) (slice_index (sizes_of value (take n coeffs))) levels) e (subst (λ h. IsPadded (coded_width size) h (slice_index (sizes_of value (take n coeffs))) levels) f padded) in
    let same : (q : ℕ) → q < area → slice_index (sizes_of value (take area coeffs)) q ≡ unsigned_abs (value_at (map value coeffs) q) =
    λ q b. ap (λ (xs : List ℕ). slice_index xs q) (sizes_taken value coeffs area) ∙ get_or-take area (sizes_of value coeffs) q 0 b ∙ sizes_at value coeffs q in
    record {
      padded = padded_as (coded_width size) (coded_height size) (slice_index (sizes_of value (take area coeffs))) (λ q. unsigned_abs (value_at (map value coeffs) q)) same levels p;
      room = omega (arith, room_few size, m);
    }
  where
    sizes_taken : {T : Type 0} (value : T → ℤ) (coeffs : List T) (n : ℕ) → sizes_of value (take n coeffs) ≡ take n (sizes_of value coeffs)
    sizes_taken value coeffs n = sym (take-map (λ x. unsigned_abs (value x)) n coeffs)

module _ (by_coded : Bool) (size : TxSize) (class : TxClass) (scan : List ℕ) (n : ℕ) (values : List ℤ) (are : AreCoded size class scan n values) (p context : ℕ) (plane : p < 2) (known : context < 3) where
  abbrev levels : List ℤ
  levels = levels_at values scan n

  abbrev cuts : List ℕ
  cuts = sizes_from values scan n 0

  abbrev ends : Syntax Distribution ℕ
  ends = (end_element by_coded size p (one_dimensional class)).tree

  abbrev sizes : ℕ → Element Distribution (List ℕ)
  sizes n = sizes_element size p class scan n

  abbrev of_number : ℕ → Element Distribution (List ℤ)
  of_number n = after (sizes n) (signs_element p context) (map cut_level)

  abbrev block : Syntax Distribution (List ℤ)
  block = (block_element by_coded size p context class scan).tree

  number_leads : Leads (of_number n).tree ((of_number n).symbols levels) levels
  number_leads =
      (counted_read (base_distribution size p class scan) (range_distribution size p class scan) (sign_distribution p context) (coders size p class scan plane) (signs_have p context plane known) n).leads levels (counted size class scan n values are)

  signs_lead : Leads (signs_element p context cuts).tree ((signs_element p context cuts).symbols levels) levels
  signs_lead = (levels_read (sign_distribution p context) (signs_have p context plane known) [] cuts (all_few levels)).leads levels (levels_are n levels (counted size class scan n values are) n 0 (omega arith))

  came_sizes : (old mid : Numbers) → Writes coded_in learnt_in ends n old mid → Comes coded_in learnt_in block (of_number n).tree old mid
  came_sizes old mid e = writes_first coded_in learnt_in ends (λ n. (of_number n).tree) n old mid e

  came_signs : (old mid late : Numbers) → Writes coded_in learnt_in (sizes n).tree cuts mid late → Comes coded_in learnt_in (of_number n).tree (signs_element p context cuts).tree mid late
  came_signs old mid late s = writes_first coded_in learnt_in (sizes n).tree (λ s. (signs_element p context s).tree) cuts mid late s

  pub ends_refused : (old new : Numbers) → Begins coded_in learnt_in ends n old new → Begins coded_in learnt_in block levels old new
  ends_refused old new b = begins_first coded_in learnt_in ends (λ n. (of_number n).tree) n levels ((of_number n).symbols levels) old new number_leads b

  pub block_sizes_refused : (old mid new : Numbers) → Writes coded_in learnt_in ends n old mid → Begins coded_in learnt_in (sizes n).tree cuts mid new → Begins coded_in learnt_in block levels old new
  block_sizes_refused old mid new e b =
      begins_then coded_in learnt_in block (of_number n).tree levels old mid new (came_sizes old mid e)
      (begins_first coded_in learnt_in (sizes n).tree (λ s. (signs_element p context s).tree) cuts levels ((signs_element p context cuts).symbols levels) mid new signs_lead b)

  pub block_wrote : {U E : Type 0} (r : Result U E) (old mid late new : Numbers) → Writes coded_in learnt_in ends n old mid → Writes coded_in learnt_in (sizes n).tree cuts mid late →
      Wrote coded_in learnt_in r (signs_element p context cuts).tree levels late new → Wrote coded_in learnt_in r block levels old new
  block_wrote r old mid late new e s w =
      wrote_then coded_in learnt_in r block (of_number n).tree levels old mid new (came_sizes old mid e)
      (wrote_then coded_in learnt_in r (of_number n).tree (signs_element p context cuts).tree levels mid late new (came_signs old mid late s) w)
