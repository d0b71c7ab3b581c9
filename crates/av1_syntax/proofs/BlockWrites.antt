-- What calls that code ends and blocks of levels write.
use Rattle.std.proofs.Common.{◌≡◌, ℕ, zero, suc, ◌+◌, ◌-◌, ◌*◌, ◌/◌, ◌%◌, ◌^◌, ◌<◌, ◌≤◌, [], ◌∷◌, Bool, Result, Ok, Some, None, if◌then◌else◌, nat_lt, nat_le, codes, refl, sym, ap, subst, ◌∙◌, arith}
use Rattle.std.specs.Prelude.{slice_index_or}
use Rattle.std.proofs.lemmas.Nat.{pow_pos}
use Rattle.std.proofs.Math.Nat.{div-lt_iff_lt-mul}
use Rattle.av1_cdf.specs.Distribution.{Distribution, HasSymbols}
use Rattle.av1_cdf.specs.Distribution.Distribution.{Adaptive}
use Rattle.av1_cdf.specs.Layout.{Slot, slot}
use Rattle.av1_cdf.proofs.Cells.{le_is}
use Rattle.av1_coef.specs.Contexts.{coded_area, size_context}
use Rattle.av1_geometry.specs.CoefficientTables.{eob_class, group_start, offset_bits}
use Rattle.av1_geometry.specs.declared.tx_size.TxSize.{TxSize}
use Rattle.av1_geometry.specs.declared.tx_type.TxClass.{TxClass}
use Rattle.av1_model.specs.Comes.{Standing, Stores, Writes, Begins, Wrote}
use Rattle.av1_model.specs.Element.{Element, symbol, after, renamed}
use Rattle.av1_model.specs.Syntax.{Syntax}
use Rattle.av1_model.specs.Syntax.Syntax.{Bad, Done}
use Rattle.av1_model.proofs.ComesLaws.{stays, writes_first, begins_none, wrote_then, wrote_as, writes_symbol}
use Rattle.av1_syntax.specs.Calls.{adaptive, Context, coded_in, learnt_in}
use Rattle.av1_syntax.specs.Coefficients.{one_dimensional}
use Rattle.av1_syntax.specs.EndOfBlock.{below, extra_element, end_in, class_element, end_among, class_fields, area_number, end_element}
use Rattle.av1_syntax.specs.Literals.{literal}
use Rattle.av1_syntax.proofs.CoeffReads.{class_within, end_reads}
use Rattle.av1_syntax.proofs.EndReads.{halves, extra_reads, joined}
use Rattle.av1_syntax.proofs.Values.{below as below_is}
use Rattle.av1_syntax.proofs.Writing.{stores_as}

abbrev Numbers : Type 0
Numbers = Standing Context

-- the number of an end in its class: its highest bit and the others
module _ (q : Distribution) (low e : ℕ) (fits : e < 2 ^ suc low) where
  abbrev w : ℕ
  w = 2 ^ low

  abbrev high : Syntax Distribution ℕ
  high = (symbol q (below 2) (λ b. b)).tree

  abbrev rest : ℕ → Element Distribution ℕ
  rest b = renamed (literal low) (λ v. b * 2 ^ low + v) (λ n. n % 2 ^ low)

  two : e / w < 2
  two = (div-lt_iff_lt-mul {k = w} {x = e} {y = 2} (pow_pos low)).1 (omega (arith, fits, halves low))

  high_told : below 2 (e / w) ≡ Some (e / w)
  high_told = below_is 2 (e / w) (Some (e / w)) two

  pub extra_begun : (old new : Numbers) → HasSymbols q 2 → new ≡ old → Begins coded_in learnt_in (extra_element q (suc low)).tree e old new
  extra_begun old new has n =
      begins_none coded_in learnt_in (extra_element q (suc low)).tree ((extra_element q (suc low)).symbols e) e old new ((extra_reads q (suc low) (λ l. has)).leads e fits) n

  pub extra_wrote : {U E : Type 0} (r : Result U E) (s v : ℕ) (old mid new : Numbers) → s ≡ e / w → v ≡ e % w → Stores coded_in learnt_in q s old mid → Wrote coded_in learnt_in r (literal low).tree v mid new →
      Wrote coded_in learnt_in r (extra_element q (suc low)).tree e old new
  extra_wrote r s v old mid new is rem h k =
      let h' = stores_as q q s (e / w) old mid refl is h in
      let k' = subst (λ v. Wrote coded_in learnt_in r (literal low).tree v mid new) rem k in
      wrote_then coded_in learnt_in r (extra_element q (suc low)).tree (rest (e / w)).tree e old mid new
      (writes_first coded_in learnt_in high (λ b. (rest b).tree) (e / w) old mid (writes_symbol coded_in learnt_in q (below 2) (λ b. b) (e / w) old mid high_told h'))
      (wrote_as coded_in learnt_in r (literal low).tree (λ v. Done (e / w * w + v)) (e % w) e mid new (ap Done (joined e (e / w) w refl)) k')

-- an end by its class and its number there
module _ (q : Distribution) (n : ℕ) (highest : ℕ → Distribution) (most end : ℕ) (some : 1 ≤ eob_class end) (few : eob_class end ≤ n) (within : end ≤ most) where
  abbrev t : ℕ
  t = eob_class end

  abbrev classes : Element Distribution ℕ
  classes = class_element q n

  abbrev of_class : Element Distribution ℕ
  of_class = extra_element (highest t) (offset_bits t)

  told_class : (if nat_lt (t - 1) n then Some (t - 1 + 1) else None) ≡ Some t
  told_class = let e : t - 1 + 1 ≡ t = omega (arith, some) in below_is n (t - 1) (Some (t - 1 + 1)) (omega (arith, some, few)) ∙ ap Some e

  pub end_wrote : {U E : Type 0} (r : Result U E) (s v : ℕ) (old mid new : Numbers) → s ≡ t - 1 → group_start t + v ≡ end → Stores coded_in learnt_in q s old mid → Wrote coded_in learnt_in r of_class.tree v mid new →
      Wrote coded_in learnt_in r (end_among q n highest most).tree end old new
  end_wrote r s v old mid new is sum h k =
      let h' = stores_as q q s (t - 1) old mid refl is h in
      wrote_as coded_in learnt_in r (after classes (end_in highest) eob_class).tree (λ a. if nat_le a most then Done a else Bad) end end old new (ap (λ (b : Bool). if b then Done end else Bad) (le_is end most within))
      (wrote_then coded_in learnt_in r (after classes (end_in highest) eob_class).tree (end_in highest t).tree end old mid new
      (writes_first coded_in learnt_in classes.tree (λ t. (end_in highest t).tree) t old mid (writes_symbol coded_in learnt_in q (λ s. if nat_lt s n then Some (s + 1) else None) (λ t. t - 1) t old mid told_class h'))
      (wrote_as coded_in learnt_in r of_class.tree (λ e. Done (group_start t + e)) v end mid new (ap Done sum) k))

  -- a class of one end
  pub alone : (at : Numbers) → t < 3 → Writes coded_in learnt_in of_class.tree 0 at at
  alone at l =
      let z : offset_bits t ≡ 0 = omega (arith, l) in
      subst (λ bits. Writes coded_in learnt_in (extra_element (highest t) bits).tree 0 at at) (sym z) (stays coded_in learnt_in (Done 0) at)

pub end_begun : (by_coded : Bool) (size : TxSize) (p o end : ℕ) → p < 2 → o < 2 → 1 ≤ end → end ≤ coded_area size → (old new : Numbers) → new ≡ old → Begins coded_in learnt_in (end_element by_coded size p o).tree end old new
end_begun by_coded size p o end l m some few old new e =
    begins_none coded_in learnt_in (end_element by_coded size p o).tree ((end_element by_coded size p o).symbols end) end old new ((end_reads by_coded size p o l m).leads end (some, few)) e

-- the same for so many bits
pub extra_refused : (q : Distribution) (bits e : ℕ) (old new : Numbers) → 1 ≤ bits → e < 2 ^ bits → HasSymbols q 2 → new ≡ old → Begins coded_in learnt_in (extra_element q bits).tree e old new
extra_refused q zero e old new some fits has n = absurd (omega (arith, some))
extra_refused q (suc low) e old new some fits has n = extra_begun q low e fits old new has n

pub extra_coded : {U E : Type 0} (r : Result U E) (q : Distribution) (bits e s v : ℕ) (old mid new : Numbers) → 1 ≤ bits → e < 2 ^ bits → s ≡ e / 2 ^ (bits - 1) → v ≡ e % 2 ^ (bits - 1) → Stores coded_in learnt_in q s old mid →
    Wrote coded_in learnt_in r (literal (bits - 1)).tree v mid new → Wrote coded_in learnt_in r (extra_element q bits).tree e old new
extra_coded r q zero e s v old mid new some fits is rem h k = absurd (omega (arith, some))
extra_coded r q (suc low) e s v old mid new some fits is rem h k =
    let z : suc low - 1 ≡ low = omega arith in
    extra_wrote q low e fits r s v old mid new (is ∙ ap (λ l. e / 2 ^ l) z) (rem ∙ ap (λ l. e % 2 ^ l) z) h (subst (λ l. Wrote coded_in learnt_in r (literal l).tree v mid new) z k)

-- the distribution of the class of an end
pub flag_is : (by_coded : Bool) (size : TxSize) (p k o : ℕ) (s : Slot) → s ≡ slot (slice_index_or class_fields k []) (p ∷ o ∷ []) → k ≡ area_number by_coded size → (class : TxClass) → o ≡ one_dimensional class →
    Adaptive s ≡ adaptive (slice_index_or class_fields (area_number by_coded size) []) (p ∷ one_dimensional class ∷ [])
flag_is by_coded size p k o s e f class g =
    ap Adaptive (e ∙ ap (λ k. slot (slice_index_or class_fields k []) (p ∷ o ∷ [])) f ∙ ap (λ o. slot (slice_index_or class_fields (area_number by_coded size) []) (p ∷ o ∷ [])) g)

-- and of the highest bit in a class
pub highest_is : (size : TxSize) (t p class eob : ℕ) (s : Slot) → s ≡ slot (codes "eob_extra_cdf") (t ∷ p ∷ (class - 3) ∷ []) → t ≡ size_context size → class ≡ eob_class eob →
    Adaptive s ≡ adaptive (codes "eob_extra_cdf") (size_context size ∷ p ∷ (eob_class eob - 3) ∷ [])
highest_is size t p class eob s e f g =
    ap Adaptive (e ∙ ap (λ t. slot (codes "eob_extra_cdf") (t ∷ p ∷ (class - 3) ∷ [])) f ∙ ap (λ c. slot (codes "eob_extra_cdf") (size_context size ∷ p ∷ (c - 3) ∷ [])) g)

-- an end, by its class and its number there as the code has them
module _ (by_coded : Bool) (size : TxSize) (p o eob class extra : ℕ) (q : Distribution) (some : 1 ≤ eob) (few : eob ≤ coded_area size) (flag : q ≡ adaptive (slice_index_or class_fields (area_number by_coded size) []) (p ∷ o ∷ []))
    (is : class ≡ eob_class eob) (least : 1 ≤ class) (sum : group_start class + extra ≡ eob) (below_power : extra < 2 ^ offset_bits class) where
  abbrev classes_by : Distribution
  classes_by = adaptive (slice_index_or class_fields (area_number by_coded size) []) (p ∷ o ∷ [])

  abbrev highest_of : ℕ → Distribution
  highest_of class = adaptive (codes "eob_extra_cdf") (size_context size ∷ p ∷ (class - 3) ∷ [])

  abbrev number : ℕ
  number = 5 + area_number by_coded size

  one : 1 ≤ eob_class eob
  one = subst (λ t. 1 ≤ t) is least

  sum_is : group_start (eob_class eob) + extra ≡ eob
  sum_is = ap (λ t. group_start t + extra) (sym is) ∙ sum

  pub eob_short : (old new : Numbers) → class < 3 → Stores coded_in learnt_in q (class - 1) old new → Writes coded_in learnt_in (end_element by_coded size p o).tree eob old new
  eob_short old new l h =
      let within = class_within by_coded size eob some few in
      let small = subst (λ t. t < 3) is l in
      let none : class - 2 ≡ 0 = omega (arith, l) in
      let power : 2 ^ offset_bits class ≡ 2 ^ 0 = ap (λ k. 2 ^ k) none in
      let z : 0 ≡ extra = omega (arith, below_power, power) in
      end_wrote classes_by number highest_of (coded_area size) eob one within few {U = Unit {0}} {E = Unit {0}} (Ok tt) (class - 1) 0 old new new (ap (λ t. t - 1) is) (ap (λ e. group_start (eob_class eob) + e) z ∙ sum_is)
      (stores_as q classes_by (class - 1) (class - 1) old new flag refl h) (alone classes_by number highest_of (coded_area size) eob one within few new small)

  pub eob_long : {U E : Type 0} (r : Result U E) (bits : ℕ) (highest : Distribution) (old mid new : Numbers) → bits ≡ class - 2 → highest ≡ highest_of (eob_class eob) → Stores coded_in learnt_in q (class - 1) old mid →
      Wrote coded_in learnt_in r (extra_element highest bits).tree extra mid new → Wrote coded_in learnt_in r (end_element by_coded size p o).tree eob old new
  eob_long r bits highest old mid new b e h k =
      let within = class_within by_coded size eob some few in
      let k' = subst (λ (x : Distribution). Wrote coded_in learnt_in r (extra_element x (offset_bits (eob_class eob))).tree extra mid new) e
      (subst (λ n. Wrote coded_in learnt_in r (extra_element highest n).tree extra mid new) (b ∙ ap (λ t. t - 2) is) k) in
      end_wrote classes_by number highest_of (coded_area size) eob one within few r (class - 1) extra old mid new (ap (λ t. t - 1) is) sum_is (stores_as q classes_by (class - 1) (class - 1) old mid flag refl h) k'
