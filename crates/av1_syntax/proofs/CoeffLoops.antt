-- Loops over the sizes and the levels of a transform block, one place of the scan in each turn.
use Rattle.std.proofs.Common.{◌≡◌, ℕ, ◌+◌, ◌-◌, ◌<◌, ◌≤◌, List, [], ◌∷◌, nat_eq, map, take, slice_index, codes, refl, sym, ap, subst, ◌∙◌, arith, ℤ, pos, unsigned_abs}
use Rattle.std.specs.List.{sum_by}
use Rattle.std.proofs.lemmas.List.{length-map, take_all, take_more, drop_all}
use Rattle.std.proofs.lemmas.List.Sums.{sum_by_push}
use Rattle.av1_cdf.specs.Distribution.{Distribution}
use Rattle.av1_cdf.specs.Layout.{Slot, slot}
use Rattle.av1_geometry.specs.declared.tx_size.TxSize.{TxSize}
use Rattle.av1_geometry.specs.declared.tx_type.TxClass.{TxClass}
use Rattle.av1_model.specs.Comes.{Standing, Comes, Writes, Begins}
use Rattle.av1_model.specs.Syntax.{Syntax}
use Rattle.av1_model.proofs.ComesLaws.{stays, comes_as}
use Rattle.av1_syntax.specs.Calls.{Context, coded_in, learnt_in}
use Rattle.av1_syntax.specs.Coefficients.{value_at, levels_at, size_at, sizes_from, base_distribution, range_distribution, sign_distribution, size_after, sizes_element, signs_element, AreCoded}
use Rattle.av1_syntax.specs.Levels.{sizes_after, levels_after, level_element, sign_by, cut_level, level_at}
use Rattle.av1_syntax.proofs.CoeffKnown.{length_levels, counted, level_here}
use Rattle.av1_syntax.proofs.CoeffReads.{coders, signs_have}
use Rattle.av1_syntax.proofs.LevelWrites.{sizes_step, sizes_begun, levels_step, levels_begun, levels_end}

abbrev Numbers : Type 0
Numbers = Standing Context

-- the sizes from place c on are written
abbrev pub SizesCame : TxSize → TxClass → List ℕ → ℕ → List ℤ → ℕ → ℕ → Numbers → Numbers → Type 0
SizesCame size class scan n values p c old new =
    Comes coded_in learnt_in (sizes_element size p class scan n).tree (sizes_after (base_distribution size p class scan) (range_distribution size p class scan) c (sizes_from values scan n c)).tree old new

-- the first k levels are written
abbrev pub SignsCame : List ℕ → ℕ → List ℤ → ℕ → ℕ → ℕ → Numbers → Numbers → Type 0
SignsCame scan n values p context k old new =
    Comes coded_in learnt_in (signs_element p context (sizes_from values scan n 0)).tree (levels_after (sign_distribution p context) (take k (levels_at values scan n)) (sizes_from values scan n k)).tree old new

-- the sum of the sizes of the first k levels
abbrev pub total_of : List ℕ → ℕ → List ℤ → ℕ → ℕ
total_of scan n values k = sum_by unsigned_abs (take k (levels_at values scan n))

module _ (size : TxSize) (class : TxClass) (scan : List ℕ) (n : ℕ) (values : List ℤ) (are : AreCoded size class scan n values) (p : ℕ) (plane : p < 2) where
  abbrev levels : List ℤ
  levels = levels_at values scan n

  abbrev base : ℕ → List ℕ → Distribution
  base = base_distribution size p class scan

  abbrev range : ℕ → List ℕ → Distribution
  range = range_distribution size p class scan

  abbrev sizes_tree : Syntax Distribution (List ℕ)
  sizes_tree = (sizes_element size p class scan n).tree

  pub sizes_start : (at : Numbers) → SizesCame size class scan n values p n at at
  sizes_start at =
      let e : sizes_from values scan n n ≡ [] = drop_all n (map cut_level levels) (let l = length-map levels cut_level in let m = length_levels size class scan n values are in omega (arith, l, m)) in
      comes_as coded_in learnt_in sizes_tree sizes_tree (sizes_after base range n (sizes_from values scan n n)).tree at at at (stays coded_in learnt_in sizes_tree at) (ap (λ (l : List ℕ). (sizes_after base range n l).tree) (sym e)) refl

  module _ (left : ℕ) (some : 0 < left) (few : left ≤ n) (old mid new : Numbers) (came : SizesCame size class scan n values p left old mid) where
    abbrev c : ℕ
    c = left - 1

    before : c < n
    before = omega (arith, some, few)

    here : SizesCame size class scan n values p (c + 1) old mid
    here = let e : left ≡ c + 1 = omega (arith, some) in subst (λ k. SizesCame size class scan n values p k old mid) e came

    size_is : size_at values scan c ≡ cut_level (level_at levels c)
    size_is = ap cut_level (sym (level_here size class scan n values are c before))

    pub sizes_more : Writes coded_in learnt_in (size_after size p class scan c (sizes_from values scan n (c + 1))).tree (size_at values scan c) mid new → SizesCame size class scan n values p c old new
    sizes_more w =
        sizes_step base range (sign_distribution p 0) n levels (counted size class scan n values are) c before sizes_tree old mid new here
        (subst (λ a. Writes coded_in learnt_in (size_after size p class scan c (sizes_from values scan n (c + 1))).tree a mid new) size_is w)

    pub sizes_refused : Begins coded_in learnt_in (size_after size p class scan c (sizes_from values scan n (c + 1))).tree (size_at values scan c) mid new → Begins coded_in learnt_in sizes_tree (sizes_from values scan n 0) old new
    sizes_refused b =
        sizes_begun base range (sign_distribution p 0) n levels (counted size class scan n values are) c before sizes_tree old mid new here (coders size p class scan plane)
        (subst (λ a. Begins coded_in learnt_in (size_after size p class scan c (sizes_from values scan n (c + 1))).tree a mid new) size_is b)

  pub sizes_done : (left : ℕ) (old new : Numbers) → left ≡ 0 → SizesCame size class scan n values p left old new → Writes coded_in learnt_in sizes_tree (sizes_from values scan n 0) old new
  sizes_done left old new z came = subst (λ k. SizesCame size class scan n values p k old new) z came

  module _ (context : ℕ) (known : context < 3) where
    abbrev sign : ℕ → Distribution
    sign = sign_distribution p context

    abbrev signs_tree : Syntax Distribution (List ℤ)
    signs_tree = (signs_element p context (sizes_from values scan n 0)).tree

    pub signs_start : (at : Numbers) → SignsCame scan n values p context 0 at at
    signs_start at = stays coded_in learnt_in signs_tree at

    module _ (k at : ℕ) (before : k < n) (s : Slot) (is : s ≡ slot (codes "dc_sign_cdf") (p ∷ context ∷ [])) (x : ℤ) (value : x ≡ value_at values (slice_index scan k)) (old mid new : Numbers) (came : SignsCame scan n values p context k old mid) where
      abbrev coded : Syntax Distribution ℤ
      coded = (level_element (sign_by (nat_eq k 0) s) (cut_level x)).tree

      level_is : x ≡ level_at levels k
      level_is = value ∙ sym (level_here size class scan n values are k before)

      pub signs_more : Writes coded_in learnt_in coded x mid new → SignsCame scan n values p context (k + 1) old new
      signs_more w =
          levels_step base range sign n levels (counted size class scan n values are) k before signs_tree old mid new came
          (subst (λ (v : ℤ). Writes coded_in learnt_in (level_element (sign k) (cut_level v)).tree v mid new) level_is
          (subst (λ (s : Slot). Writes coded_in learnt_in (level_element (sign_by (nat_eq k 0) s) (cut_level x)).tree x mid new) is w))

      pub signs_refused : Begins coded_in learnt_in coded x mid new → Begins coded_in learnt_in signs_tree levels old new
      signs_refused b =
          levels_begun base range sign n levels (counted size class scan n values are) k before signs_tree old mid new came (signs_have p context plane known)
          (subst (λ (v : ℤ). Begins coded_in learnt_in (level_element (sign k) (cut_level v)).tree v mid new) level_is
          (subst (λ (s : Slot). Begins coded_in learnt_in (level_element (sign_by (nat_eq k 0) s) (cut_level x)).tree x mid new) is b))

    pub signs_done : (k : ℕ) (old new : Numbers) → k ≡ n → SignsCame scan n values p context k old new → Writes coded_in learnt_in signs_tree levels old new
    signs_done k old new e came = levels_end sign n levels (counted size class scan n values are) signs_tree old new (subst (λ k. SignsCame scan n values p context k old new) e came)

  pub total_more : (k a : ℕ) (x : ℤ) → k < n → x ≡ value_at values (slice_index scan k) → a ≡ unsigned_abs x → total_of scan n values k + a ≡ total_of scan n values (k + 1)
  total_more k a x l e f =
      let m = length_levels size class scan n values are in
      let h = level_here size class scan n values are k l in
      let more = take_more levels k (pos 0) (omega (arith, m, l)) in
      ap (λ a. total_of scan n values k + a) (f ∙ ap unsigned_abs (e ∙ sym h)) ∙ sym (sum_by_push unsigned_abs (take k levels) (level_at levels k)) ∙ ap (sum_by unsigned_abs) (sym more)

  pub total_all : (k : ℕ) → k ≡ n → total_of scan n values k ≡ sum_by unsigned_abs levels
  total_all k e = let m = length_levels size class scan n values are in ap (sum_by unsigned_abs) (take_all k levels (omega (arith, m, e)))
