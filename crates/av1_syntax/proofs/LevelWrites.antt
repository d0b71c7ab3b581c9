-- What calls that code levels write.
use Rattle.std.proofs.Common.{◌≡◌, ℕ, zero, suc, ◌+◌, ◌-◌, ◌*◌, ◌^◌, ◌<◌, ◌≤◌, List, [], ◌∷◌, ◌++◌, Bool, false, Result, if◌then◌else◌, min, nat_eq, nat_lt, length, map, take, drop, slice_index, refl, sym, ap, subst, ◌∙◌, arith, ℤ, pos, negsuc, unsigned_abs, w32}
use lib.Signed.{lt_z}
use mir.Val.{of_z}
use Rattle.std.proofs.lemmas.Bool.Decides.{nat_tests}
use Rattle.std.proofs.lemmas.List.{length-map, length-take-le, take_more, take_all, drop_more, drop_all}
use Rattle.av1_cdf.specs.Distribution.{Distribution, Even, HasSymbols}
use Rattle.av1_cdf.proofs.Cells.{lt_is, lt_not}
use Rattle.av1_codes.specs.Codes.{golomb}
use Rattle.av1_ec.specs.CodeTrees.{golomb_tree}
use Rattle.av1_ec.specs.Flat.{bool_token, flat_tokens}
use Rattle.av1_ec.proofs.CodeTrees.{golomb_reads, flat_writes}
use Rattle.av1_ec.proofs.Lengths.{golomb_length, flat_valid}
use Rattle.av1_model.specs.Comes.{Standing, standing, Stores, Comes, Writes, Begins, Wrote}
use Rattle.av1_model.specs.Element.{Element, known, choose, after, renamed, tested}
use Rattle.av1_model.specs.Interval.{IsInterval}
use Rattle.av1_model.specs.Position.{Position, advance_all, interval_of}
use Rattle.av1_model.specs.Syntax.{Syntax, Leads, bind}
use Rattle.av1_model.specs.Syntax.Syntax.{Bad, Done}
use Rattle.av1_model.proofs.ComesLaws.{stays, comes_by, comes_one, comes_then, comes_as, writes_first, begins_first, begins_then, begins_none, wrote_then, wrote_as}
use Rattle.av1_model.proofs.Positions.{advance_all_shift}
use Rattle.av1_syntax.specs.Calls.{Context, coded_in, learnt_in}
use Rattle.av1_syntax.specs.Flags.{flag}
use Rattle.av1_syntax.specs.Levels.{by_three, range_after, range_element, coeff_size_element, least, sizes_after, golomb_element, whole_element, is_negative, level_of, level_element, level_at, levels_after, cut_level}
use Rattle.av1_syntax.proofs.LevelReads.{range_reads, size_reads, AreCoders, AreSizes, sizes_read, golomb_read, level_is, signed_reads, levels_read, cut_at, all_few, few_drop, AreCounted, sizes_are, levels_are}
use Rattle.av1_syntax.proofs.Writing.{even_flat}

abbrev Numbers : Type 0
Numbers = Standing Context

three_small : (s : ℕ) (small great : Element Distribution ℕ) → s < 3 → (by_three s small great).tree ≡ small.tree
three_small s small great l = ap (λ (b : Bool). if b then small.tree else (if nat_eq s 3 then great.tree else Bad)) (lt_is s 3 l)

three_great : (s : ℕ) (small great : Element Distribution ℕ) → s ≡ 3 → (by_three s small great).tree ≡ great.tree
three_great s small great e = ap (λ s. (by_three s small great).tree) e

-- the symbols of a range, of which a loop stores one in each turn
module _ (t : Syntax Distribution ℕ) (q : Distribution) (turn a : ℕ) (old mid new : Numbers) (came : Comes coded_in learnt_in t (range_after q (4 - turn) a).tree old mid) where
  abbrev more : ℕ
  more = 4 - (turn + 1)

  came_here : turn < 4 → Comes coded_in learnt_in t (range_after q (suc more) a).tree old mid
  came_here l = let n : 4 - turn ≡ suc more = omega (arith, l) in subst (λ n. Comes coded_in learnt_in t (range_after q n a).tree old mid) n came

  pub range_on : (s : ℕ) → turn < 4 → s ≡ 3 → Stores coded_in learnt_in q s mid new → Comes coded_in learnt_in t (range_after q (4 - (turn + 1)) (a + 3)).tree old new
  range_on s l e w =
      comes_one coded_in learnt_in t (range_after q more (a + 3)).tree q (λ s. (by_three s (known (a + s)) (range_after q more (a + 3))).tree) s old mid new (came_here l)
      (three_great s (known (a + s)) (range_after q more (a + 3)) e) w

  pub range_end : (s v : ℕ) → turn < 4 → s < 3 → v ≡ a + s → Stores coded_in learnt_in q s mid new → Writes coded_in learnt_in t v old new
  range_end s v l few is w =
      comes_one coded_in learnt_in t (Done v) q (λ s. (by_three s (known (a + s)) (range_after q more (a + 3))).tree) s old mid new (came_here l)
      (three_small s (known (a + s)) (range_after q more (a + 3)) few ∙ ap Done (sym is)) w

  pub range_full : (v : ℕ) → 4 ≤ turn → v ≡ a → Writes coded_in learnt_in t v old mid
  range_full v l is =
      let z : 4 - turn ≡ 0 = omega (arith, l) in
      comes_as coded_in learnt_in t (range_after q (4 - turn) a).tree (Done v) old mid mid came (ap (λ n. (range_after q n a).tree) z ∙ ap Done (sym is)) refl

  pub range_begun : (v : ℕ) → HasSymbols q 4 → a ≤ v → v ≤ a + 3 * (4 - turn) → new ≡ mid → Begins coded_in learnt_in t v old new
  range_begun v has l m e =
      let tree = (range_after q (4 - turn) a).tree in
      begins_then coded_in learnt_in t tree v old mid new came (begins_none coded_in learnt_in tree ((range_after q (4 - turn) a).symbols v) v mid new ((range_reads q has (4 - turn) a).leads v (l, m)) e)

pub range_starts : (q : Distribution) (at : Numbers) → Comes coded_in learnt_in (range_element q).tree (range_after q 4 3).tree at at
unfolding range_element
range_starts q at = stays coded_in learnt_in (range_after q 4 3).tree at

-- bits of a Golomb code
pub golomb_near : (p : Position) (v : ℕ) → v + 1 < 2 ^ 20 → IsInterval (interval_of p) → (advance_all p (flat_tokens (golomb v))).shift ≤ p.shift + 819
golomb_near p v few h =
    let n = length-map (golomb v) (bool_token 16384) in
    let k = golomb_length v (omega (arith, few)) in
    let a = advance_all_shift p (flat_tokens (golomb v)) h (flat_valid (golomb v)) in
    omega (arith, a, n, k)

pub golomb_written : (v : ℕ) (p q : Position) (at : Context) → v + 1 < 2 ^ 20 → q ≡ advance_all p (flat_tokens (golomb v)) → Writes coded_in learnt_in golomb_element.tree v (standing p at) (standing q at)
golomb_written v p q at h e =
    let r = golomb_reads Even 20 in
    flat_writes coded_in learnt_in Even even_flat (golomb_tree Even 20) (golomb v) v (standing p at) (standing q at) r.asks (r.leads v h) e refl

pub golomb_begun : (v : ℕ) (p q : Position) (at : Context) → v + 1 < 2 ^ 20 → q ≡ p → Begins coded_in learnt_in golomb_element.tree v (standing p at) (standing q at)
golomb_begun v p q at h e =
    begins_none coded_in learnt_in golomb_element.tree (golomb_element.symbols v) v (standing p at) (standing q at) (golomb_read.leads v h) (ap (λ p. standing p at) e)

-- a level as the code compares it
pub negative_code : (v : ℤ) → lt_z v (pos 0) ≡ is_negative v
negative_code (pos n) = lt_not n 0 (omega arith)
negative_code (negsuc n) = refl

pub some_size : (v : ℤ) → (of_z w32 v ≡ 0 → ⊥) → 1 ≤ unsigned_abs v
some_size (pos zero) h = absurd (h refl)
some_size (pos (suc n)) h = omega arith
some_size (negsuc n) h = omega arith

-- a level
module _ (sign : Distribution) (level : ℤ) where
  abbrev size : ℕ
  size = unsigned_abs level

  abbrev cut : ℕ
  cut = cut_level level

  abbrev negative : Bool
  negative = is_negative level

  abbrev rest : Bool → Element Distribution ℤ
  rest n = renamed (whole_element cut) (level_of n) unsigned_abs

  abbrev tree : Syntax Distribution ℤ
  tree = (level_element sign cut).tree

  abbrev signed : Bool → Syntax Distribution ℤ
  signed none = (choose none (known (pos 0)) (after (flag sign) rest is_negative)).tree

  not_zero : 1 ≤ size → false ≡ nat_eq cut 0
  not_zero some = let z : 0 < cut = omega (arith, some) in grind (arith, nat_tests, z)

  pub level_none : (at : Numbers) → level ≡ pos 0 → Writes coded_in learnt_in tree level at at
  level_none at e = subst (λ (v : ℤ). Writes coded_in learnt_in (level_element sign (cut_level v)).tree v at at) (sym e) (stays coded_in learnt_in (Done (pos 0)) at)

  pub level_begun : (old new : Numbers) → 1 ≤ size → size < 2 ^ 20 → Begins coded_in learnt_in (flag sign).tree negative old new → Begins coded_in learnt_in tree level old new
  level_begun old new some small b =
      let r = signed_reads cut negative (omega (arith, some)) (omega arith) in
      subst (λ z. Begins coded_in learnt_in (signed z) level old new) (not_zero some)
      (begins_first coded_in learnt_in (flag sign).tree (λ n. (rest n).tree) negative level ((rest negative).symbols level) old new (r.leads level (refl, (refl, small))) b)

  signed_came : (old new : Numbers) → 1 ≤ size → Writes coded_in learnt_in (flag sign).tree negative old new → Comes coded_in learnt_in tree (rest negative).tree old new
  signed_came old new some w =
      subst (λ z. Comes coded_in learnt_in (signed z) (rest negative).tree old new) (not_zero some) (writes_first coded_in learnt_in (flag sign).tree (λ n. (rest n).tree) negative old new w)

  abbrev tail : Element Distribution ℕ
  tail = renamed (tested (λ v. nat_lt (v + 15) (2 ^ 20)) golomb_element) (λ v. v + 15) (λ size. size - 15)

  abbrev by_size : Bool → Syntax Distribution ℤ
  by_size few = bind (if few then Done cut else tail.tree) (λ s. Done (level_of negative s))

  pub level_small : (old new : Numbers) → 1 ≤ size → size < 15 → Writes coded_in learnt_in (flag sign).tree negative old new → Writes coded_in learnt_in tree level old new
  level_small old new some few w =
      let e : cut ≡ size = omega (arith, few) in
      comes_as coded_in learnt_in tree (rest negative).tree (Done level) old new new (signed_came old new some w)
      (ap by_size (lt_is cut 15 (omega (arith, few))) ∙ ap (λ s. Done (level_of negative s)) e ∙ ap Done (level_is level)) refl

  pub level_great : {U E : Type 0} (r : Result U E) (old mid new : Numbers) → 15 ≤ size → size < 2 ^ 20 → Writes coded_in learnt_in (flag sign).tree negative old mid →
      Wrote coded_in learnt_in r golomb_element.tree (size - 15) mid new → Wrote coded_in learnt_in r tree level old new
  level_great r old mid new great small w g =
      let e : size - 15 + 15 ≡ size = omega (arith, great) in
      wrote_then coded_in learnt_in r tree (rest negative).tree level old mid new (signed_came old mid (omega (arith, great)) w)
      (subst (λ b. Wrote coded_in learnt_in r (by_size b) level mid new) (sym (lt_not cut 15 (omega (arith, great))))
      (wrote_as coded_in learnt_in r tail.tree (λ s. Done (level_of negative s)) size level mid new (ap Done (level_is level))
      (wrote_as coded_in learnt_in r (tested (λ v. nat_lt (v + 15) (2 ^ 20)) golomb_element).tree (λ v. Done (v + 15)) (size - 15) size mid new (ap Done e)
      (wrote_as coded_in learnt_in r golomb_element.tree (λ v. if nat_lt (v + 15) (2 ^ 20) then Done v else Bad) (size - 15) (size - 15) mid new
      (ap (λ (b : Bool). if b then Done (size - 15) else Bad) (lt_is (size - 15 + 15) (2 ^ 20) (omega (arith, e, small)))) g))))

-- a size
module _ (base range : Distribution) (low size : ℕ) where
  abbrev first : ℕ → Syntax Distribution ℕ
  first s = (by_three (s + low) (known (s + low)) (range_element range)).tree

  abbrev size_tree : Syntax Distribution ℕ
  size_tree = (coeff_size_element base range low).tree

  pub size_begun : (old new : Numbers) → HasSymbols base (4 - low) → HasSymbols range 4 → low ≤ 1 → low ≤ size → new ≡ old → Begins coded_in learnt_in size_tree (min size 15) old new
  size_begun old new has more one least e =
      begins_none coded_in learnt_in size_tree ((coeff_size_element base range low).symbols (min size 15)) (min size 15) old new ((size_reads base range low one has more).leads (min size 15) (omega (arith, one, least), omega arith)) e

  pub size_small : (s : ℕ) (old new : Numbers) → s + low ≡ min size 3 → size < 3 → Stores coded_in learnt_in base s old new → Writes coded_in learnt_in size_tree (min size 15) old new
  size_small s old new e few h =
      comes_by coded_in learnt_in (Done (min size 15)) base first s old new
      (three_small (s + low) (known (s + low)) (range_element range) (omega (arith, e, few)) ∙ ap Done (let d : s + low ≡ min size 15 = omega (arith, e, few) in d)) h

  pub size_great : {U E : Type 0} (r : Result U E) (s : ℕ) (old mid new : Numbers) → s + low ≡ min size 3 → 3 ≤ size → Stores coded_in learnt_in base s old mid →
      Wrote coded_in learnt_in r (range_element range).tree (min size 15) mid new → Wrote coded_in learnt_in r size_tree (min size 15) old new
  size_great r s old mid new e great h w =
      wrote_then coded_in learnt_in r size_tree (range_element range).tree (min size 15) old mid new
      (comes_by coded_in learnt_in (range_element range).tree base first s old mid (three_great (s + low) (known (s + low)) (range_element range) (omega (arith, e, great))) h) w

-- loops over the levels of a block: `k` of them are written
module _ (base range : ℕ → List ℕ → Distribution) (sign : ℕ → Distribution) (n : ℕ) (levels : List ℤ) (are : AreCounted n levels) (k : ℕ) (before : k < n) where
  abbrev cuts : List ℕ
  cuts = map cut_level levels

  long_cuts : length cuts ≡ n
  long_cuts = length-map levels cut_level ∙ are.long

  one_more : drop k cuts ≡ slice_index cuts k ∷ drop (k + 1) cuts
  one_more = drop_more cuts k 0 (omega (arith, long_cuts, before))

  cut_here : slice_index cuts k ≡ cut_level (level_at levels k)
  cut_here = cut_at levels k

  -- a size more, from the last to the first
  module _ (t : Syntax Distribution (List ℕ)) (old mid new : Numbers) (came : Comes coded_in learnt_in t (sizes_after base range (k + 1) (drop (k + 1) cuts)).tree old mid) where
    abbrev later : List ℕ
    later = drop (k + 1) cuts

    abbrev size_here : Element Distribution ℕ
    size_here = coeff_size_element (base k later) (range k later) (least later)

    sizes_came : Comes coded_in learnt_in t (sizes_after base range (suc k) later).tree old mid
    sizes_came = let s : k + 1 ≡ suc k = omega arith in subst (λ c. Comes coded_in learnt_in t (sizes_after base range c later).tree old mid) s came

    pub sizes_step : Writes coded_in learnt_in size_here.tree (cut_level (level_at levels k)) mid new → Comes coded_in learnt_in t (sizes_after base range k (drop k cuts)).tree old new
    sizes_step w =
        let w' = subst (λ a. Writes coded_in learnt_in size_here.tree a mid new) (sym cut_here) w in
        subst (λ (l : List ℕ). Comes coded_in learnt_in t (sizes_after base range k l).tree old new) (sym one_more)
        (comes_then coded_in learnt_in t (sizes_after base range (suc k) later).tree (sizes_after base range k (slice_index cuts k ∷ later)).tree old mid new sizes_came
        (writes_first coded_in learnt_in size_here.tree (λ a. (sizes_after base range k (a ∷ later)).tree) (slice_index cuts k) mid new w'))

    pub sizes_begun : AreCoders base range → Begins coded_in learnt_in size_here.tree (cut_level (level_at levels k)) mid new → Begins coded_in learnt_in t cuts old new
    sizes_begun coders b =
        let a = slice_index cuts k in
        let b' = subst (λ a. Begins coded_in learnt_in size_here.tree a mid new) (sym cut_here) b in
        let sizes = subst (λ (l : List ℕ). AreSizes k l cuts) one_more (sizes_are n levels are k (omega (arith, before))) in
        let rest = sizes_after base range k (a ∷ later) in
        begins_then coded_in learnt_in t (sizes_after base range (suc k) later).tree cuts old mid new sizes_came
        (begins_first coded_in learnt_in size_here.tree (λ a. (sizes_after base range k (a ∷ later)).tree) a cuts (rest.symbols cuts) mid new ((sizes_read base range coders k (a ∷ later)).leads cuts sizes) b')

  -- a level more, from the first to the last
  module _ (t : Syntax Distribution (List ℤ)) (old mid new : Numbers) (came : Comes coded_in learnt_in t (levels_after sign (take k levels) (drop k cuts)).tree old mid) where
    abbrev level : ℤ
    level = level_at levels k

    inside : k < length levels
    inside = omega (arith, before, are.long)

    long : length (take k levels) ≡ k
    long = length-take-le k levels (omega (arith, inside))

    levels_came : Comes coded_in learnt_in t (levels_after sign (take k levels) (cut_level level ∷ drop (k + 1) cuts)).tree old mid
    levels_came =
        subst (λ (a : ℕ). Comes coded_in learnt_in t (levels_after sign (take k levels) (a ∷ drop (k + 1) cuts)).tree old mid) cut_here
        (subst (λ (l : List ℕ). Comes coded_in learnt_in t (levels_after sign (take k levels) l).tree old mid) one_more came)

    pub levels_step : Writes coded_in learnt_in (level_element (sign k) (cut_level level)).tree level mid new → Comes coded_in learnt_in t (levels_after sign (take (k + 1) levels) (drop (k + 1) cuts)).tree old new
    levels_step w =
        let w' = subst (λ m. Writes coded_in learnt_in (level_element (sign m) (cut_level level)).tree level mid new) (sym long) w in
        subst (λ (xs : List ℤ). Comes coded_in learnt_in t (levels_after sign xs (drop (k + 1) cuts)).tree old new) (sym (take_more levels k (pos 0) inside))
        (comes_then coded_in learnt_in t (levels_after sign (take k levels) (cut_level level ∷ drop (k + 1) cuts)).tree (levels_after sign (take k levels ++ level ∷ []) (drop (k + 1) cuts)).tree old mid new levels_came
        (writes_first coded_in learnt_in (level_element (sign (length (take k levels))) (cut_level level)).tree (λ v. (levels_after sign (take k levels ++ v ∷ []) (drop (k + 1) cuts)).tree) level mid new w'))

    pub levels_begun : ((k : ℕ) → HasSymbols (sign k) 2) → Begins coded_in learnt_in (level_element (sign k) (cut_level level)).tree level mid new → Begins coded_in learnt_in t levels old new
    levels_begun has b =
        let b' = subst (λ m. Begins coded_in learnt_in (level_element (sign m) (cut_level level)).tree level mid new) (sym long) b in
        let sizes = drop (k + 1) cuts in
        let rest = levels_after sign (take (k + 1) levels) sizes in
        let leads = (levels_read sign has (take (k + 1) levels) sizes (few_drop (k + 1) cuts (all_few levels))).leads levels (levels_are n levels are (n - (k + 1)) (k + 1) (omega (arith, before))) in
        begins_then coded_in learnt_in t (levels_after sign (take k levels) (cut_level level ∷ sizes)).tree levels old mid new levels_came
        (begins_first coded_in learnt_in (level_element (sign (length (take k levels))) (cut_level level)).tree (λ v. (levels_after sign (take k levels ++ v ∷ []) sizes).tree) level levels (rest.symbols levels) mid new
        (subst (λ (xs : List ℤ). Leads (levels_after sign xs sizes).tree (rest.symbols levels) levels) (take_more levels k (pos 0) inside) leads) b')

-- where a loop over sizes begins, and where one over levels ends
pub sizes_end : (base range : ℕ → List ℕ → Distribution) (cuts : List ℕ) (t : Syntax Distribution (List ℕ)) (c : ℕ) (old new : Numbers) → c ≡ 0 → Comes coded_in learnt_in t (sizes_after base range c (drop c cuts)).tree old new → Writes coded_in learnt_in t cuts old new
sizes_end base range cuts t c old new z came = subst (λ c. Comes coded_in learnt_in t (sizes_after base range c (drop c cuts)).tree old new) z came

pub levels_end : (sign : ℕ → Distribution) (n : ℕ) (levels : List ℤ) → AreCounted n levels → (t : Syntax Distribution (List ℤ)) (old new : Numbers) → Comes coded_in learnt_in t (levels_after sign (take n levels) (drop n (map cut_level levels))).tree old new →
    Writes coded_in learnt_in t levels old new
levels_end sign n levels are t old new came =
    let cuts = map cut_level levels in
    let l = are.long in
    comes_as coded_in learnt_in t (levels_after sign (take n levels) (drop n cuts)).tree (Done levels) old new new came
    (ap (λ (s : List ℕ). (levels_after sign (take n levels) s).tree) (drop_all n cuts (omega (arith, length-map levels cut_level, l))) ∙ ap Done (take_all n levels (omega (arith, l)))) refl
