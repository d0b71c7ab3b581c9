-- The levels of a transform block have one path to each list of them.
use Rattle.std.proofs.Common.{◌≡◌, ℕ, zero, suc, ◌+◌, ◌-◌, ◌*◌, ◌^◌, ◌<◌, ◌≤◌, List, [], ◌∷◌, ◌++◌, Bool, true, false, if◌then◌else◌, min, nat_eq, nat_lt, eqb-true, length, map, take, drop, slice_index, get_or, inl, inr, refl, sym, ap, subst, ◌∙◌, arith, ℤ, pos, negsuc, unsigned_abs, append_assoc}
use Rattle.std.proofs.Math.ListN.{get_or-append}
use Rattle.std.proofs.Math.Seq.{get_or-append_seam}
use Rattle.std.proofs.lemmas.Bool.{cases_lt}
use Rattle.std.proofs.lemmas.Bool.Decides.{nat_tests}
use Rattle.std.proofs.lemmas.List.{append-nil, length-append, length-map, length-take-le, take_more, take_all, drop_more, drop_all, drop-drop, get_or-drop, map_push}
use Rattle.av1_cdf.specs.Distribution.{Distribution, Even, HasSymbols}
use Rattle.av1_cdf.proofs.Cells.{lt_is, lt_not}
use Rattle.av1_codes.specs.Codes.{golomb}
use Rattle.av1_ec.specs.CodeTrees.{golomb_tree}
use Rattle.av1_ec.proofs.CodeTrees.{golomb_reads, code_reads}
use Rattle.av1_ec.proofs.Lengths.{golomb_length}
use Rattle.av1_model.specs.Element.{Element, nothing, known, choose, after, renamed, tested, Reads}
use Rattle.av1_model.specs.Syntax.Syntax.{Bad}
use Rattle.av1_model.proofs.ElementLaws.{nothing_reads, known_reads, reads_as, ask_reads, choose_reads, after_reads, renamed_reads}
use Rattle.av1_syntax.specs.Flags.{flag}
use Rattle.av1_syntax.specs.Levels.{by_three, range_after, range_element, coeff_size_element, least, sizes_after, golomb_element, whole_element, is_negative, level_of, level_element, level_at, levels_after, cut_level, levels_element}
use Rattle.av1_syntax.proofs.Elements.{flag_reads}
use Rattle.av1_syntax.proofs.EndReads.{tested_both}
use Rattle.av1_syntax.proofs.Factors.{neg_is}
use Rattle.av1_syntax.proofs.Readings.{even_has}

lt_of : (a b : ℕ) → nat_lt a b ≡ true → a < b
lt_of a b h = grind (arith, nat_tests)

not_eq : (a b : ℕ) → nat_eq a b ≡ false → a ≡ b → ⊥
not_eq a b h e = grind (arith, nat_tests)

lt_no : (a b : ℕ) → nat_lt a b ≡ false → b ≤ a
lt_no a b h = grind (arith, nat_tests)

eq_not : (a b : ℕ) → b < a → nat_eq a b ≡ false
eq_not a b h = grind (arith, nat_tests)

three_past : (s : ℕ) (small great : Element Distribution ℕ) → 4 ≤ s → (by_three s small great).tree ≡ Bad
three_past s small great h =
    ap (λ (b : Bool). if b then small.tree else (if nat_eq s 3 then great.tree else Bad)) (lt_not s 3 (omega (arith, h))) ∙ ap (λ (b : Bool). if b then great.tree else Bad) (eq_not s 3 (omega (arith, h)))

three_reads : (s : ℕ) (small great : Element Distribution ℕ) (P : ℕ → Type 0) (most : ℕ) → (s < 3 → Reads HasSymbols small P most) → (s ≡ 3 → Reads HasSymbols great P most) → ((a : ℕ) → P a → s ≤ 3) →
    Reads HasSymbols (by_three s small great) P most
three_reads s small great P most low more three =
    choose_reads HasSymbols (nat_lt s 3) small (choose (nat_eq s 3) great nothing) P most (λ t. low (lt_of s 3 t))
    (λ f. choose_reads HasSymbols (nat_eq s 3) great nothing P most (λ t. more (eqb-true s 3 t))
    (λ g. reads_as HasSymbols nothing P P 0 most (λ a h. h) (λ a h. h) (omega arith) (nothing_reads HasSymbols P (λ a h. not_eq s 3 g (let l = three a h in let n = lt_no s 3 f in omega (arith, l, n))))))

-- a size that a range symbol tells
abbrev IsRange : ℕ → ℕ → ℕ → ℕ → Type 0
IsRange more a s v = (min (v - a) 3 ≡ s) × ((a ≤ v) × (v ≤ a + 3 * suc more))

pub range_reads : (q : Distribution) → HasSymbols q 4 → (more a : ℕ) → Reads HasSymbols (range_after q more a) (λ v. (a ≤ v) × (v ≤ a + 3 * more)) more
range_reads q has zero a = reads_as HasSymbols (known a) (λ v. v ≡ a) (λ v. (a ≤ v) × (v ≤ a + 3 * zero)) 0 zero (λ v e. (omega (arith, e), omega (arith, e))) (λ v h. omega (arith, h)) (omega arith) (known_reads HasSymbols a)
range_reads q has (suc more) a =
    reads_as HasSymbols (range_after q (suc more) a) (λ v. IsRange more a (min (v - a) 3) v) (λ v. (a ≤ v) × (v ≤ a + 3 * suc more)) (suc more) (suc more) (λ v h. h.1) (λ v h. (refl, h)) (omega arith)
    (ask_reads HasSymbols q 4 (λ s. by_three s (known (a + s)) (range_after q more (a + 3))) (λ v. min (v - a) 3) (IsRange more a) more has (λ s l. three_past s (known (a + s)) (range_after q more (a + 3)) l) (λ s v h. h.0)
    (λ s. three_reads s (known (a + s)) (range_after q more (a + 3)) (IsRange more a s) more
    (λ l. reads_as HasSymbols (known (a + s)) (λ v. v ≡ a + s) (IsRange more a s) 0 more (λ v e. (omega (arith, e, l), (omega (arith, e), omega (arith, e, l)))) (λ v h. omega (arith, h, l)) (omega arith) (known_reads HasSymbols (a + s)))
    (λ e. reads_as HasSymbols (range_after q more (a + 3)) (λ v. (a + 3 ≤ v) × (v ≤ a + 3 + 3 * more)) (IsRange more a s) more more (λ v h. (omega (arith, h, e), (omega (arith, h), omega (arith, h)))) (λ v h. (omega (arith, h, e), omega (arith, h))) (omega arith)
    (range_reads q has more (a + 3)))
    (λ v h. omega (arith, h.0))))

pub range_read : (q : Distribution) → HasSymbols q 4 → Reads HasSymbols (range_element q) (λ v. (3 ≤ v) × (v ≤ 15)) 4
unfolding range_element
range_read q has = range_reads q has 4 3

-- a size that a first symbol tells
abbrev IsSized : ℕ → ℕ → ℕ → Type 0
IsSized low s v = (min v 3 - low ≡ s) × ((low ≤ v) × (v ≤ 15))

pub size_reads : (base range : Distribution) (low : ℕ) → low ≤ 1 → HasSymbols base (4 - low) → HasSymbols range 4 → Reads HasSymbols (coeff_size_element base range low) (λ v. (low ≤ v) × (v ≤ 15)) 5
size_reads base range low one has more =
    reads_as HasSymbols (coeff_size_element base range low) (λ v. IsSized low (min v 3 - low) v) (λ v. (low ≤ v) × (v ≤ 15)) 5 5 (λ v h. h.1) (λ v h. (refl, h)) (omega arith)
    (ask_reads HasSymbols base (4 - low) (λ s. by_three (s + low) (known (s + low)) (range_element range)) (λ v. min v 3 - low) (IsSized low) 4 has (λ s l. three_past (s + low) (known (s + low)) (range_element range) (omega (arith, l, one))) (λ s v h. h.0)
    (λ s. three_reads (s + low) (known (s + low)) (range_element range) (IsSized low s) 4
    (λ l. reads_as HasSymbols (known (s + low)) (λ v. v ≡ s + low) (IsSized low s) 0 4 (λ v e. (omega (arith, e, l), (omega (arith, e), omega (arith, e, l)))) (λ v h. omega (arith, h, l)) (omega arith) (known_reads HasSymbols (s + low)))
    (λ e. reads_as HasSymbols (range_element range) (λ v. (3 ≤ v) × (v ≤ 15)) (IsSized low s) 4 4 (λ v h. (omega (arith, h, e), (omega (arith, h, one), h.1))) (λ v h. (omega (arith, h, e), h.1.1)) (omega arith) (range_read range more))
    (λ v h. omega (arith, h))))

-- a list that ends with these sizes, after so many up to 15
abbrev pub AreSizes : ℕ → List ℕ → List ℕ → Type 0
AreSizes zero later sizes = sizes ≡ later
AreSizes (suc c) later sizes = ((least later ≤ slice_index sizes c) × (slice_index sizes c ≤ 15)) × AreSizes c (slice_index sizes c ∷ later) sizes

ends : (n : ℕ) (later sizes : List ℕ) → AreSizes n later sizes → drop n sizes ≡ later
ends zero later sizes h = h
ends (suc n) later sizes h =
    let e = ends n (slice_index sizes n ∷ later) sizes h.1 in
    let s : n + 1 ≡ suc n = omega arith in
    sym (ap (λ k. drop k sizes) s) ∙ sym (drop-drop 1 n sizes) ∙ ap (drop 1) e

size_told : (n a : ℕ) (later sizes : List ℕ) → AreSizes n (a ∷ later) sizes → slice_index sizes n ≡ a
size_told n a later sizes h =
    let z : n + 0 ≡ n = omega arith in
    sym (ap (λ k. get_or sizes k 0) z) ∙ sym (get_or-drop n sizes 0 0) ∙ ap (λ (l : List ℕ). get_or l 0 0) (ends n (a ∷ later) sizes h)

pub least_one : (later : List ℕ) → least later ≤ 1
least_one [] = omega arith
least_one (a ∷ later) = omega arith

-- these code the first symbols of sizes, and the others
pub record AreCoders (first others : ℕ → List ℕ → Distribution) : Type 0 where
  pub base : (c : ℕ) (later : List ℕ) → HasSymbols (first c later) (4 - least later)
  pub range : (c : ℕ) (later : List ℕ) → HasSymbols (others c later) 4

pub sizes_read : (base range : ℕ → List ℕ → Distribution) → AreCoders base range → (n : ℕ) (later : List ℕ) → Reads HasSymbols (sizes_after base range n later) (AreSizes n later) (5 * n)
sizes_read base range are zero later = reads_as HasSymbols (known later) (λ sizes. sizes ≡ later) (AreSizes zero later) 0 (5 * zero) (λ s h. h) (λ s h. h) (omega arith) (known_reads HasSymbols later)
sizes_read base range are (suc c) later =
    reads_as HasSymbols (sizes_after base range (suc c) later) (λ sizes. ((least later ≤ slice_index sizes c) × (slice_index sizes c ≤ 15)) × AreSizes c (slice_index sizes c ∷ later) sizes) (AreSizes (suc c) later) (5 + 5 * c) (5 * suc c) (λ s h. h) (λ s h. h) (omega arith)
    (after_reads HasSymbols (coeff_size_element (base c later) (range c later) (least later)) (λ a. sizes_after base range c (a ∷ later)) (λ sizes. slice_index sizes c) (λ a. (least later ≤ a) × (a ≤ 15)) (λ a sizes. AreSizes c (a ∷ later) sizes) 5 (5 * c)
    (λ a sizes p h. size_told c a later sizes h) (size_reads (base c later) (range c later) (least later) (least_one later) (are.base c later) (are.range c later)) (λ a p. sizes_read base range are c (a ∷ later)))

-- sizes up to 15
abbrev pub AreFew : List ℕ → Type 0
AreFew [] = Unit {0}
AreFew (a ∷ sizes) = (a ≤ 15) × AreFew sizes

few_of : (n : ℕ) (later sizes : List ℕ) → AreSizes n later sizes → AreFew later → AreFew sizes
few_of zero later sizes h f = subst AreFew (sym h) f
few_of (suc n) later sizes h f = few_of n (slice_index sizes n ∷ later) sizes h.1 (h.0.1, f)

long_of : (n : ℕ) (later sizes : List ℕ) → AreSizes n later sizes → length sizes ≡ n + length later
long_of zero later sizes h = ap (λ (l : List ℕ). length l) h ∙ omega arith
long_of (suc n) later sizes h = long_of n (slice_index sizes n ∷ later) sizes h.1 ∙ omega arith

pub golomb_read : Reads HasSymbols golomb_element (λ v. v + 1 < 2 ^ 20) 63
golomb_read = code_reads HasSymbols Even (golomb_tree Even 20) (λ v. v + 1 < 2 ^ 20) golomb 63 even_has (golomb_reads Even 20) (λ v h. golomb_length v (omega (arith, h)))

-- a size below 2^20 of which so much is read
abbrev pub IsWhole : ℕ → ℕ → Type 0
IsWhole a size = (min size 15 ≡ a) × (size < 2 ^ 20)

pub whole_reads : (a : ℕ) → a ≤ 15 → Reads HasSymbols (whole_element a) (IsWhole a) 63
whole_reads a few =
    let test = λ (v : ℕ). nat_lt (v + 15) (2 ^ 20) in
    choose_reads HasSymbols (nat_lt a 15) (known a) (renamed (tested test golomb_element) (λ v. v + 15) (λ size. size - 15)) (IsWhole a) 63
    (λ t. let l = lt_of a 15 t in reads_as HasSymbols (known a) (λ v. v ≡ a) (IsWhole a) 0 63 (λ v e. (omega (arith, e, l), omega (arith, e, l))) (λ v h. omega (arith, h.0, l)) (omega arith) (known_reads HasSymbols a))
    (λ f. let l = lt_no a 15 f in
    renamed_reads HasSymbols (tested test golomb_element) (λ v. v + 15) (λ size. size - 15) (λ v. (v + 1 < 2 ^ 20) × (test v ≡ true)) (IsWhole a) 63
    (λ size h. let e : size - 15 + 15 ≡ size = omega (arith, h.0, l) in ((omega (arith, h.1), lt_is (size - 15 + 15) (2 ^ 20) (omega (arith, e, h.1))), e))
    (λ v h. let b = lt_of (v + 15) (2 ^ 20) h.1 in ((omega (arith, l, few), b), omega arith))
    (tested_both test golomb_element (λ v. v + 1 < 2 ^ 20) 63 golomb_read))

-- a level of which so much is read
abbrev pub IsLevel : ℕ → ℤ → Type 0
IsLevel a level = (cut_level level ≡ a) × (unsigned_abs level < 2 ^ 20)

pub zero_level : (level : ℤ) → cut_level level ≡ 0 → level ≡ pos 0
zero_level (pos zero) h = refl
zero_level (pos (suc n)) h = absurd (omega (arith, h))
zero_level (negsuc n) h = absurd (omega (arith, h))

pub level_is : (level : ℤ) → level_of (is_negative level) (unsigned_abs level) ≡ level
level_is (pos n) = refl
level_is (negsuc n) = neg_is n

negative_is : (negative : Bool) (size : ℕ) → 0 < size → is_negative (level_of negative size) ≡ negative
negative_is negative zero h = absurd (omega (arith, h))
negative_is true (suc n) h = ap is_negative (neg_is n)
negative_is false (suc n) h = refl

size_is : (negative : Bool) (size : ℕ) → unsigned_abs (level_of negative size) ≡ size
size_is true zero = refl
size_is true (suc n) = ap unsigned_abs (neg_is n)
size_is false size = refl

-- a level of this sign
abbrev pub IsSigned : ℕ → Bool → ℤ → Type 0
IsSigned a negative level = (is_negative level ≡ negative) × IsLevel a level

pub signed_reads : (a : ℕ) (negative : Bool) → 0 < a → a ≤ 15 → Reads HasSymbols (renamed (whole_element a) (level_of negative) unsigned_abs) (IsSigned a negative) 63
signed_reads a negative some few =
    renamed_reads HasSymbols (whole_element a) (level_of negative) unsigned_abs (IsWhole a) (IsSigned a negative) 63
    (λ v h. (h.1, ap (λ n. level_of n (unsigned_abs v)) (sym h.0) ∙ level_is v))
    (λ size h. let s = size_is negative size in ((negative_is negative size (omega (arith, h.0, some)), (ap (λ n. min n 15) s ∙ h.0, subst (λ n. n < 2 ^ 20) (sym s) h.1)), s))
    (whole_reads a few)

pub level_reads : (sign : Distribution) (a : ℕ) → HasSymbols sign 2 → a ≤ 15 → Reads HasSymbols (level_element sign a) (IsLevel a) 64
level_reads sign a has few =
    let rest : Bool → Element Distribution ℤ = λ negative. renamed (whole_element a) (level_of negative) unsigned_abs in
    choose_reads HasSymbols (nat_eq a 0) (known (pos 0)) (after (flag sign) rest is_negative) (IsLevel a) 64
    (λ t. let z = eqb-true a 0 t in reads_as HasSymbols (known (pos 0)) (λ v. v ≡ pos 0) (IsLevel a) 0 64 (λ v h. subst (IsLevel a) (sym h) (omega (arith, z), omega arith)) (λ v h. zero_level v (h.0 ∙ z)) (omega arith) (known_reads HasSymbols (pos 0)))
    (λ f. let some : 0 < a = (let n = not_eq a 0 f in omega (arith, n)) in
    reads_as HasSymbols (after (flag sign) rest is_negative) (λ v. Unit {0} × IsSigned a (is_negative v) v) (IsLevel a) 64 64 (λ v h. h.1.1) (λ v h. (tt, (refl, h))) (omega arith)
    (after_reads HasSymbols (flag sign) rest is_negative (λ negative. Unit {0}) (IsSigned a) 1 63 (λ negative v p h. h.0) (flag_reads sign has) (λ negative p. signed_reads a negative some few)))

-- levels, of which the first ones are known and then follow those of these sizes up to 15
abbrev pub AreAfter : List ℤ → List ℕ → List ℤ → Type 0
AreAfter done [] levels = levels ≡ done
AreAfter done (a ∷ sizes) levels = IsLevel a (level_at levels (length done)) × AreAfter (done ++ level_at levels (length done) ∷ []) sizes levels

begins_with : (done : List ℤ) (sizes : List ℕ) (levels : List ℤ) → AreAfter done sizes levels → (k : ℕ) → k < length done → level_at levels k ≡ level_at done k
begins_with done [] levels h k l = ap (λ (ls : List ℤ). level_at ls k) h
begins_with done (a ∷ sizes) levels h k l =
    let v = level_at levels (length done) in
    let n = length-append done (v ∷ []) in
    begins_with (done ++ v ∷ []) sizes levels h.1 k (omega (arith, l, n)) ∙ get_or-append done (v ∷ []) (pos 0) k l

next_told : (done : List ℤ) (v : ℤ) (sizes : List ℕ) (levels : List ℤ) → AreAfter (done ++ v ∷ []) sizes levels → level_at levels (length done) ≡ v
next_told done v sizes levels h =
    let n = length-append done (v ∷ []) in
    begins_with (done ++ v ∷ []) sizes levels h (length done) (omega (arith, n)) ∙ get_or-append_seam done v [] (pos 0)

pub levels_read : (sign : ℕ → Distribution) → ((k : ℕ) → HasSymbols (sign k) 2) → (done : List ℤ) (sizes : List ℕ) → AreFew sizes → Reads HasSymbols (levels_after sign done sizes) (AreAfter done sizes) (64 * length sizes)
levels_read sign has done [] few = reads_as HasSymbols (known done) (λ ls. ls ≡ done) (AreAfter done []) 0 (64 * length {A = ℕ} []) (λ ls h. h) (λ ls h. h) (omega arith) (known_reads HasSymbols done)
levels_read sign has done (a ∷ sizes) few =
    reads_as HasSymbols (levels_after sign done (a ∷ sizes)) (λ ls. IsLevel a (level_at ls (length done)) × AreAfter (done ++ level_at ls (length done) ∷ []) sizes ls) (AreAfter done (a ∷ sizes)) (64 + 64 * length sizes) (64 * length (a ∷ sizes))
    (λ ls h. h) (λ ls h. h) (omega arith)
    (after_reads HasSymbols (level_element (sign (length done)) a) (λ v. levels_after sign (done ++ v ∷ []) sizes) (λ ls. level_at ls (length done)) (IsLevel a) (λ v ls. AreAfter (done ++ v ∷ []) sizes ls) 64 (64 * length sizes) (λ v ls p h. next_told done v sizes ls h)
    (level_reads (sign (length done)) a (has (length done)) few.0) (λ v p. levels_read sign has (done ++ v ∷ []) sizes few.1))

-- the sizes of levels that are read
cuts_after : (done : List ℤ) (sizes : List ℕ) (levels : List ℤ) → AreAfter done sizes levels → map cut_level levels ≡ map cut_level done ++ sizes
cuts_after done [] levels h = ap (map cut_level) h ∙ sym (append-nil (map cut_level done))
cuts_after done (a ∷ sizes) levels h =
    let v = level_at levels (length done) in
    cuts_after (done ++ v ∷ []) sizes levels h.1 ∙ ap (λ (l : List ℕ). l ++ sizes) (map_push cut_level done v) ∙ append_assoc (map cut_level done) (cut_level v ∷ []) sizes ∙ ap (λ b. map cut_level done ++ b ∷ sizes) h.0.0

long_after : (done : List ℤ) (sizes : List ℕ) (levels : List ℤ) → AreAfter done sizes levels → length levels ≡ length done + length sizes
long_after done [] levels h = ap (λ (l : List ℤ). length l) h ∙ omega arith
long_after done (a ∷ sizes) levels h =
    let v = level_at levels (length done) in
    let n = length-append done (v ∷ []) in
    let l = long_after (done ++ v ∷ []) sizes levels h.1 in
    omega (arith, l, n)

small_after : (done : List ℤ) (sizes : List ℕ) (levels : List ℤ) → AreAfter done sizes levels → (k : ℕ) → length done ≤ k → k < length done + length sizes → unsigned_abs (level_at levels k) < 2 ^ 20
small_after done [] levels h k from to = absurd (omega (arith, from, to))
small_after done (a ∷ sizes) levels h k from to =
    let v = level_at levels (length done) in
    let n = length-append done (v ∷ []) in
    elim (cases_lt (length done) k) [
      | inl l ↦ small_after (done ++ v ∷ []) sizes levels h.1 k (omega (arith, l, n)) (omega (arith, to, n))
      | inr l ↦ let e : length done ≡ k = omega (arith, l, from) in subst (λ (k : ℕ). unsigned_abs (level_at levels k) < 2 ^ 20) e h.0.1
    ]

-- so many levels, of which the last is not 0, of sizes below 2^20
pub record AreCounted (n : ℕ) (levels : List ℤ) : Type 0 where
  pub long : length levels ≡ n
  pub small : (k : ℕ) → k < n → unsigned_abs (level_at levels k) < 2 ^ 20
  pub last : 0 < n → 1 ≤ unsigned_abs (level_at levels (n - 1))

pub cut_at : (levels : List ℤ) (k : ℕ) → slice_index (map cut_level levels) k ≡ cut_level (level_at levels k)
cut_at [] k = refl
cut_at (v ∷ vs) zero = refl
cut_at (v ∷ vs) (suc k) = cut_at vs k

few_cut : (v : ℤ) → cut_level v ≤ 15
few_cut v = omega arith

pub all_few : (levels : List ℤ) → AreFew (map cut_level levels)
all_few [] = tt
all_few (v ∷ vs) = (few_cut v, all_few vs)

pub few_drop : (k : ℕ) (sizes : List ℕ) → AreFew sizes → AreFew (drop k sizes)
few_drop zero sizes h = h
few_drop (suc k) [] h = h
few_drop (suc k) (a ∷ sizes) h = few_drop k sizes h.1

some_cut : (v : ℤ) → 1 ≤ unsigned_abs v → 1 ≤ cut_level v
some_cut v h = omega (arith, h)

cut_some : (v : ℤ) → 1 ≤ cut_level v → 1 ≤ unsigned_abs v
cut_some v h = omega (arith, h)

module _ (n : ℕ) (levels : List ℤ) (are : AreCounted n levels) where
  abbrev cuts : List ℕ
  cuts = map cut_level levels

  long_cuts : length cuts ≡ n
  long_cuts = length-map levels cut_level ∙ are.long

  -- from a place back
  pub sizes_are : (c : ℕ) → c ≤ n → AreSizes c (drop c cuts) cuts
  sizes_are zero h = refl
  sizes_are (suc c) h =
      let s : c + 1 ≡ suc c = omega arith in
      let e : drop c cuts ≡ slice_index cuts c ∷ drop (suc c) cuts = drop_more cuts c 0 (omega (arith, long_cuts, h)) ∙ ap (λ k. slice_index cuts c ∷ drop k cuts) s in
      let at = cut_at levels c in
      let low : least (drop (suc c) cuts) ≤ slice_index cuts c = elim (cases_lt (suc c) n) [
        | inl l ↦ subst (λ (l : List ℕ). least l ≤ slice_index cuts c) (sym (drop_more cuts (suc c) 0 (omega (arith, long_cuts, l)))) (omega arith)
        | inr l ↦
            let k : n - 1 ≡ c = omega (arith, l, h) in
            let some = some_cut (level_at levels c) (subst (λ (k : ℕ). 1 ≤ unsigned_abs (level_at levels k)) k (are.last (omega (arith, h)))) in
            subst (λ (l : List ℕ). least l ≤ slice_index cuts c) (sym (drop_all (suc c) cuts (omega (arith, long_cuts, l)))) (omega (arith, at, some))
      ] in
      ((low, let f = few_cut (level_at levels c) in omega (arith, at, f)), subst (λ (l : List ℕ). AreSizes c l cuts) e (sizes_are c (omega (arith, h))))

  -- from a place on, of so many more
  pub levels_are : (more k : ℕ) → k + more ≡ n → AreAfter (take k levels) (drop k cuts) levels
  levels_are zero k e =
      let all = take_all k levels (omega (arith, e, are.long)) in
      subst (λ (l : List ℕ). AreAfter (take k levels) l levels) (sym (drop_all k cuts (omega (arith, long_cuts, e)))) (sym all)
  levels_are (suc more) k e =
      let l : k < length levels = omega (arith, e, are.long) in
      let n = length-take-le k levels (omega (arith, l)) in
      let rest = levels_are more (k + 1) (omega (arith, e)) in
      let here = subst (λ (xs : List ℤ). AreAfter xs (drop (k + 1) cuts) levels) (take_more levels k (pos 0) l) rest in
      let level : IsLevel (slice_index cuts k) (level_at levels k) = (sym (cut_at levels k), are.small k (omega (arith, e))) in
      subst (λ (xs : List ℕ). AreAfter (take k levels) xs levels) (sym (drop_more cuts k 0 (omega (arith, long_cuts, e))))
      (subst (λ (m : ℕ). IsLevel (slice_index cuts k) (level_at levels m)) (sym n) level, subst (λ (m : ℕ). AreAfter (take k levels ++ level_at levels m ∷ []) (drop (k + 1) cuts) levels) (sym n) here)

-- sizes and then levels
abbrev AreBoth : ℕ → List ℤ → Type 0
AreBoth n levels = AreSizes n [] (map cut_level levels) × AreAfter [] (map cut_level levels) levels

both_are : (n : ℕ) (levels : List ℤ) → AreCounted n levels → AreBoth n levels
both_are n levels are =
    let cuts = map cut_level levels in
    (subst (λ (l : List ℕ). AreSizes n l cuts) (drop_all n cuts (let e = length-map levels cut_level in let l = are.long in omega (arith, e, l))) (sizes_are n levels are n (omega arith)), levels_are n levels are n 0 (omega arith))

are_both : (n : ℕ) (levels : List ℤ) → AreBoth n levels → AreCounted n levels
are_both n levels h =
    let cuts = map cut_level levels in
    let m = length-map levels cut_level in
    let l = long_of n [] cuts h.0 in
    record {
      long = omega (arith, m, l);
      small = λ k b. small_after [] cuts levels h.1 k (omega arith) (omega (arith, l, b));
      last = last n h.0;
    }
  where
    last : (n : ℕ) → AreSizes n [] (map cut_level levels) → 0 < n → 1 ≤ unsigned_abs (level_at levels (n - 1))
    last zero s b = absurd (omega (arith, b))
    last (suc c) s b =
        let at = cut_at levels c in
        let first = s.0.0 in
        let e : suc c - 1 ≡ c = omega arith in
        subst (λ (k : ℕ). 1 ≤ unsigned_abs (level_at levels k)) (sym e) (cut_some (level_at levels c) (omega (arith, at, first)))

pub counted_read : (base range : ℕ → List ℕ → Distribution) (sign : ℕ → Distribution) → AreCoders base range → ((k : ℕ) → HasSymbols (sign k) 2) → (n : ℕ) → Reads HasSymbols (levels_element base range sign n) (AreCounted n) (69 * n)
counted_read base range sign are has n =
    reads_as HasSymbols (levels_element base range sign n) (AreBoth n) (AreCounted n) (5 * n + 64 * n) (69 * n) (are_both n) (both_are n) (omega arith)
    (after_reads HasSymbols (sizes_after base range n []) (levels_after sign []) (map cut_level) (AreSizes n []) (AreAfter []) (5 * n) (64 * n) (λ sizes ls p h. cuts_after [] sizes ls h) (sizes_read base range are n [])
    (λ sizes p. reads_as HasSymbols (levels_after sign [] sizes) (AreAfter [] sizes) (AreAfter [] sizes) (64 * length sizes) (64 * n) (λ ls h. h) (λ ls h. h) (let l = long_of n [] sizes p in omega (arith, l)) (levels_read sign has [] sizes (few_of n [] sizes p tt))))
