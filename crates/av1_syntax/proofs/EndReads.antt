-- The end of a transform block has one path to each number.
use Rattle.std.proofs.Common.{◌≡◌, ℕ, zero, suc, ◌+◌, ◌-◌, ◌*◌, ◌/◌, ◌%◌, ◌^◌, ◌<◌, ◌≤◌, [], List, ◌++◌, Bool, true, false, Some, None, if◌then◌else◌, nat_lt, nat_le, refl, sym, ap, subst, ◌∙◌, arith, inl, inr}
use Rattle.std.proofs.lemmas.Bool.{cases_lt}
use Rattle.std.proofs.lemmas.Bool.Decides.{nat_tests}
use Rattle.std.proofs.lemmas.List.{append-nil}
use Rattle.std.proofs.lemmas.Nat.{pow-add, pow_pos, div-mul-add, mod-mul-add, div-add-mod'}
use Rattle.std.proofs.Math.Nat.{mod-lt, div-lt_iff_lt-mul}
use Rattle.std.proofs.Math.Pow.{pow_mono}
use Rattle.av1_cdf.specs.Distribution.{Distribution, HasSymbols}
use Rattle.av1_cdf.proofs.Cells.{lt_is, lt_not, le_is}
use Rattle.av1_coef.proofs.EndClasses.{end_as}
use Rattle.av1_geometry.specs.CoefficientTables.{eob_class, group_start, offset_bits}
use Rattle.av1_model.specs.Element.{Element, known, symbol, after, renamed, tested, Asks, Reads}
use Rattle.av1_model.specs.Syntax.{Leads}
use Rattle.av1_model.specs.Syntax.Syntax.{Bad, Done}
use Rattle.av1_model.proofs.ElementLaws.{never, done_apart, asks_bind, known_reads, reads_as, symbol_reads, after_reads, renamed_reads}
use Rattle.av1_model.proofs.TreeLaws.{leads_then, leads_apart}
use Rattle.av1_syntax.specs.EndOfBlock.{below, extra_element, end_in, class_element, end_among}
use Rattle.av1_syntax.specs.Literals.{literal}
use Rattle.av1_syntax.proofs.Readings.{literals_read}
use Rattle.av1_syntax.proofs.Values.{told_below, past, below as below_is}

test_told : {A : Type 0} (b : Bool) (x a : A) (ss : List ℕ) → Leads {Q = Distribution} (if b then Done x else Bad) ss a → (b ≡ true) × (ss ≡ []) × (x ≡ a)
test_told true x a ss h = let d = done_apart x a ss h in (refl, d.0, d.1)
test_told false x a ss h = absurd (never ss a h)

test_asks : {A : Type 0} (b : Bool) (x : A) → Asks HasSymbols (if b then Done x else Bad)
test_asks true x = tt
test_asks false x = tt

-- those of the values that pass a test
pub tested_both : {A : Type 0} (test : A → Bool) (e : Element Distribution A) (P : A → Type 0) (most : ℕ) → Reads HasSymbols e P most → Reads HasSymbols (tested test e) (λ a. P a × (test a ≡ true)) most
tested_both {A} test e P most r = record {
  leads = λ a h.
      subst (λ ss. Leads (tested test e).tree ss a) (append-nil (e.symbols a))
      (leads_then e.tree (λ a. if test a then Done a else Bad) (e.symbols a) [] a a (r.leads a h.0) (ap (λ (b : Bool). if b then Done a else Bad) h.1));
  one_path = λ a ss h.
      let x = leads_apart e.tree (λ a. if test a then Done a else Bad) ss a h in
      let d = test_told (test x.0) x.0 a x.2 x.5 in
      let p = r.one_path x.0 x.1 x.4 in
      ((subst P d.2 p.0, ap test (sym d.2) ∙ d.0), x.3 ∙ ap (λ l. x.1 ++ l) d.1 ∙ append-nil x.1 ∙ p.1 ∙ ap e.symbols d.2);
  asks = asks_bind HasSymbols e.tree (λ a. if test a then Done a else Bad) r.asks (λ a ss h. test_asks (test a) a);
  few = λ a h. r.few a h.0;
}

pub halves : (low : ℕ) → 2 ^ suc low ≡ 2 ^ low * 2
halves low = let e : suc low ≡ low + 1 = omega arith in ap (λ k. 2 ^ k) e ∙ pow-add 2 low 1

bit_at : (s b : ℕ) → below 2 s ≡ Some b → (s < 2) × (s ≡ b)
bit_at s b h = let t = told_below 2 s (Some s) b h in (t.0, let e = t.1 in let f : s ≡ b = cc in f)

bit_reads : (q : Distribution) → HasSymbols q 2 → Reads HasSymbols (symbol q (below 2) (λ b. b)) (λ b. b < 2) 1
bit_reads q has =
    reads_as HasSymbols (symbol q (below 2) (λ b. b)) (λ b. below 2 b ≡ Some b) (λ b. b < 2) 1 1 (λ b h. (bit_at b b h).0) (λ b l. below_is 2 b (Some b) l) (omega arith)
    (symbol_reads HasSymbols q 2 (below 2) (λ b. b) has (λ s l. past 2 s (Some s) l) (λ s b h. sym (bit_at s b h).1))

-- a number by its highest bit and the others
pub joined : (e b w : ℕ) → e / w ≡ b → b * w + e % w ≡ e
joined e b w h = ap (λ k. k * w + e % w) (sym h) ∙ div-add-mod' e w

pub extra_reads : (q : Distribution) (bits : ℕ) → (1 ≤ bits → HasSymbols q 2) → Reads HasSymbols (extra_element q bits) (λ e. e < 2 ^ bits) bits
extra_reads q zero has = reads_as HasSymbols (known 0) (λ e. e ≡ 0) (λ e. e < 2 ^ zero) 0 zero (λ e h. omega (arith, h)) (λ e l. omega (arith, l)) (omega arith) (known_reads HasSymbols 0)
extra_reads q (suc low) has =
    let w = 2 ^ low in
    let p = pow_pos low in
    reads_as HasSymbols (extra_element q (suc low)) (λ e. (e / w < 2) × (e / w ≡ e / w)) (λ e. e < 2 ^ suc low) (1 + low) (suc low)
    (λ e h. let b = (div-lt_iff_lt-mul {k = w} {x = e} {y = 2} p).0 h.0 in omega (arith, b, halves low))
    (λ e l. ((div-lt_iff_lt-mul {k = w} {x = e} {y = 2} p).1 (omega (arith, l, halves low)), refl)) (omega arith)
    (after_reads HasSymbols (symbol q (below 2) (λ b. b)) (λ b. renamed (literal low) (λ v. b * 2 ^ low + v) (λ e. e % 2 ^ low)) (λ e. e / w) (λ b. b < 2) (λ b e. e / w ≡ b) 1 low (λ b e l h. h) (bit_reads q (has (omega arith)))
    (λ b l. renamed_reads HasSymbols (literal low) (λ v. b * w + v) (λ e. e % w) (λ v. v < w) (λ e. e / w ≡ b) low (λ e h. (mod-lt e p, joined e b w h)) (λ v s. (div-mul-add b w v s, mod-mul-add b w v s)) (literals_read low)))

-- from a number on
from_reads : (q : Distribution) (g bits : ℕ) → (1 ≤ bits → HasSymbols q 2) → Reads HasSymbols (renamed (extra_element q bits) (λ e. g + e) (λ n. n - g)) (λ n. (g ≤ n) × (n - g < 2 ^ bits)) bits
from_reads q g bits has =
    renamed_reads HasSymbols (extra_element q bits) (λ e. g + e) (λ n. n - g) (λ e. e < 2 ^ bits) (λ n. (g ≤ n) × (n - g < 2 ^ bits)) bits (λ n h. (h.1, let l = h.0 in omega (arith, l)))
    (λ e h. let back : g + e - g ≡ e = omega arith in ((omega arith, subst (λ k. k < 2 ^ bits) (sym back) h), back)) (extra_reads q bits has)

start_small : (t : ℕ) → t < 2 → group_start t ≡ t
start_small t l = ap (λ (b : Bool). if b then t else 2 ^ (t - 2) + 1) (lt_is t 2 l)

start_large : (t : ℕ) → 2 ≤ t → group_start t ≡ 2 ^ (t - 2) + 1
start_large t l = ap (λ (b : Bool). if b then t else 2 ^ (t - 2) + 1) (lt_not t 2 l)

-- an end of a class
abbrev IsEnd : ℕ → ℕ → Type 0
IsEnd t n = (group_start t ≤ n) × (n - group_start t < 2 ^ offset_bits t)

doubled : (t : ℕ) → 2 ≤ t → 2 ^ (t - 1) ≡ 2 ^ (t - 2) * 2
doubled t l = let e : t - 1 ≡ t - 2 + 1 = omega (arith, l) in ap (λ k. 2 ^ k) e ∙ pow-add 2 (t - 2) 1

at_most : (t n : ℕ) → 1 ≤ t → IsEnd t n → n ≤ 2 ^ (t - 1)
at_most t n s h = elim (cases_lt t 2) [
  | inl l ↦
      let one : t ≡ 1 = omega (arith, s, l) in
      let e = start_small t l in
      let p : 2 ^ (t - 2) ≡ 2 ^ 0 = ap (λ k. 2 ^ k) (let z : t - 2 ≡ 0 = omega (arith, one) in z) in
      let r : 2 ^ (t - 1) ≡ 2 ^ 0 = ap (λ k. 2 ^ k) (let z : t - 1 ≡ 0 = omega (arith, one) in z) in
      let a = subst (λ g. g ≤ n) e h.0 in
      let b = subst (λ g. n - g < 2 ^ (t - 2)) e h.1 in
      omega (arith, a, b, p, r, one)
  | inr l ↦
      let e = start_large t l in
      let a = subst (λ g. g ≤ n) e h.0 in
      let b = subst (λ g. n - g < 2 ^ (t - 2)) e h.1 in
      let d = doubled t l in
      omega (arith, a, b, d)
]

above : (t n : ℕ) → 2 ≤ t → IsEnd t n → 2 ^ (t - 2) < n
above t n l h = let a = subst (λ g. g ≤ n) (start_large t l) h.0 in omega (arith, a)

apart : (t u n : ℕ) → 1 ≤ t → t < u → IsEnd t n → IsEnd u n → ⊥
apart t u n s l h k =
    let a = at_most t n s h in
    let b = above u n (omega (arith, s, l)) k in
    let m = pow_mono {i = t - 1} {j = u - 2} (omega (arith, s, l)) in
    omega (arith, a, b, m)

one_class : (t u n : ℕ) → 1 ≤ t → 1 ≤ u → IsEnd t n → IsEnd u n → t ≡ u
one_class t u n s r h k = elim (cases_lt t u) [
  | inl l ↦ absurd (apart t u n s l h k)
  | inr m ↦ elim (cases_lt u t) [
    | inl l ↦ absurd (apart u t n r l k h)
    | inr l ↦ omega (arith, m, l)
  ]
]

some_end : (t n : ℕ) → 1 ≤ t → IsEnd t n → 1 ≤ n
some_end t n s h = elim (cases_lt t 2) [
  | inl l ↦ let a = subst (λ g. g ≤ n) (start_small t l) h.0 in omega (arith, a, s)
  | inr l ↦ let b = above t n l h in omega (arith, b)
]

few_ends : (t n : ℕ) → 1 ≤ t → t ≤ 11 → IsEnd t n → n ≤ 1024
few_ends t n s f h = let a = at_most t n s h in let m = pow_mono {i = t - 1} {j = 10} (omega (arith, f)) in omega (arith, a, m)

-- the class of an end
class_told : (t n : ℕ) → 1 ≤ t → t ≤ 11 → IsEnd t n → eob_class n ≡ t
class_told t n s f h =
    let e = end_as n (eob_class n) refl (some_end t n s h) (few_ends t n s f h) in
    one_class (eob_class n) t n e.least s (e.from, e.few) h

-- an end below a power of two is of one of the first classes
pub class_few : (n k : ℕ) → 1 ≤ n → n ≤ 1024 → n ≤ 2 ^ k → eob_class n ≤ k + 1
class_few n k some few h =
    let e = end_as n (eob_class n) refl some few in
    elim (cases_lt (k + 1) (eob_class n)) [
      | inr l ↦ l
      | inl l ↦
          let b = above (eob_class n) n (omega (arith, l)) (e.from, e.few) in
          let m = pow_mono {i = k} {j = eob_class n - 2} (omega (arith, l)) in
          absurd (omega (arith, b, m, h))
    ]

class_at : (n s t : ℕ) → (if nat_lt s n then Some (s + 1) else None) ≡ Some t → (s < n) × (s + 1 ≡ t)
class_at n s t h = let k = told_below n s (Some (s + 1)) t h in (k.0, let e = k.1 in let f : s + 1 ≡ t = cc in f)

abbrev IsClass : ℕ → ℕ → Type 0
IsClass n t = (1 ≤ t) × (t ≤ n)

class_reads : (q : Distribution) (n : ℕ) → HasSymbols q n → Reads HasSymbols (class_element q n) (IsClass n) 1
class_reads q n has =
    let value = λ (s : ℕ). if nat_lt s n then Some (s + 1) else None in
    reads_as HasSymbols (class_element q n) (λ t. value (t - 1) ≡ Some t) (IsClass n) 1 1 (λ t h. let k = class_at n (t - 1) t h in (omega (arith, k), omega (arith, k)))
    (λ t h. let e : t - 1 + 1 ≡ t = omega (arith, h.0) in below_is n (t - 1) (Some (t - 1 + 1)) (omega (arith, h.0, h.1)) ∙ ap Some e) (omega arith)
    (symbol_reads HasSymbols q n value (λ t. t - 1) has (λ s l. past n s (Some (s + 1)) l) (λ s t h. let k = class_at n s t h in omega (arith, k)))

le_of : (a b : ℕ) → nat_le a b ≡ true → a ≤ b
le_of a b h = grind (arith, nat_tests)

pub among_reads : (q : Distribution) (n : ℕ) (highest : ℕ → Distribution) (most : ℕ) → n ≤ 11 → HasSymbols q n → ((t : ℕ) → 3 ≤ t → t ≤ 11 → HasSymbols (highest t) 2) → most ≤ 1024 →
    ((end : ℕ) → 1 ≤ end → end ≤ most → eob_class end ≤ n) → Reads HasSymbols (end_among q n highest most) (λ end. (1 ≤ end) × (end ≤ most)) 10
among_reads q n highest most few has bits area fits =
    reads_as HasSymbols (end_among q n highest most) (λ end. (IsClass n (eob_class end) × IsEnd (eob_class end) end) × (nat_le end most ≡ true)) (λ end. (1 ≤ end) × (end ≤ most)) 10 10
    (λ end h. (some_end (eob_class end) end h.0.0.0 h.0.1, le_of end most h.1))
    (λ end h. let e = end_as end (eob_class end) refl h.0 (omega (arith, h.1, area)) in (((e.least, fits end h.0 h.1), (e.from, e.few)), le_is end most h.1)) (omega arith)
    (tested_both (λ end. nat_le end most) (after (class_element q n) (end_in highest) eob_class) (λ end. IsClass n (eob_class end) × IsEnd (eob_class end) end) 10
    (after_reads HasSymbols (class_element q n) (end_in highest) eob_class (IsClass n) IsEnd 1 9 (λ t end p r. class_told t end p.0 (omega (arith, p.1, few)) r) (class_reads q n has)
    (λ t p. reads_as HasSymbols (end_in highest t) (IsEnd t) (IsEnd t) (offset_bits t) 9 (λ n h. h) (λ n h. h) (omega (arith, p.1, few)) (from_reads (highest t) (group_start t) (offset_bits t) (λ l. bits t (omega (arith, l)) (omega (arith, p.1, few)))))))
