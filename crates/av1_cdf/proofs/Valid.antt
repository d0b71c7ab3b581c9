-- The CDFs that a tile starts with are valid.
use Rattle.std.proofs.Common.{◌≡◌, ℕ, zero, suc, ◌+◌, ◌-◌, ◌*◌, ◌/◌, ◌<◌, ◌≤◌, List, length, get_or, drop, true, ◌&&◌, ◌||◌, nat_eq, nat_lt, nat_le, None, IsTrue, lit≤, sym, ap, subst, ◌∙◌, zero-add, length-drop, arith}
use Rattle.std.proofs.lemmas.List.{get_or-take, get_or-drop, length-take-le}
use Rattle.std.proofs.lemmas.List.FromFn.{get_or-map-range_with_len, length-map-range_with_len}
use Rattle.std.proofs.lemmas.Nat.{le-div}
use Rattle.std.proofs.lemmas.Bool.Decides.{nat_tests}
use Rattle.std.proofs.Math.Nat.{div-mul-le_self, mul-div_cancel}
use Rattle.std.specs.Prelude.{if◌then◌else◌}
use Rattle.av1_model.specs.Cdf.{IsCdf}
use Rattle.av1_cdf.specs.Layout.{Slot, cell, is_slot, size_of_context}
use Rattle.av1_cdf.specs.Context.{contents, even, uniform_number, uniform_numbers}
use Rattle.av1_cdf.specs.Tables.{table_rules, set_at, set_number, number_fits, valid_set}
use Rattle.av1_geometry.specs.Rules.{first_broken}
use Rattle.av1_cdf.proofs.Cells.{slot_within, slot_short, cell_of_slot}
use Rattle.av1_cdf.proofs.Tested.{holds_at}
use Rattle.av1_cdf.proofs.Sets.{whole, valid}

pub contents_at : (xs : List ℕ) (s : Slot) (k : ℕ) → k < s.len → get_or (contents xs s) k 0 ≡ get_or xs (s.place + k) 0
contents_at xs s k h =
    let n : s.place + s.len - s.place ≡ s.len = omega arith in
    get_or-take (s.place + s.len - s.place) (drop s.place xs) k 0 (omega (arith, n, h)) ∙ get_or-drop s.place xs k 0

pub contents_length : (xs : List ℕ) (s : Slot) → s.place + s.len ≤ length xs → length (contents xs s) ≡ s.len
contents_length xs s h = let d = length-drop s.place xs in length-take-le (s.place + s.len - s.place) (drop s.place xs) (omega (arith, d)) ∙ omega arith

falls_by_steps : (f : ℕ → ℕ) (n j d : ℕ) → ((k : ℕ) → k + 2 < n → f (k + 1) ≤ f k) → j + d + 1 < n → f (j + d) ≤ f j
falls_by_steps f n j zero h l = let e : f (j + 0) ≡ f j = ap f {y = j} (omega arith) in omega (arith, e)
falls_by_steps f n j (suc d) h l =
    let r = falls_by_steps f n j d h (omega arith) in
    let s = h (j + d) (omega arith) in
    let e : f (j + suc d) ≡ f (j + d + 1) = ap f {y = j + d + 1} (omega arith) in
    omega (arith, e)

-- a CDF by its numbers in the context
cdf_by : (xs : List ℕ) (s : Slot) → length xs ≡ 5528 → IsTrue (is_slot s.place s.len) →
    ((k : ℕ) → k + 1 < s.len → get_or xs (s.place + k) 0 < 32768) →
    ((k : ℕ) → k + 2 < s.len → get_or xs (s.place + (k + 1)) 0 ≤ get_or xs (s.place + k) 0) →
    ((k : ℕ) → k + 1 ≡ s.len → get_or xs (s.place + k) 0 ≤ 32) → IsCdf (contents xs s)
cdf_by xs s n h below steps count =
    let w = slot_within s.place s.len h in
    let short = slot_short s.place s.len h in
    let m : length (contents xs s) ≡ s.len = contents_length xs s (omega (arith, w, n)) in
    record {
      two = omega (arith, m, w);
      few = omega (arith, m, short);
      below = λ k l. let e = contents_at xs s k (omega (arith, m)) in let b = below k (omega (arith, m)) in omega (arith, e, b);
      falls = λ j k u l.
          let e = contents_at xs s k (omega (arith, m)) in
          let f = contents_at xs s j (omega (arith, m)) in
          let g = falls_by_steps (λ i. get_or xs (s.place + i) 0) s.len j (k - j) steps (omega (arith, m)) in
          let t : get_or xs (s.place + (j + (k - j))) 0 ≡ get_or xs (s.place + k) 0 = ap (λ i. get_or xs i 0) {x = s.place + (j + (k - j))} (omega arith) in
          omega (arith, e, f, g, t);
      count =
          let last : length (contents xs s) - 1 + 1 ≡ s.len = omega (arith, m, w) in
          let e = contents_at xs s (length (contents xs s) - 1) (omega (arith, last)) in
          let b = count (length (contents xs s) - 1) last in
          omega (arith, e, b);
    }

tests_say : (v p k place len : ℕ) →
    (if nat_lt len 2 then nat_eq v 0 else if nat_le 2 len && nat_eq (k + 1) (place + len) then nat_le v 32 else nat_lt v 32768 && (nat_eq k place || nat_le v p)) ≡ true → 2 ≤ len →
    (k + 1 < place + len → v < 32768) × (k + 1 < place + len → place < k → v ≤ p) × (k + 1 ≡ place + len → v ≤ 32)
tests_say v p k place len h two = (
  λ a. grind (arith, nat_tests),
  λ a b. grind (arith, nat_tests),
  λ a. grind (arith, nat_tests),
)

-- what a test that holds says of a number of a CDF
fits_in : (set : List ℕ) (k : ℕ) (s : Slot) → cell k ≡ s → number_fits set k ≡ true → 2 ≤ s.len → s.place ≤ k → k < s.place + s.len →
    let v = get_or set k 0 in
    (k + 1 < s.place + s.len → v < 32768) × (k + 1 < s.place + s.len → s.place < k → v ≤ get_or set (k - 1) 0) × (k + 1 ≡ s.place + s.len → v ≤ 32)
fits_in set k s e h two u w =
    let v = get_or set k 0 in
    let p = get_or set (k - 1) 0 in
    let t : (if nat_lt s.len 2 then nat_eq v 0 else if nat_le 2 s.len && nat_eq (k + 1) (s.place + s.len) then nat_le v 32 else nat_lt v 32768 && (nat_eq k s.place || nat_le v p)) ≡ true =
    subst (λ (c : Slot). (if nat_lt c.len 2 then nat_eq v 0 else if nat_le 2 c.len && nat_eq (k + 1) (c.place + c.len) then nat_le v 32 else nat_lt v 32768 && (nat_eq k c.place || nat_le v p)) ≡ true) e h in
    tests_say v p k s.place s.len t two

fit_at : (set : List ℕ) → IsTrue (valid_set set) → (k : ℕ) → k < 5528 → number_fits set k ≡ true
unfolding valid_set
fit_at set h k l = holds_at (number_fits set) size_of_context h k l

pub below_four : (quantizer : ℕ) → set_number quantizer < 4
below_four q = grind (arith, nat_tests)

pub tables_start : (sets : List (List ℕ)) (quantizer : ℕ) (s : Slot) → first_broken (table_rules sets) ≡ None → IsTrue (is_slot s.place s.len) →
    IsCdf (contents (set_at sets (set_number quantizer)) s)
tables_start sets quantizer s b h =
    let i = set_number quantizer in
    let o : i < 4 = below_four quantizer in
    let xs = set_at sets i in
    let w = slot_within s.place s.len h in
    let at = fit_at xs (valid sets b i o) in
    let fact = λ (k : ℕ) (l : k < s.len). fits_in xs (s.place + k) s (cell_of_slot s.place s.len (s.place + k) h (omega arith) (omega arith)) (at (s.place + k) (omega (arith, w))) w.1 (omega arith) (omega arith) in
    cdf_by xs s (whole sets b i o) h
    (λ k l. (fact k (omega arith)).0 (omega arith))
    (λ k l.
    let r = (fact (k + 1) (omega arith)).1 (omega arith) (omega arith) in
    let e : get_or xs (s.place + (k + 1) - 1) 0 ≡ get_or xs (s.place + k) 0 = ap (λ j. get_or xs j 0) {x = s.place + (k + 1) - 1} (omega arith) in
    omega (arith, r, e))
    (λ k l. (fact k (omega arith)).2 (omega arith))

-- an even distribution is valid
even_below : (n i : ℕ) → 2 ≤ n → n ≤ 16 → even n i < 32768
even_below n i a b = let e = le-div 1 (32768 * (i + 1)) n (omega arith) (omega arith) in omega (arith, e)

even_falls : (n i : ℕ) → 0 < n → even n (i + 1) ≤ even n i
even_falls n i h =
    let d = div-mul-le_self (32768 * (i + 1)) n in
    let e = le-div (32768 * (i + 1) / n) (32768 * (i + 1 + 1)) n h (omega (arith, d)) in
    omega (arith, e)

even_ends : (n i : ℕ) → i + 1 ≡ n → even n i ≡ 0
even_ends n i e =
    let q : 32768 * (i + 1) / (i + 1) ≡ 32768 = mul-div_cancel 32768 (omega arith) in
    let r : 32768 * (i + 1) / n ≡ 32768 * (i + 1) / (i + 1) = ap (λ m. 32768 * (i + 1) / m) (sym e) in
    omega (arith, q, r)

uniform_at : (k : ℕ) → k < 5528 → get_or uniform_numbers k 0 ≡ uniform_number k
unfolding uniform_numbers
uniform_at k h = get_or-map-range_with_len uniform_number 0 5528 k k 0 h (zero-add k)

pub uniform_whole : length uniform_numbers ≡ 5528
unfolding uniform_numbers
uniform_whole = length-map-range_with_len uniform_number 0 5528

uniform_in : (s : Slot) → IsTrue (is_slot s.place s.len) → (k : ℕ) → k < s.len → get_or uniform_numbers (s.place + k) 0 ≡ even s.len k
uniform_in s h k l =
    let w = slot_within s.place s.len h in
    let c = cell_of_slot s.place s.len (s.place + k) h (omega arith) (omega arith) in
    let e : uniform_number (s.place + k) ≡ even s.len (s.place + k - s.place) = ap (λ (c : Slot). even c.len (s.place + k - c.place)) c in
    let o : even s.len (s.place + k - s.place) ≡ even s.len k = ap (even s.len) {x = s.place + k - s.place} (omega arith) in
    uniform_at (s.place + k) (omega (arith, w)) ∙ e ∙ o

pub uniform_start : (s : Slot) → IsTrue (is_slot s.place s.len) → IsCdf (contents uniform_numbers s)
uniform_start s h =
    let w = slot_within s.place s.len h in
    let short = slot_short s.place s.len h in
    cdf_by uniform_numbers s uniform_whole h
    (λ k l. rw (uniform_in s h k (omega arith)) (even_below s.len k w.1 short))
    (λ k l. rw (uniform_in s h k (omega arith), uniform_in s h (k + 1) (omega arith)) (even_falls s.len k (omega arith)))
    (λ k l. rw (uniform_in s h k (omega arith), even_ends s.len k l) (lit≤ tt))
