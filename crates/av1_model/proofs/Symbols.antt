-- The parts of a distribution's symbols: they tile the range, so exactly one has the bytes.
use Rattle.std.proofs.Common.{◌≡◌, ℕ, zero, suc, ◌+◌, ◌-◌, ◌/◌, ◌<◌, ◌≤◌, ap, sym, subst, refl, ◌∙◌, arith, inl, inr, List, Bool, true, Some, None, length, get_or}
use Rattle.std.proofs.lemmas.Bool.{cases_lt, cases_eq, lt-ltb, le-leb, leb-true, ltb-true, and_from, and_parts, false_from_ne_true, cond_below}
use Rattle.std.proofs.lemmas.Bool.Decides.{nat_tests}
use Rattle.std.proofs.lemmas.List.FromFn.{length-range_with_len, get_or-range_with_len}
use Rattle.std.proofs.lemmas.List.Sums.{position_or_len_is}
use Rattle.std.proofs.lemmas.List.Quantifiers.{position-Some}
use Rattle.std.proofs.Math.Nat.{mul-le-mul_left}
use Rattle.std.specs.Prelude.{slice_index}
use Rattle.std.specs.List.{position_or_len, range_with_len}
use Rattle.av1_model.specs.Interval.{Interval, IsInterval, IsToken, edge, top, bottom, part, leading, Holds, holds}
use Rattle.av1_model.specs.Cdf.{IsCdf, token_of, decoded_symbol}
use Rattle.av1_model.proofs.Tokens.{edges_within, part_wide}

-- the count of a valid distribution
pub last_small : (cdf : List ℕ) (s : ℕ) → IsCdf cdf → s + 1 ≡ length cdf → slice_index cdf s ≤ 32
last_small cdf s v e = let i : length cdf - 1 ≡ s = omega arith in subst (λ k. slice_index cdf k ≤ 32) i v.count

pub entry_small : (cdf : List ℕ) (s : ℕ) → IsCdf cdf → s < length cdf → slice_index cdf s < 32768
entry_small cdf s v h = grind (arith, last_small)

-- each symbol of a valid distribution has a valid token
pub token_valid : (cdf : List ℕ) (s : ℕ) → IsCdf cdf → s < length cdf → IsToken (token_of cdf s)
token_valid cdf s v h = grind (arith, nat_tests, last_small, entry_small)

edge_below : (r f g n m : ℕ) → f ≤ g → g < 32768 → n ≤ m → edge r f n ≤ edge r g m
edge_below r f g n m a b c = let d = mul-le-mul_left {m = f / 64} {n = g / 64} (r / 256) (omega arith) in grind (arith, nat_tests)

-- the part of a later symbol lies below that of an earlier one
pub parts_fall : (cdf : List ℕ) (r j k : ℕ) → IsCdf cdf → j < k → k < length cdf → top r (token_of cdf k) ≤ bottom r (token_of cdf j)
parts_fall cdf r j k v a b = grind (arith, nat_tests, edge_below)

-- the first symbol's part begins where the range does
pub first_part : (cdf : List ℕ) (r : ℕ) → top r (token_of cdf 0) ≡ r
first_part cdf r = refl

-- a symbol's part ends where the next one's begins
pub parts_meet : (cdf : List ℕ) (r s : ℕ) → s + 1 < length cdf → top r (token_of cdf (s + 1)) ≡ bottom r (token_of cdf s)
parts_meet cdf r s h = grind (arith, nat_tests)

-- the last symbol's part ends where the range does
pub last_part : (cdf : List ℕ) (r s : ℕ) → IsCdf cdf → s + 1 ≡ length cdf → bottom r (token_of cdf s) ≡ 0
last_part cdf r s v e = grind (arith, nat_tests, last_small)

pub holds_true : (bytes : List ℕ) (i : Interval) → Holds bytes i → holds bytes i ≡ true
holds_true bytes i h = and_from _ _ (le-leb _ _ h.from) (lt-ltb _ _ h.to)

pub holds_tells : (bytes : List ℕ) (i : Interval) → holds bytes i ≡ true → Holds bytes i
holds_tells bytes i h = let p = and_parts _ _ h in record { from = leb-true _ _ p.0; to = ltb-true _ _ p.1 }

-- bytes are in at most one symbol's part
pub parts_apart : (bytes : List ℕ) (i : Interval) (cdf : List ℕ) (j k : ℕ) → IsInterval i → IsCdf cdf → j < k → k < length cdf → Holds bytes (part i (token_of cdf j)) → Holds bytes (part i (token_of cdf k)) → ⊥
parts_apart bytes i cdf j k w v a b h g =
    omega (arith, w, h, g, parts_fall cdf i.range j k v a b, edges_within i.range (token_of cdf j) w.wide w.below (token_valid cdf j v (omega arith)))

-- so the decoded symbol is the one whose part has the bytes
pub decodes : (bytes : List ℕ) (i : Interval) (cdf : List ℕ) (s : ℕ) → IsInterval i → IsCdf cdf → s < length cdf → Holds bytes (part i (token_of cdf s)) → decoded_symbol bytes i cdf ≡ Some s
decodes bytes i cdf s w v h g =
    let p : ℕ → Bool = λ k. holds bytes (part i (token_of cdf k)) in
    let n : length (range_with_len 0 (length cdf)) ≡ length cdf = length-range_with_len 0 (length cdf) in
    let at : (k : ℕ) → k < length cdf → get_or (range_with_len 0 (length cdf)) k 0 ≡ k = λ k l. get_or-range_with_len 0 (length cdf) k 0 l ∙ omega arith in
    let e : position_or_len p (range_with_len 0 (length cdf)) ≡ s = position_or_len_is p (range_with_len 0 (length cdf)) s 0 (omega arith)
    (λ k l. ap p (at k (omega arith)) ∙ false_from_ne_true _ (λ t. parts_apart bytes i cdf k s w v l h (holds_tells bytes _ t) g))
    (λ l. ap p (at s h) ∙ holds_true bytes _ g) in
    sym (cond_below _ _ (Some (position_or_len p (range_with_len 0 (length cdf)))) None (omega arith)) ∙ ap Some e

-- the parts from symbol s on fill what is left of a range
tiles_from : (cdf : List ℕ) (r x n s : ℕ) → IsCdf cdf → s + n ≡ length cdf → 0 < n → r - top r (token_of cdf s) ≤ x → x < r →
    (k : ℕ) × (k < length cdf) × (r - top r (token_of cdf k) ≤ x) × (x < r - bottom r (token_of cdf k))
tiles_from cdf r x zero s v e h a b = absurd (omega arith)
tiles_from cdf r x (suc n) s v e h a b =
    elim (cases_lt x (r - bottom r (token_of cdf s))) [
      | inl l ↦ (s, omega arith, a, l)
      | inr l ↦ elim (cases_eq n 0) [
        | inl z ↦ absurd (omega (arith, last_part cdf r s v (omega arith)))
        | inr z ↦ tiles_from cdf r x n (s + 1) v (omega arith) (omega arith) (omega (arith, parts_meet cdf r s (omega arith))) b
      ]
    ]

-- each place of a range is in a symbol's part
pub tiles : (cdf : List ℕ) (r x : ℕ) → IsCdf cdf → x < r → (k : ℕ) × (k < length cdf) × (r - top r (token_of cdf k) ≤ x) × (x < r - bottom r (token_of cdf k))
tiles cdf r x v h = tiles_from cdf r x (length cdf) 0 v (omega arith) (omega (arith, v.two)) (omega arith) h

-- where bytes are in the interval, some symbol's part has them
pub symbol_found : (bytes : List ℕ) (i : Interval) (cdf : List ℕ) → IsInterval i → IsCdf cdf → Holds bytes i → (s : ℕ) × (s < length cdf) × Holds bytes (part i (token_of cdf s))
symbol_found bytes i cdf w v h =
    let t = tiles cdf i.range (leading bytes (15 + i.shift) - i.low) v (omega (arith, h)) in
    (t.0, t.1, omega (arith, h, t, w, edges_within i.range (token_of cdf t.0) w.wide w.below (token_valid cdf t.0 v t.1)))

-- and what is decoded has the bytes in its part
pub decoded_tells : (bytes : List ℕ) (i : Interval) (cdf : List ℕ) (s : ℕ) → decoded_symbol bytes i cdf ≡ Some s → (s < length cdf) × Holds bytes (part i (token_of cdf s))
decoded_tells bytes i cdf s e =
    let p : ℕ → Bool = λ k. holds bytes (part i (token_of cdf k)) in
    let n : length (range_with_len 0 (length cdf)) ≡ length cdf = length-range_with_len 0 (length cdf) in
    let t = position-Some p (range_with_len 0 (length cdf)) s 0 e in
    let h : s < length cdf = omega (arith, t.0) in
    let at : get_or (range_with_len 0 (length cdf)) s 0 ≡ s = get_or-range_with_len 0 (length cdf) s 0 h ∙ omega arith in
    (h, holds_tells bytes _ (ap p (sym at) ∙ t.1))

-- a symbol's part is 4 wide at least
pub symbol_wide : (i : Interval) (cdf : List ℕ) (s : ℕ) → IsInterval i → IsCdf cdf → s < length cdf → 4 ≤ (part i (token_of cdf s)).range
symbol_wide i cdf s w v h = part_wide i (token_of cdf s) w (token_valid cdf s v h)

pub next_part : (i : Interval) (cdf : List ℕ) (s : ℕ) → IsInterval i → IsCdf cdf → s + 1 < length cdf → (part i (token_of cdf (s + 1))).low ≡ (part i (token_of cdf s)).low + (part i (token_of cdf s)).range
next_part i cdf s w v h =
    omega (arith, parts_meet cdf i.range s h, edges_within i.range (token_of cdf s) w.wide w.below (token_valid cdf s v (omega arith)))

pub end_part : (i : Interval) (cdf : List ℕ) (s : ℕ) → IsInterval i → IsCdf cdf → s + 1 ≡ length cdf → (part i (token_of cdf s)).low + (part i (token_of cdf s)).range ≡ i.low + i.range
end_part i cdf s w v h =
    omega (arith, last_part cdf i.range s v h, edges_within i.range (token_of cdf s) w.wide w.below (token_valid cdf s v (omega arith)))

-- where bytes are in the interval, there is a decoded symbol
pub decoded_found : (bytes : List ℕ) (i : Interval) (cdf : List ℕ) → IsInterval i → IsCdf cdf → Holds bytes i → (s : ℕ) × (decoded_symbol bytes i cdf ≡ Some s)
decoded_found bytes i cdf w v h = let f = symbol_found bytes i cdf w v h in (f.0, decodes bytes i cdf f.0 w v f.1 f.2)

-- where they are not, there is none
pub decoded_none : (bytes : List ℕ) (i : Interval) (cdf : List ℕ) → IsInterval i → IsCdf cdf → ¬ Holds bytes i → decoded_symbol bytes i cdf ≡ None
decoded_none bytes i cdf w v h =
    elim (decoded_symbol bytes i cdf) as (λ o. (decoded_symbol bytes i cdf ≡ o) → o ≡ None) [
      | None ↦ λ e. refl
      | Some s ↦ λ e.
          let t = decoded_tells bytes i cdf s e in
          absurd (h (omega (arith, t.1, w, edges_within i.range (token_of cdf s) w.wide w.below (token_valid cdf s v t.0))))
    ] refl
