-- A part of a list that is written.
use Rattle.std.proofs.Common.{◌≡◌, ℕ, ◌+◌, ◌-◌, ◌<◌, ◌≤◌, List, ◌++◌, length, get_or, take, drop, ◌&&◌, true, false, ◌⊎◌, inl, inr, nat_le, nat_lt, cond, zero-add, sym, ap, ◌∙◌, arith, length-append, length-drop}
use Rattle.std.proofs.lemmas.List.{ext_get_or, get_or-drop, get_or-take, get_or_append_left, get_or-append_right}
use Rattle.std.proofs.lemmas.List.FromFn.{get_or-map-range_with_len, length-map-range_with_len}
use borrow.Table.Elements.{length-take-le}
use Rattle.std.proofs.lemmas.Bool.Decides.{nat_tests, leb_tells}
use Rattle.std.specs.List.{slice_range}
use Rattle.av1_cdf.specs.Context.{written_between}

lt_or_not : (a b : ℕ) → (a < b) ⊎ (b ≤ a)
lt_or_not a b = grind (arith, nat_tests, leb_tells)

pub written_length : (xs : List ℕ) (from to : ℕ) (ws : List ℕ) → length (written_between xs from to ws) ≡ length xs
unfolding written_between
written_length xs from to ws = length-map-range_with_len _ 0 (length xs)

pub written_at : (xs : List ℕ) (from to : ℕ) (ws : List ℕ) (k : ℕ) → k < length xs →
    get_or (written_between xs from to ws) k 0 ≡ cond (nat_le from k && nat_lt k to) (get_or ws (k - from) 0) (get_or xs k 0)
unfolding written_between
written_at xs from to ws k h =
    get_or-map-range_with_len (λ j. cond (nat_le from j && nat_lt j to) (get_or ws (j - from) 0) (get_or xs j 0)) 0 (length xs) k k 0 h (zero-add k)

pub outside : (from to k : ℕ) → (k < from) ⊎ (to ≤ k) → (nat_le from k && nat_lt k to) ≡ false
outside from to k (inl h) = grind (arith, nat_tests)
outside from to k (inr h) = grind (arith, nat_tests)

pub inside : (from to k : ℕ) → from ≤ k → k < to → (nat_le from k && nat_lt k to) ≡ true
inside from to k h l = grind (arith, nat_tests)

-- a number outside the part stays
pub written_stays : (xs : List ℕ) (from to : ℕ) (ws : List ℕ) (k : ℕ) → k < length xs → (k < from) ⊎ (to ≤ k) → get_or (written_between xs from to ws) k 0 ≡ get_or xs k 0
written_stays xs from to ws k h o = written_at xs from to ws k h ∙ ap (λ b. cond b (get_or ws (k - from) 0) (get_or xs k 0)) (outside from to k o)

-- a number of the part is the one written
pub written_there : (xs : List ℕ) (from to : ℕ) (ws : List ℕ) (k : ℕ) → k < length xs → from ≤ k → k < to → get_or (written_between xs from to ws) k 0 ≡ get_or ws (k - from) 0
written_there xs from to ws k h u v = written_at xs from to ws k h ∙ ap (λ b. cond b (get_or ws (k - from) 0) (get_or xs k 0)) (inside from to k u v)

pub written_is : (xs : List ℕ) (from to : ℕ) (ws : List ℕ) → from ≤ to → to ≤ length xs → length ws ≡ to - from →
    written_between xs from to ws ≡ take from xs ++ (ws ++ drop to xs)
written_is xs from to ws a b e =
    let n : length (take from xs) ≡ from = length-take-le from xs (omega arith) in
    let long : length (written_between xs from to ws) ≡ length xs = written_length xs from to ws in
    let whole : length (take from xs ++ (ws ++ drop to xs)) ≡ length xs =
    omega (arith, length-append (take from xs) (ws ++ drop to xs), length-append ws (drop to xs), length-drop to xs) in
    ext_get_or 0 _ _ (long ∙ sym whole) (λ k h.
    let l : k < length xs = omega arith in
    elim (lt_or_not k from) [
      | inl u ↦ written_stays xs from to ws k l (inl u)
          ∙ sym (get_or_append_left (take from xs) (ws ++ drop to xs) 0 k (omega arith) ∙ get_or-take from xs k 0 u)
      | inr u ↦
          let right : get_or (take from xs ++ (ws ++ drop to xs)) k 0 ≡ get_or (ws ++ drop to xs) (k - from) 0 = get_or-append_right (take from xs) (ws ++ drop to xs) from k 0 n u in
          elim (lt_or_not k to) [
            | inl v ↦ written_there xs from to ws k l u v ∙ sym (right ∙ get_or_append_left ws (drop to xs) 0 (k - from) (omega arith))
            | inr v ↦
                let far : get_or (ws ++ drop to xs) (k - from) 0 ≡ get_or (drop to xs) (k - from - (to - from)) 0 = get_or-append_right ws (drop to xs) (to - from) (k - from) 0 e (omega arith) in
                let back : get_or (drop to xs) (k - from - (to - from)) 0 ≡ get_or xs (to + (k - from - (to - from))) 0 = get_or-drop to xs (k - from - (to - from)) 0 in
                let same : get_or xs (to + (k - from - (to - from))) 0 ≡ get_or xs k 0 = ap (λ j. get_or xs j 0) {x = to + (k - from - (to - from))} (omega arith) in
                written_stays xs from to ws k l (inr v) ∙ sym (right ∙ far ∙ back ∙ same)
          ]
    ])

pub part_at : (xs : List ℕ) (from to k : ℕ) → k < to - from → get_or (slice_range xs from to) k 0 ≡ get_or xs (from + k) 0
part_at xs from to k h = get_or-take (to - from) (drop from xs) k 0 h ∙ get_or-drop from xs k 0

part_length : (xs : List ℕ) (from to : ℕ) → to ≤ length xs → length (slice_range xs from to) ≡ to - from
part_length xs from to h = length-take-le (to - from) (drop from xs) (omega (arith, length-drop from xs))

-- a part that is written has the numbers written
pub part_written : (xs : List ℕ) (from to : ℕ) (ws : List ℕ) → from ≤ to → to ≤ length xs → length ws ≡ to - from →
    slice_range (written_between xs from to ws) from to ≡ ws
part_written xs from to ws a b e =
    let new = written_between xs from to ws in
    let long = written_length xs from to ws in
    let count : length (slice_range new from to) ≡ to - from = part_length new from to (omega (arith, long)) in
    ext_get_or 0 _ _ (count ∙ sym e) (λ k h.
    let l : k < to - from = omega (arith, count) in
    let at : get_or ws (from + k - from) 0 ≡ get_or ws k 0 = ap (λ j. get_or ws j 0) {x = from + k - from} (omega arith) in
    part_at new from to k l ∙ written_there xs from to ws (from + k) (omega arith) (omega arith) (omega arith) ∙ at)

-- a part that lies apart stays
pub part_stays : (xs : List ℕ) (from to : ℕ) (ws : List ℕ) (p q : ℕ) → q ≤ length xs → (q ≤ from) ⊎ (to ≤ p) →
    slice_range (written_between xs from to ws) p q ≡ slice_range xs p q
part_stays xs from to ws p q b o =
    let new = written_between xs from to ws in
    let long = written_length xs from to ws in
    let count : length (slice_range new p q) ≡ q - p = part_length new p q (omega (arith, long)) in
    ext_get_or 0 _ _ (count ∙ sym (part_length xs p q b)) (λ k h.
    let l : k < q - p = omega (arith, count) in
    let apart : (p + k < from) ⊎ (to ≤ p + k) = elim o [ inl u ↦ inl (omega arith) | inr u ↦ inr (omega arith) ] in
    part_at new p q k l ∙ written_stays xs from to ws (p + k) (omega arith) apart ∙ sym (part_at xs p q k l))
