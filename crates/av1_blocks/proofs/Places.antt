-- What changes in places come to.
use Rattle.std.proofs.Common.{◌≡◌, ℕ, zero, suc, ◌+◌, ◌-◌, ◌*◌, ◌/◌, ◌%◌, ◌<◌, ◌≤◌, List, [], ◌∷◌, ◌&&◌, nat_eq, nat_lt, if◌then◌else◌, length, get_or, set, refl, sym, ap, ◌∙◌, arith, inl, inr, Bool, true, false}
use Rattle.std.proofs.Math.Nat.{mul-le-mul_right}
use Rattle.std.proofs.lemmas.Bool.{cases_eq, cases_lt}
use Rattle.std.proofs.lemmas.Bool.Decides.{nat_tests}
use Rattle.std.specs.List.{between}
use Rattle.std.proofs.lemmas.List.Edits.{get_or-between}
use Rattle.av1_blocks.specs.Places.{changed_from, changed, within, in_area, filled, put, first, changed_at}

twice_from : {A : Type 0} (f g : ℕ → A → A) (n : ℕ) (xs : List A) → changed_from f n (changed_from g n xs) ≡ changed_from (λ k x. f k (g k x)) n xs
twice_from f g n [] = refl
twice_from f g n (x ∷ xs) = ap (λ ys. f n (g n x) ∷ ys) (twice_from f g (suc n) xs)

same_from : {A : Type 0} (f g : ℕ → A → A) (n : ℕ) (xs : List A) → ((k : ℕ) (x : A) → n ≤ k → f k x ≡ g k x) → changed_from f n xs ≡ changed_from g n xs
same_from f g n [] e = refl
same_from f g n (x ∷ xs) e =
    let first : f n x ≡ g n x = e n x (omega arith) in
    let rest = same_from f g (suc n) xs (λ k y h. e k y (omega arith)) in cc

-- a change over another
pub twice : {A : Type 0} (f g : ℕ → A → A) (xs : List A) → changed f (changed g xs) ≡ changed (λ k x. f k (g k x)) xs
unfolding changed
twice f g xs = twice_from f g 0 xs

pub same : {A : Type 0} (f g : ℕ → A → A) (xs : List A) → ((k : ℕ) (x : A) → f k x ≡ g k x) → changed f xs ≡ changed g xs
unfolding changed
same f g xs e = same_from f g 0 xs (λ k x h. e k x)

-- a change that hides another
pub hidden : {A : Type 0} (f g : ℕ → A → A) (xs : List A) → ((k : ℕ) (x : A) → f k (g k x) ≡ f k x) → changed f (changed g xs) ≡ changed f xs
hidden f g xs e = twice f g xs ∙ same (λ k x. f k (g k x)) f xs e

length_from : {A : Type 0} (f : ℕ → A → A) (n : ℕ) (xs : List A) → length (changed_from f n xs) ≡ length xs
length_from f n [] = refl
length_from f n (x ∷ xs) = ap suc (length_from f (suc n) xs)

pub length-changed : {A : Type 0} (f : ℕ → A → A) (xs : List A) → length (changed f xs) ≡ length xs
unfolding changed
length-changed f xs = length_from f 0 xs

at_from : {A : Type 0} (f : ℕ → A → A) (n : ℕ) (xs : List A) (k : ℕ) (d : A) → k < length xs → get_or (changed_from f n xs) k d ≡ f (n + k) (get_or xs k d)
at_from f n [] k d h = absurd (omega arith)
at_from f n (x ∷ xs) zero d h = ap (λ m. f m x) (omega arith)
at_from f n (x ∷ xs) (suc k) d h = at_from f (suc n) xs k d (omega arith) ∙ ap (λ m. f m (get_or xs k d)) (omega arith)

-- what stands at a place
pub get_or-changed : {A : Type 0} (f : ℕ → A → A) (xs : List A) (k : ℕ) (d : A) → k < length xs → get_or (changed f xs) k d ≡ f k (get_or xs k d)
unfolding changed
get_or-changed f xs k d h = at_from f 0 xs k d h ∙ ap (λ m. f m (get_or xs k d)) (omega arith)

set_from : {A : Type 0} (f : ℕ → A → A) (n : ℕ) (xs : List A) (k : ℕ) (v : A) → set (changed_from f n xs) k v ≡ changed_from (λ j x. if nat_eq j (n + k) then v else f j x) n xs
set_from f n [] k v = refl
set_from f n (x ∷ xs) zero v =
    let first : (if nat_eq n (n + 0) then v else f n x) ≡ v = grind (arith, nat_tests) in
    let rest = same_from f (λ j x. if nat_eq j (n + 0) then v else f j x) (suc n) xs (λ j x h. grind (arith, nat_tests)) in cc
set_from f n (x ∷ xs) (suc k) v =
    let first : (if nat_eq n (n + suc k) then v else f n x) ≡ f n x = grind (arith, nat_tests) in
    let rest = set_from f (suc n) xs k v ∙ same_from (λ j x. if nat_eq j (suc n + k) then v else f j x) (λ j x. if nat_eq j (n + suc k) then v else f j x) (suc n) xs (λ j x h. ap (λ m. if nat_eq j m then v else f j x) (omega arith)) in cc

-- one place more
pub set-changed : {A : Type 0} (f : ℕ → A → A) (xs : List A) (k : ℕ) (v : A) → set (changed f xs) k v ≡ changed (λ j x. if nat_eq j k then v else f j x) xs
unfolding changed
set-changed f xs k v = set_from f 0 xs k v ∙ same_from (λ j x. if nat_eq j (0 + k) then v else f j x) (λ j x. if nat_eq j k then v else f j x) 0 xs (λ j x h. ap (λ m. if nat_eq j m then v else f j x) (omega arith))

-- a change of nothing
none_from : {A : Type 0} (f : ℕ → A → A) (n : ℕ) (xs : List A) → ((k : ℕ) (x : A) → f k x ≡ x) → changed_from f n xs ≡ xs
none_from f n [] e = refl
none_from f n (x ∷ xs) e = let first = e n x in let rest = none_from f (suc n) xs e in cc

pub changed-none : {A : Type 0} (f : ℕ → A → A) (xs : List A) → ((k : ℕ) (x : A) → f k x ≡ x) → changed f xs ≡ xs
unfolding changed
changed-none f xs e = none_from f 0 xs e

pub filled-none : {A : Type 0} (from : ℕ) (v : A) (xs : List A) → filled from from v xs ≡ xs
filled-none from v xs = changed-none _ xs (λ k x. grind (arith, nat_tests))

pub filled-more : {A : Type 0} (from k : ℕ) (v : A) (xs : List A) → from ≤ k → set (filled from k v xs) k v ≡ filled from (k + 1) v xs
filled-more from k v xs h = set-changed _ xs k v ∙ same _ _ xs (λ j x. grind (arith, nat_tests))

-- what is put hides what was filled in the same places
pub put-filled : (from count : ℕ) (items : List ℕ) (a b v : ℕ) (xs : List ℕ) → from ≤ a → b ≤ from + count → put from count items (filled a b v xs) ≡ put from count items xs
put-filled from count items a b v xs h e = hidden _ _ xs (λ k x. grind (arith, nat_tests))

pub between-none : {A : Type 0} (from : ℕ) (f : ℕ → A → A) (xs : List A) → changed (λ k x. if within from from k then f k x else x) xs ≡ xs
between-none from f xs = changed-none _ xs (λ k x. grind (arith, nat_tests))

pub put-none : (from : ℕ) (items xs : List ℕ) → changed (λ j x. if within from (from + 0) j then get_or items (j - from) 0 else x) xs ≡ xs
put-none from items xs = changed-none _ xs (λ k x. grind (arith, nat_tests))

put_step : (from k j x : ℕ) (items : List ℕ) → (if nat_eq j (from + k) then get_or items k 0 else (if within from (from + k) j then get_or items (j - from) 0 else x)) ≡ (if within from (from + (k + 1)) j then get_or items (j - from) 0 else x)
put_step from k j x items = elim (cases_eq j (from + k)) [
  | inl e ↦ let same : j - from ≡ k = omega arith in let there = ap (λ m. get_or items m 0) same in grind (arith, nat_tests)
  | inr n ↦ grind (arith, nat_tests)
]

pub put-more : (from k : ℕ) (items xs : List ℕ) → set (changed (λ j x. if within from (from + k) j then get_or items (j - from) 0 else x) xs) (from + k) (get_or items k 0) ≡ changed (λ j x. if within from (from + (k + 1)) j then get_or items (j - from) 0 else x) xs
put-more from k items xs = set-changed _ xs (from + k) (get_or items k 0) ∙ same _ _ xs (λ j x. put_step from k j x items)

same_at_from : {A : Type 0} (f g : ℕ → A → A) (n : ℕ) (xs : List A) (d : A) → ((k : ℕ) → k < length xs → f (n + k) (get_or xs k d) ≡ g (n + k) (get_or xs k d)) → changed_from f n xs ≡ changed_from g n xs
same_at_from f g n [] d e = refl
same_at_from f g n (x ∷ xs) d e =
    let first : f n x ≡ g n x = ap (λ m. f m x) (omega arith) ∙ e 0 (omega arith) ∙ ap (λ m. g m x) (omega arith) in
    let rest = same_at_from f g (suc n) xs d (λ k h. ap (λ m. f m (get_or xs k d)) (omega arith) ∙ e (suc k) (omega arith) ∙ ap (λ m. g m (get_or xs k d)) (omega arith)) in cc

-- changes that agree on the items that are there
pub same_at : {A : Type 0} (f g : ℕ → A → A) (xs : List A) (d : A) → ((k : ℕ) → k < length xs → f k (get_or xs k d) ≡ g k (get_or xs k d)) → changed f xs ≡ changed g xs
unfolding changed
same_at f g xs d e = same_at_from f g 0 xs d (λ k h. ap (λ m. f m (get_or xs k d)) (omega arith) ∙ e k h ∙ ap (λ m. g m (get_or xs k d)) (omega arith))

between_step : {A : Type 0} (from k j : ℕ) (f : ℕ → A → A) (v x : A) → from ≤ k → (j ≡ k → v ≡ f j x) → (if nat_eq j k then v else (if within from k j then f j x else x)) ≡ (if within from (k + 1) j then f j x else x)
between_step from k j f v x h e = elim (cases_eq j k) [
  | inl s ↦ let there = e s in grind (arith, nat_tests)
  | inr n ↦ grind (arith, nat_tests)
]

-- one place more
pub between-more : {A : Type 0} (from k : ℕ) (f : ℕ → A → A) (xs : List A) (d : A) → from ≤ k → k < length xs →
    set (changed (λ j x. if within from k j then f j x else x) xs) k (f k (get_or (changed (λ j x. if within from k j then f j x else x) xs) k d)) ≡ changed (λ j x. if within from (k + 1) j then f j x else x) xs
between-more from k f xs d h l =
    let g = λ (j : ℕ) (x : _). if within from k j then f j x else x in
    let still : (if within from k k then f k (get_or xs k d) else get_or xs k d) ≡ get_or xs k d = grind (arith, nat_tests) in
    let v = get_or-changed g xs k d l ∙ still in
    set-changed g xs k (f k (get_or (changed g xs) k d))
    ∙ same_at _ _ xs d (λ j m. between_step from k j f (f k (get_or (changed g xs) k d)) (get_or xs j d) h
    (λ e. ap (f k) (v ∙ ap (λ i. get_or xs i d) (sym e)) ∙ ap (λ i. f i (get_or xs j d)) (sym e)))

-- the same where the item that was there does not matter
pub given-more : {A : Type 0} (from k : ℕ) (f : ℕ → A) (xs : List A) → from ≤ k → set (changed (λ j x. if within from k j then f j else x) xs) k (f k) ≡ changed (λ j x. if within from (k + 1) j then f j else x) xs
given-more from k f xs h = set-changed _ xs k (f k) ∙ same _ _ xs (λ j x. between_step from k j (λ j x. f j) (f k) x h (λ e. ap f (sym e)))

-- a row more of an area, in rows of so many places
row_more : {A : Type 0} (cols left right top y q m k : ℕ) (f : A → A) (x : A) → m < cols → k ≡ q * cols + m → right ≤ cols → top ≤ y →
    (if within (y * cols + left) (y * cols + right) k then f (if within left right m && within top y q then f x else x) else (if within left right m && within top y q then f x else x))
    ≡ (if within left right m && within top (y + 1) q then f x else x)
row_more cols left right top y q m k f x i e a t =
    elim (cases_lt q y) [
      | inl l ↦ let before = mul-le-mul_right {m = q + 1} {n = y} cols (omega arith) in grind (arith, nat_tests)
      | inr g ↦ elim (cases_eq q y) [
        | inl s ↦ let same : q * cols ≡ y * cols = ap (λ n. n * cols) s in grind (arith, nat_tests)
        | inr n ↦ let later = mul-le-mul_right {m = y + 1} {n = q} cols (omega arith) in grind (arith, nat_tests)
      ]
    ]

pub area-none : {A : Type 0} (cols left right top : ℕ) (f : ℕ → A → A) (xs : List A) → changed (λ k x. if in_area cols left right top top k then f k x else x) xs ≡ xs
area-none cols left right top f xs = changed-none _ xs (λ k x. grind (arith, nat_tests))

pub area-more : {A : Type 0} (cols left right top y : ℕ) (f : ℕ → A → A) (xs : List A) → 0 < cols → right ≤ cols → top ≤ y →
    changed (λ k x. if within (y * cols + left) (y * cols + right) k then f k x else x) (changed (λ k x. if in_area cols left right top y k then f k x else x) xs)
    ≡ changed (λ k x. if in_area cols left right top (y + 1) k then f k x else x) xs
area-more cols left right top y f xs c a t =
    twice _ _ xs ∙ same _ _ xs (λ k x. row_more cols left right top y (k / cols) (k % cols) k (f k) x (omega arith) (omega arith) a t)

pub row_of : (cols right y q m k : ℕ) → m < cols → k ≡ q * cols + m → right ≤ cols → y * cols ≤ k → k < y * cols + right → q ≡ y
row_of cols right y q m k i e a h b =
    elim (cases_lt q y) [
      | inl l ↦ let before = mul-le-mul_right {m = q + 1} {n = y} cols (omega arith) in absurd (omega arith)
      | inr g ↦ elim (cases_eq q y) [
        | inl s ↦ s
        | inr n ↦ let later = mul-le-mul_right {m = y + 1} {n = q} cols (omega arith) in absurd (omega arith)
      ]
    ]

-- in which row a place is
pub in_row : (cols left right y k : ℕ) → 0 < cols → right ≤ cols → within (y * cols + left) (y * cols + right) k ≡ true → (k / cols ≡ y) × (k % cols + y * cols ≡ k)
in_row cols left right y k c a e =
    let after : y * cols + left ≤ k = grind (arith, nat_tests) in
    let before : k < y * cols + right = grind (arith, nat_tests) in
    let row : k / cols ≡ y = row_of cols right y (k / cols) (k % cols) k (omega arith) (omega arith) a (omega (arith, after)) before in
    (row, omega (arith, ap (λ q. q * cols) row))

first_step : {A : Type 0} (n j : ℕ) (f : ℕ → A → A) (v x : A) → (j ≡ n → v ≡ f j x) → (if nat_eq j n then v else (if nat_lt j n then f j x else x)) ≡ (if nat_lt j (n + 1) then f j x else x)
first_step n j f v x e = elim (cases_eq j n) [
  | inl s ↦ let there = e s in grind (arith, nat_tests)
  | inr m ↦ grind (arith, nat_tests)
]

-- one more of the first items
pub first-more : {A : Type 0} (n : ℕ) (f : ℕ → A → A) (xs : List A) (d : A) → n < length xs →
    set (changed (λ j x. if nat_lt j n then f j x else x) xs) n (f n (get_or (changed (λ j x. if nat_lt j n then f j x else x) xs) n d)) ≡ changed (λ j x. if nat_lt j (n + 1) then f j x else x) xs
first-more n f xs d l =
    let g = λ (j : ℕ) (x : _). if nat_lt j n then f j x else x in
    let still : (if nat_lt n n then f n (get_or xs n d) else get_or xs n d) ≡ get_or xs n d = grind (arith, nat_tests) in
    let v = get_or-changed g xs n d l ∙ still in
    set-changed g xs n (f n (get_or (changed g xs) n d))
    ∙ same_at _ _ xs d (λ j m. first_step n j f (f n (get_or (changed g xs) n d)) (get_or xs j d) (λ e. ap (f n) (v ∙ ap (λ i. get_or xs i d) (sym e)) ∙ ap (λ i. f i (get_or xs j d)) (sym e)))

pub first-none : {A : Type 0} (f : ℕ → A → A) (xs : List A) → changed (λ j x. if nat_lt j 0 then f j x else x) xs ≡ xs
first-none f xs = changed-none _ xs (λ k x. grind (arith, nat_tests))

-- what stands at an item's place, put there again
pub changed-same : {A : Type 0} (f : ℕ → A → A) (xs : List A) (d : A) → ((k : ℕ) → k < length xs → f k (get_or xs k d) ≡ get_or xs k d) → changed f xs ≡ xs
changed-same f xs d e = same_at f (λ k x. x) xs d e ∙ changed-none (λ k x. x) xs (λ k x. refl)

taken_at : (from n k : ℕ) (xs : List ℕ) → from + n ≤ length xs → (if within from (from + n) k then get_or (between from (from + n) xs) (k - from) 0 else get_or xs k 0) ≡ get_or xs k 0
taken_at from n k xs h = elim (cases_lt k from) [
  | inl l ↦ grind (arith, nat_tests)
  | inr g ↦ elim (cases_lt k (from + n)) [
    | inl l ↦
        let there = get_or-between xs from (from + n) (k - from) 0 (omega arith) in
        let same : get_or xs (from + (k - from)) 0 ≡ get_or xs k 0 = ap (λ j. get_or xs j 0) (omega arith) in
        grind (arith, nat_tests, there, same)
    | inr m ↦ grind (arith, nat_tests)
  ]
]

-- numbers that are put where they were taken
pub put-taken : (from n : ℕ) (xs : List ℕ) → from + n ≤ length xs → put from n (between from (from + n) xs) xs ≡ xs
put-taken from n xs h = changed-same _ xs 0 (λ k l. taken_at from n k xs h)

at_step : {A : Type 0} (k j : ℕ) (f : A → A) (y x : A) → (j ≡ k → y ≡ x) → (if nat_eq j k then f y else x) ≡ (if nat_eq j k then f x else x)
at_step k j f y x e = elim (cases_eq j k) [
  | inl s ↦ let there = ap f (e s) in grind (arith, nat_tests)
  | inr n ↦ grind (arith, nat_tests)
]

-- a change of the item at one place, as a write
pub set-at : {A : Type 0} (k : ℕ) (f : A → A) (xs : List A) (d : A) → k < length xs → set xs k (f (get_or xs k d)) ≡ changed_at k f xs
set-at k f xs d h =
    let none : changed (λ j x. x) xs ≡ xs = changed-none (λ j x. x) xs (λ j x. refl) in
    ap (λ ys. set ys k (f (get_or xs k d))) (sym none)
    ∙ set-changed (λ j x. x) xs k (f (get_or xs k d))
    ∙ same_at _ _ xs d (λ j l. at_step k j f (get_or xs k d) (get_or xs j d) (λ e. ap (λ i. get_or xs i d) (sym e)))

more_at : {A : Type 0} (n j : ℕ) (f : ℕ → A → A) (x : A) → (if nat_eq j n then f n (if nat_lt j n then f j x else x) else (if nat_lt j n then f j x else x)) ≡ (if nat_lt j (n + 1) then f j x else x)
more_at n j f x = elim (cases_eq j n) [
  | inl s ↦ let there = ap (λ i. f i x) s in grind (arith, nat_tests)
  | inr m ↦ grind (arith, nat_tests)
]

-- one more of the first items, by a change at its place
pub first-more-at : {A : Type 0} (n : ℕ) (f : ℕ → A → A) (xs : List A) → changed_at n (f n) (first n f xs) ≡ first (n + 1) f xs
first-more-at n f xs = twice _ _ xs ∙ same _ _ xs (λ j x. more_at n j f x)

-- a choice by a test is the same where what it gives is
pub when : {A : Type 0} (t : Bool) (a b x : A) → (t ≡ true → a ≡ b) → (if t then a else x) ≡ (if t then b else x)
when true a b x e = e refl
when false a b x e = refl

-- where a place of a row stands in a list that has the area row by row
pub row_places : (cols left right top y k : ℕ) → 0 < cols → right ≤ cols → within (y * cols + left) (y * cols + right) k ≡ true →
    (y - top) * (right - left) + (k - (y * cols + left)) ≡ (k / cols - top) * (right - left) + (k % cols - left)
row_places cols left right top y k c a e =
    let r = in_row cols left right y k c a e in
    ap (λ q. (q - top) * (right - left) + (k - (y * cols + left))) (sym r.0) ∙ ap (λ m. (k / cols - top) * (right - left) + m) (omega (arith, r.1))
