-- Lists that change in some of their places.
use Rattle.std.specs.Prelude.{ℕ, suc, ◌+◌, ◌-◌, ◌*◌, ◌/◌, ◌%◌, List, [], ◌∷◌, Bool, ◌&&◌, nat_eq, nat_le, nat_lt, if◌then◌else◌, slice_index_or}

abbrev pub changed_from : {A : Type 0} → (ℕ → A → A) → ℕ → List A → List A
changed_from f n [] = []
changed_from f n (x ∷ xs) = f n x ∷ changed_from f (suc n) xs

-- each item by its place
unfoldable pub changed : {A : Type 0} → (ℕ → A → A) → List A → List A
changed f xs = changed_from f 0 xs

-- a place is one of those from the first number up to the second
abbrev pub within : ℕ → ℕ → ℕ → Bool
within from to k = nat_le from k && nat_lt k to

-- a place of the columns from left to before right, in the rows from top to before bottom, of rows of so many columns
abbrev pub in_area : ℕ → ℕ → ℕ → ℕ → ℕ → ℕ → Bool
in_area cols left right top bottom k = within left right (k % cols) && within top bottom (k / cols)

-- with this item from one place up to another
abbrev pub filled : {A : Type 0} → ℕ → ℕ → A → List A → List A
filled from to v xs = changed (λ k x. if within from to k then v else x) xs

-- with the first of these numbers, so many, from a place on
abbrev pub put : ℕ → ℕ → List ℕ → List ℕ → List ℕ
put from count items xs = changed (λ k x. if within from (from + count) k then slice_index_or items (k - from) 0 else x) xs

-- with a change of so many first items
abbrev pub first : {A : Type 0} → ℕ → (ℕ → A → A) → List A → List A
first count f xs = changed (λ k x. if nat_lt k count then f k x else x) xs

-- with a change of the item at one place
abbrev pub changed_at : {A : Type 0} → ℕ → (A → A) → List A → List A
changed_at place f xs = changed (λ k x. if nat_eq k place then f x else x) xs

-- the first column of the superblock of a column, of the 1024 that edges have
abbrev pub sb_column : ℕ → ℕ
sb_column x = x % 1024 / 16 * 16
