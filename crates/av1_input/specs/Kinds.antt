-- Kinds of JSON values: what stands where none is given, and what a value of the kind is.
use Rattle.std.specs.Prelude.{ℕ, ◌+◌, ◌-◌, ◌^◌, ◌==◌, ◌&&◌, ℤ, pos, negsuc, neg_ℤ, List, [], ◌∷◌, Bool, false, nat_lt}
use Rattle.std.specs.Prelude.{nat_le, int_le, int_lt, replicate, if◌then◌else◌, Option, Some, None, option_and_then}
use Rattle.arrayvec.specs.ArrayVec.{ArrayVec}
use Rattle.serde_json.specs.Data.{Data, null, array, Items, no_items, item}
use Rattle.serde_json.specs.Events.{items_len}
use Rattle.serde_json.specs.Find.{as_bool, as_i64, as_number, as_str}
use Rattle.av1_input.specs.Fitted.{Fitted, Fits, Unfit, ◌>>=◌, or_unfit, fitting, within, index_step}

-- what a value is where its object says nothing of it, and what a JSON value stands for
pub record Kind (A : Type 0) : Type 0 where
  pub none : A
  pub fit : Data → Fitted A

-- ---- numbers, truth values, texts

abbrev pub integer_of : Data → Option ℤ
integer_of d = option_and_then as_i64 (as_number d)

abbrev pub small : ℕ → ℤ → Option ℕ
small bits (pos n) = if nat_lt n (2 ^ bits) then Some n else None
small bits (negsuc n) = None

unfoldable pub fit_whole : ℕ → Data → Fitted ℕ
fit_whole bits d = or_unfit (option_and_then (small bits) (integer_of d))

-- a whole number of so many bits
abbrev pub whole : ℕ → Kind ℕ
whole bits = record { none = 0; fit = fit_whole bits }

abbrev pub small_signed : ℕ → ℤ → Option ℤ
small_signed bits z = if int_le (neg_ℤ (pos (2 ^ (bits - 1)))) z && int_lt z (pos (2 ^ (bits - 1))) then Some z else None

unfoldable pub fit_signed : ℕ → Data → Fitted ℤ
fit_signed bits d = or_unfit (option_and_then (small_signed bits) (integer_of d))

-- a whole number of so many bits, its sign among them
abbrev pub signed : ℕ → Kind ℤ
signed bits = record { none = pos 0; fit = fit_signed bits }

unfoldable pub fit_choice : {A : Type 0} → (ℕ → Option A) → Data → Fitted A
fit_choice numbered d = or_unfit (option_and_then numbered (option_and_then (small 64) (integer_of d)))

-- one of several values, by its number
abbrev pub choice : {A : Type 0} → (ℕ → Option A) → A → Kind A
choice numbered first = record { none = first; fit = fit_choice numbered }

unfoldable pub fit_word : {A : Type 0} → (List ℕ → Option A) → Data → Fitted A
fit_word named d = or_unfit (option_and_then named (as_str d))

-- one of several values, by its name
abbrev pub word : {A : Type 0} → (List ℕ → Option A) → A → Kind A
word named first = record { none = first; fit = fit_word named }

unfoldable pub fit_text : Data → Fitted (List ℕ)
fit_text d = or_unfit (as_str d)

abbrev pub text : Kind (List ℕ)
text = record { none = []; fit = fit_text }

unfoldable pub fit_truth : Data → Fitted Bool
fit_truth d = or_unfit (as_bool d)

abbrev pub truth : Kind Bool
truth = record { none = false; fit = fit_truth }

-- ---- what may be null

unfoldable pub fit_nullable : {A : Type 0} → (Data → Fitted A) → Data → Fitted (Option A)
fit_nullable fit null = Fits None
fit_nullable fit d = do
  x ← fit d
  Fits (Some x)

abbrev pub nullable : {A : Type 0} → Kind A → Kind (Option A)
nullable kind = record { none = None; fit = fit_nullable kind.fit }

-- ---- lists

abbrev pub each : {A : Type 0} → ℕ → (Data → Fitted A) → Items → Fitted (List A)
each n fit no_items = Fits []
each n fit (item d ds) = do
  x ← within (index_step n) (fit d)
  xs ← each (n + 1) fit ds
  Fits (x ∷ xs)

abbrev pub items_of : Data → Fitted Items
items_of (array ds) = Fits ds
items_of _ = Unfit []

-- the items of a list whose length passes the test, which comes before its items
unfoldable pub fit_list : {A : Type 0} → (ℕ → Bool) → (Data → Fitted A) → Data → Fitted (List A)
fit_list len_fits fit d = do
  ds ← items_of d
  _ ← fitting (len_fits (items_len ds))
  each 0 fit ds

-- so many of a kind
abbrev pub exactly : {A : Type 0} → ℕ → Kind A → Kind (List A)
exactly n kind = record { none = replicate n kind.none; fit = fit_list (λ len. len == n) kind.fit }

unfoldable pub fit_up_to : {A : Type 0} → ℕ → (Data → Fitted A) → Data → Fitted (ArrayVec A)
fit_up_to n fit d = do
  xs ← fit_list (λ len. nat_le len n) fit d
  Fits record { items = xs }

-- at most so many of a kind
abbrev pub up_to : {A : Type 0} → ℕ → Kind A → Kind (ArrayVec A)
up_to n kind = record { none = record { items = [] }; fit = fit_up_to n kind.fit }

unfoldable pub fit_any : {A : Type 0} → (Data → Fitted A) → Data → Fitted (List A)
fit_any fit d = do
  ds ← items_of d
  each 0 fit ds

-- any number of a kind
abbrev pub list : {A : Type 0} → Kind A → Kind (List A)
list kind = record { none = []; fit = fit_any kind.fit }

-- ---- the same kind for another type

unfoldable pub fit_as : {A B : Type 0} → (A → B) → (Data → Fitted A) → Data → Fitted B
fit_as made fit d = do
  x ← fit d
  Fits (made x)

abbrev pub seen_as : {A B : Type 0} → (A → B) → Kind A → Kind B
seen_as made kind = record { none = made kind.none; fit = fit_as made kind.fit }
