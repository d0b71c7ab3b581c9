-- Reading a header from bits, row by row.
use Rattle.std.specs.Prelude.{◌≡◌, ℕ, zero, suc, List, [], ◌∷◌, ◌++◌, Bool, true, false, Option, Some, None, option_and_then, Result, Ok, Err, ℤ}
use Rattle.av1_model.specs.Bits.{byte_aligned}
use Rattle.av1_header.specs.Rows.{Rows, Code, su, uncounted, words, told, joined, Began}
use Rattle.av1_header.specs.Rows.Rows.{Done, Flag, Number, Signed}

-- the bits after a word, where they begin with it
abbrev pub after_word : List Bool → List Bool → Option (List Bool)
after_word [] bits = Some bits
after_word (b ∷ word) [] = None
after_word (true ∷ word) (true ∷ bits) = after_word word bits
after_word (false ∷ word) (false ∷ bits) = after_word word bits
after_word (true ∷ word) (false ∷ bits) = None
after_word (false ∷ word) (true ∷ bits) = None

-- n and what is left, where its word was found, and else what another value gives
abbrev pub found : ℕ → Option (List Bool) → Option (ℕ × List Bool) → Option (ℕ × List Bool)
found n (Some rest) other = Some (n, rest)
found n None other = other

-- the value whose word the bits begin with, of those below n, and the bits after it
unfoldable pub decoded_below : ℕ → (ℕ → List Bool) → List Bool → Option (ℕ × List Bool)
decoded_below zero word bits = None
decoded_below (suc n) word bits = found n (after_word (word n) bits) (decoded_below n word bits)

abbrev pub decoded : Code → List Bool → Option (ℕ × List Bool)
decoded code bits = decoded_below code.count code.word bits

-- a value of a row
pub data Value : Type 0 where
  IsFlag : Bool → Value
  IsNumber : ℕ → Value
  IsSigned : ℤ → Value

-- what was read: the rows' values, what they tell, and the bits after them
pub record Taken (A : Type 0) : Type 0 where
  pub values : List Value
  pub told : A
  pub rest : List Bool

abbrev pub with_value : {A : Type 0} → Value → Option (Taken A) → Option (Taken A)
with_value v None = None
with_value v (Some t) = Some (record t { values = v ∷ t.values })

-- reading by the rows, which see the values read so far and no other
abbrev pub read : {S A : Type 0} → Rows S A → List Bool → Option (Taken A)
read (Done a) bits = Some (record { values = []; told = a; rest = bits })
read (Flag name true other value next) [] = None
read (Flag name true other value next) (b ∷ bits) = with_value (IsFlag b) (read (next b) bits)
read (Flag name false other value next) bits = read (next other) bits
read (Number name true other code value next) bits = option_and_then (λ r. with_value (IsNumber r.0) (read (next r.0) r.1)) (decoded code bits)
read (Number name false other code value next) bits = read (next other) bits
read (Signed name true other n value next) bits =
    option_and_then (λ r. with_value (IsSigned (uncounted n r.0)) (read (next (uncounted n r.0)) r.1)) (decoded (su n) bits)
read (Signed name false other n value next) bits = read (next other) bits

-- the values of the rows that are there
abbrev pub values : {S A : Type 0} → Rows S A → S → List Value
values (Done a) s = []
values (Flag name true other value next) s = IsFlag (value s) ∷ values (next (value s)) s
values (Flag name false other value next) s = values (next other) s
values (Number name true other code value next) s = IsNumber (value s) ∷ values (next (value s)) s
values (Number name false other code value next) s = values (next other) s
values (Signed name true other n value next) s = IsSigned (value s) ∷ values (next (value s)) s
values (Signed name false other n value next) s = values (next other) s

-- the bits of a header are read back to the values of its rows and what they tell, whatever follows them
abbrev pub ReadsBack : {S A : Type 0} → Rows S A → S → Type 0
ReadsBack t s = (rest : List Bool) → read t (joined (words t s) ++ rest) ≡ Some (record { values = values t s; told = told t s; rest = rest })

-- the bits grew by all rows of a header, which are read back
pub record Written {S A : Type 0} (t : Rows S A) (s : S) (old new : List Bool) : Type 0 where
  pub grown : new ≡ old ++ joined (words t s)
  pub back : ReadsBack t s

-- the same, and then by zero bits up to a whole byte
pub record WrittenWhole {S A : Type 0} (t : Rows S A) (s : S) (old new : List Bool) : Type 0 where
  pub grown : new ≡ byte_aligned (old ++ joined (words t s))
  pub back : ReadsBack t s

-- what a call leaves: all rows, or the first of them where memory ran out
abbrev pub Writes : {X E S A : Type 0} → Result X E → Rows S A → S → List Bool → List Bool → Type 0
Writes (Ok x) t s old new = Written t s old new
Writes (Err e) t s old new = Began (words t s) old new

-- the same, with zero bits up to a whole byte behind all rows
abbrev pub WritesWhole : {X E S A : Type 0} → Result X E → Rows S A → S → List Bool → List Bool → Type 0
WritesWhole (Ok x) t s old new = WrittenWhole t s old new
WritesWhole (Err e) t s old new = Began (words t s) old new
