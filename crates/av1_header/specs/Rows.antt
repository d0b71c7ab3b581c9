-- A header as its rows. A row has a name, a code and a value, and whether it is there follows from the values before it.
use Rattle.std.specs.Prelude.{◌≡◌, ℕ, zero, suc, ◌^◌, ◌<◌, List, [], ◌∷◌, ◌++◌, Bool, true, false}
use Rattle.std.specs.Prelude.{if◌then◌else◌, ℤ, pos, ◌-◌, ◌+ℤ◌, ◌-ℤ◌, neg_ℤ, ◌≤ℤ◌, ◌<ℤ◌, unsigned_abs}
use Rattle.av1_model.specs.Bits.{bits_of, signed_bits_of, bits_of_bytes}
use Rattle.av1_model.specs.Codes.{quniform, refsubexp, leb128, IsPrefixCode}

-- how many values a code has, and the word of each
pub record Code : Type 0 where
  pub count : ℕ
  pub word : ℕ → List Bool

-- f(n) of the AV1 specification
abbrev pub f : ℕ → Code
f n = record { count = 2 ^ n; word = bits_of n }

-- ns(n) of the AV1 specification
abbrev pub ns : ℕ → Code
ns n = record { count = n; word = quniform n }

-- one number in n bits, and no other
abbrev pub only : ℕ → ℕ → Code
only n v = record { count = 1; word = λ _. bits_of n v }

-- leb128() of the AV1 specification
abbrev pub leb : Code
leb = record { count = 2 ^ 32; word = λ v. bits_of_bytes (leb128 v) }

-- one of n numbers by its distance from r, at widths from k on: decode_unsigned_subexp_with_ref() of the AV1 specification
abbrev pub near : ℕ → ℕ → ℕ → Code
near n k r = record { count = n; word = refsubexp n k r }

-- a number with a sign in n bits, counted from the least, and back
abbrev pub counted : ℕ → ℤ → ℕ
counted n z = unsigned_abs (z +ℤ pos (2 ^ (n - 1)))

abbrev pub uncounted : ℕ → ℕ → ℤ
uncounted n k = pos k -ℤ pos (2 ^ (n - 1))

-- su(n) of the AV1 specification
abbrev pub su : ℕ → Code
su n = record { count = 2 ^ n; word = λ k. signed_bits_of n (uncounted n k) }

-- the value has a word of its own, which begins no other
pub record HasWord (code : Code) (v : ℕ) : Type 0 where
  pub among : v < code.count
  pub prefix : IsPrefixCode code.count code.word

-- a number with a sign is within n bits
abbrev pub InBits : ℕ → ℤ → Type 0
InBits n z = (neg_ℤ (pos (2 ^ (n - 1))) ≤ℤ z) × (z <ℤ pos (2 ^ (n - 1)))

pub record HasSignedWord (n : ℕ) (z : ℤ) : Type 0 where
  pub word : HasWord (su n) (counted n z)
  pub back : uncounted n (counted n z) ≡ z

-- Rows whose values come from an S, and what they tell, an A. A row has a name, whether it is there, what it tells where it isn't, its value, and what follows.
pub data Rows (S A : Type 0) : Type 0 where
  Done : A → Rows S A
  Flag : List ℕ → Bool → Bool → (S → Bool) → (Bool → Rows S A) → Rows S A
  Number : List ℕ → Bool → ℕ → Code → (S → ℕ) → (ℕ → Rows S A) → Rows S A
  Signed : List ℕ → Bool → ℤ → ℕ → (S → ℤ) → (ℤ → Rows S A) → Rows S A

-- one after another
infixl 10 ◌>>=◌
unfoldable pub ◌>>=◌ : {S A B : Type 0} → Rows S A → (A → Rows S B) → Rows S B
(Done a) >>= g = g a
(Flag name there other value next) >>= g = Flag name there other value (λ v. next v >>= g)
(Number name there other code value next) >>= g = Number name there other code value (λ v. next v >>= g)
(Signed name there other n value next) >>= g = Signed name there other n value (λ v. next v >>= g)

-- a bit, where it is there, and else another value
unfoldable pub flag_or : {S : Type 0} → Bool → Bool → List ℕ → (S → Bool) → Rows S Bool
flag_or there other name value = Flag name there other value Done

abbrev pub flag_if : {S : Type 0} → Bool → List ℕ → (S → Bool) → Rows S Bool
flag_if there name value = flag_or there false name value

abbrev pub flag : {S : Type 0} → List ℕ → (S → Bool) → Rows S Bool
flag name value = flag_or true false name value

-- a number in a code, where it is there, and else another value
unfoldable pub number_or : {S : Type 0} → Bool → ℕ → List ℕ → Code → (S → ℕ) → Rows S ℕ
number_or there other name code value = Number name there other code value Done

abbrev pub number_if : {S : Type 0} → Bool → List ℕ → Code → (S → ℕ) → Rows S ℕ
number_if there name code value = number_or there 0 name code value

abbrev pub number : {S : Type 0} → List ℕ → Code → (S → ℕ) → Rows S ℕ
number name code value = number_or true 0 name code value

-- a number that is always the same, in n bits, where it is there
abbrev pub fixed_if : {S : Type 0} → Bool → List ℕ → ℕ → ℕ → Rows S ℕ
fixed_if there name n v = number_or there 0 name (only n v) (λ _. 0)

abbrev pub fixed : {S : Type 0} → List ℕ → ℕ → ℕ → Rows S ℕ
fixed name n v = fixed_if true name n v

-- a number with a sign, where it is there, and else 0
unfoldable pub signed_if : {S : Type 0} → Bool → List ℕ → ℕ → (S → ℤ) → Rows S ℤ
signed_if there name n value = Signed name there (pos 0) n value Done

-- rows over a part of what the values come from
unfoldable pub on : {S T A : Type 0} → (S → T) → Rows T A → Rows S A
on part (Done a) = Done a
on part (Flag name there other value next) = Flag name there other (λ s. value (part s)) (λ v. on part (next v))
on part (Number name there other code value next) = Number name there other code (λ s. value (part s)) (λ v. on part (next v))
on part (Signed name there other n value next) = Signed name there other n (λ s. value (part s)) (λ v. on part (next v))

-- n times, counted from i
unfoldable pub each : {S : Type 0} → ℕ → ℕ → (ℕ → Rows S (Unit {0})) → Rows S (Unit {0})
each zero i rows = Done tt
each (suc n) i rows = rows i >>= λ _. each n (suc i) rows

-- a word that is there on a condition
abbrev pub word_if : Bool → List Bool → List Bool
word_if there word = if there then word else []

-- the words of a header, row by row
abbrev pub words : {S A : Type 0} → Rows S A → S → List (List Bool)
words (Done a) s = []
words (Flag name there other value next) s = word_if there (value s ∷ []) ∷ words (next (if there then value s else other)) s
words (Number name there other code value next) s = word_if there (code.word (value s)) ∷ words (next (if there then value s else other)) s
words (Signed name there other n value next) s = word_if there (signed_bits_of n (value s)) ∷ words (next (if there then value s else other)) s

-- what a header tells
abbrev pub told : {S A : Type 0} → Rows S A → S → A
told (Done a) s = a
told (Flag name there other value next) s = told (next (if there then value s else other)) s
told (Number name there other code value next) s = told (next (if there then value s else other)) s
told (Signed name there other n value next) s = told (next (if there then value s else other)) s

-- each value that is there has a word of its own
abbrev pub Fits : {S A : Type 0} → Rows S A → S → Type 0
Fits (Done a) s = Unit {0}
Fits (Flag name true other value next) s = Fits (next (value s)) s
Fits (Flag name false other value next) s = Fits (next other) s
Fits (Number name true other code value next) s = HasWord code (value s) × Fits (next (value s)) s
Fits (Number name false other code value next) s = Fits (next other) s
Fits (Signed name true other n value next) s = HasSignedWord n (value s) × Fits (next (value s)) s
Fits (Signed name false other n value next) s = Fits (next other) s

-- words one after another
abbrev pub joined : List (List Bool) → List Bool
joined [] = []
joined (w ∷ ws) = w ++ joined ws

-- the bits grew by the first of these words, or by none
pub record Began (ws : List (List Bool)) (old new : List Bool) : Type 0 where
  pub front : List (List Bool)
  pub rest : List (List Bool)
  pub split : ws ≡ front ++ rest
  pub grown : new ≡ old ++ joined front

-- the bits grew by these words, by the first of them where memory ran out on the way, and not at all after that
abbrev pub Grew : List (List Bool) → Bool → Bool → List Bool → List Bool → Type 0
Grew ws false false old new = new ≡ old ++ joined ws
Grew ws false true old new = Began ws old new
Grew ws true true old new = new ≡ old
Grew ws true false old new = ⊥

-- a bit was written where it is there, and told this
pub record WroteFlag (there other value tells from to : Bool) (old new : List Bool) : Type 0 where
  pub grown : Grew (word_if there (value ∷ []) ∷ []) from to old new
  pub told : (if there then value else other) ≡ tells

-- a number was written in its code where it is there, and told this
pub record WroteNumber (there : Bool) (other : ℕ) (code : Code) (value tells : ℕ) (from to : Bool) (old new : List Bool) : Type 0 where
  pub grown : Grew (word_if there (code.word value) ∷ []) from to old new
  pub fits : there ≡ true → HasWord code value
  pub told : (if there then value else other) ≡ tells

-- a number with a sign was written where it is there, and told this
pub record WroteSigned (there : Bool) (n : ℕ) (value tells : ℤ) (from to : Bool) (old new : List Bool) : Type 0 where
  pub grown : Grew (word_if there (signed_bits_of n value) ∷ []) from to old new
  pub fits : there ≡ true → HasSignedWord n value
  pub told : (if there then value else pos 0) ≡ tells

-- a header was written, and told this
pub record Wrote {S A : Type 0} (t : Rows S A) (s : S) (tells : A) (from to : Bool) (old new : List Bool) : Type 0 where
  pub grown : Grew (words t s) from to old new
  pub fits : Fits t s
  pub told : told t s ≡ tells
