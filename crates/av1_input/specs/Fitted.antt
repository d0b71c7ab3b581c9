-- What a JSON value stands for, or where it doesn't fit.
use Rattle.std.specs.Prelude.{ℕ, List, [], ◌++◌, ◌==◌, if◌then◌else◌, Bool, true, false, Option, Some, None, codes, decimal, encode_utf8}
use Rattle.std.specs.List.{flat_map}
use Rattle.std.specs.Str.{chars}

-- what a value stands for, or the path from here to the first place that doesn't fit
pub data Fitted (A : Type 0) : Type 0 where
  Fits : A → Fitted A
  Unfit : List ℕ → Fitted A

infixl 10 ◌>>=◌
abbrev pub ◌>>=◌ : {A B : Type 0} → Fitted A → (A → Fitted B) → Fitted B
Fits x >>= f = f x
Unfit path >>= f = Unfit path

abbrev pub or_unfit : {A : Type 0} → Option A → Fitted A
or_unfit (Some x) = Fits x
or_unfit None = Unfit []

abbrev pub fitting : Bool → Fitted (Unit {0})
fitting true = Fits tt
fitting false = Unfit []

-- ---- paths, which are JSON pointers (RFC 6901)

-- a character of a name
abbrev pub escaped : ℕ → List ℕ
escaped c = if c == 126 then codes "~0" else if c == 47 then codes "~1" else encode_utf8 c

unfoldable pub name_step : List ℕ → List ℕ
name_step name = codes "/" ++ flat_map escaped (chars name)

unfoldable pub index_step : ℕ → List ℕ
index_step i = codes "/" ++ decimal i

-- what is unfit below is unfit at a longer path
abbrev pub within : {A : Type 0} → List ℕ → Fitted A → Fitted A
within step (Fits x) = Fits x
within step (Unfit path) = Unfit (step ++ path)
