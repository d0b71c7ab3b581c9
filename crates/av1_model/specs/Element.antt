-- Syntax elements: what a reader does, and which symbols a writer stores for each value, put together from the same parts.
use Rattle.std.specs.Prelude.{◌≡◌, ℕ, ◌<◌, ◌≤◌, List, [], ◌∷◌, ◌++◌, Bool, if◌then◌else◌, Option, length}
use Rattle.std.specs.Option.{option_map_or}
use Rattle.av1_model.specs.Cdf.{IsCdf}
use Rattle.av1_model.specs.Syntax.{Syntax, Leads, bind}
use Rattle.av1_model.specs.Syntax.Syntax.{Bad, Done, Ask}

pub record Element (Q A : Type 0) : Type 0 where
  pub tree : Syntax Q A
  pub symbols : A → List ℕ

-- nothing fits
abbrev pub nothing : {Q A : Type 0} → Element Q A
nothing = record { tree = Bad; symbols = λ a. [] }

-- a value that no symbol tells
abbrev pub known : {Q A : Type 0} → A → Element Q A
known a = record { tree = Done a; symbols = λ b. [] }

-- one symbol and what follows it, where a value tells its first symbol
abbrev pub ask : {Q A : Type 0} → Q → (ℕ → Element Q A) → (A → ℕ) → Element Q A
ask q k first = record { tree = Ask q (λ s. (k s).tree); symbols = λ a. first a ∷ (k (first a)).symbols a }

-- one symbol, which stands for a value or for none
abbrev pub symbol : {Q A : Type 0} → Q → (ℕ → Option A) → (A → ℕ) → Element Q A
symbol q value number = ask q (λ s. option_map_or known (value s) nothing) number

-- one of two elements
abbrev pub choose : {Q A : Type 0} → Bool → Element Q A → Element Q A → Element Q A
choose b e f = record { tree = if b then e.tree else f.tree; symbols = λ a. if b then e.symbols a else f.symbols a }

-- one element after another, where the second value tells the first
abbrev pub after : {Q A B : Type 0} → Element Q A → (A → Element Q B) → (B → A) → Element Q B
after e f first = record { tree = bind e.tree (λ a. (f a).tree); symbols = λ b. e.symbols (first b) ++ (f (first b)).symbols b }

-- the values by other names
abbrev pub renamed : {Q A B : Type 0} → Element Q A → (A → B) → (B → A) → Element Q B
renamed e name back = record { tree = bind e.tree (λ a. Done (name a)); symbols = λ b. e.symbols (back b) }

-- no value but those that pass a test
abbrev pub tested : {Q A : Type 0} → (A → Bool) → Element Q A → Element Q A
tested test e = record { tree = bind e.tree (λ a. if test a then Done a else Bad); symbols = e.symbols }

-- an element that speaks of something, where it is there
abbrev pub where_some : {Q A B : Type 0} → Option B → (B → Element Q A) → Element Q A
where_some o f = option_map_or f o nothing

-- `IsOne q n`: a distribution of n symbols
module _ {Q : Type 0} (IsOne : Q → ℕ → Type 0) where
  -- a tree asks for symbols of distributions, and nothing fits a symbol past the last
  abbrev pub Asks : {A : Type 0} → Syntax Q A → Type 0
  Asks Bad = Unit {0}
  Asks (Done a) = Unit {0}
  Asks (Ask q k) = (n : ℕ) × IsOne q n × ((s : ℕ) → n ≤ s → k s ≡ Bad) × ((s : ℕ) → s < n → Asks (k s))

  -- The symbols of a value lead to it, no other symbols lead to a value, all are symbols of distributions, and there are at
  -- most so many.
  pub record Reads {A : Type 0} (e : Element Q A) (IsValue : A → Type 0) (most : ℕ) : Type 0 where
    pub leads : (a : A) → IsValue a → Leads e.tree (e.symbols a) a
    pub one_path : (a : A) (ss : List ℕ) → Leads e.tree ss a → IsValue a × (ss ≡ e.symbols a)
    pub asks : Asks e.tree
    pub few : (a : A) → IsValue a → length (e.symbols a) ≤ most

  -- in a context of valid distributions each is valid and has its symbols, and stays so as the context learns
  pub record Keeps {C : Type 0} (contents : C → Q → List ℕ) (adapted : C → Q → ℕ → C) (AreValid : C → Type 0) : Type 0 where
    pub valid : (c : C) (q : Q) (n : ℕ) → AreValid c → IsOne q n → IsCdf (contents c q)
    pub long : (c : C) (q : Q) (n : ℕ) → AreValid c → IsOne q n → length (contents c q) ≡ n
    pub learnt : (c : C) (q : Q) (n s : ℕ) → AreValid c → IsOne q n → s < n → AreValid (adapted c q s)
