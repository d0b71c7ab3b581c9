-- What codes a symbol of a tile, and what a context is after it.
use Rattle.std.specs.Prelude.{◌≡◌, ℕ, List, [], ◌∷◌, Bool, IsTrue, if◌then◌else◌, length}
use Rattle.av1_cdf.specs.Context.{contents, with_contents}
use Rattle.av1_cdf.specs.Layout.{Slot, is_slot}
use Rattle.av1_model.specs.Cdf.{IsCdf, adapt}

-- a distribution of the context, which may learn, or one that stays
pub data Distribution : Type 0 where
  Adaptive : Slot → Distribution
  Fixed : List ℕ → Distribution

-- a bit that is as likely as not
abbrev pub Even : Distribution
Even = Fixed (16384 ∷ 0 ∷ [])

-- its numbers, in a context of these
abbrev pub coded_by : List ℕ → Distribution → List ℕ
coded_by numbers (Adaptive s) = contents numbers s
coded_by numbers (Fixed cdf) = cdf

-- the context after a symbol of it, by whether contexts learn
abbrev pub learnt : Bool → List ℕ → Distribution → ℕ → List ℕ
learnt learns numbers (Adaptive s) symbol = if learns then with_contents numbers s (adapt (contents numbers s) symbol) else numbers
learnt learns numbers (Fixed cdf) symbol = numbers

-- a distribution of n symbols
abbrev pub HasSymbols : Distribution → ℕ → Type 0
HasSymbols (Adaptive s) n = IsTrue (is_slot s.place s.len) × (s.len ≡ n)
HasSymbols (Fixed cdf) n = IsCdf cdf × (length cdf ≡ n)
