-- What the range coder requires of the calls and codes of a line.
use Rattle.std.specs.Prelude.{ℕ, ◌+◌, ◌^◌, ◌<◌, ◌≤◌, max, List, length, ℤ, pos, ◌-ℤ◌, ◌≤ℤ◌, ◌<ℤ◌, ⊤}
use Rattle.av1_model.specs.Cdf.{IsCdf}
use Rattle.av1_script.specs.declared.code.Code.{Code}
use Rattle.av1_script.specs.declared.code.Code.TheVariants.{Quniform, Subexp, UnsignedSubexp, SignedSubexp}
use Rattle.av1_script.specs.declared.call.Call.{Call}
use Rattle.av1_script.specs.declared.call.Call.TheVariants.{Symbol, Bool, Bit, Literal, Golomb, OfCode}
use Rattle.av1_script.specs.declared.question.Question.{Question}
use Rattle.av1_script.specs.declared.question.Question.TheVariants.{Tell, TellFrac, StreamBits, Range, SymbolBits, Count}

-- a symbol of a distribution
abbrev pub IsSymbol : ℕ → List ℕ → Type 0
IsSymbol s cdf = IsCdf cdf × (s < length cdf)

-- from low on, and below high
abbrev pub IsBetween : ℤ → ℤ → ℤ → Type 0
IsBetween low high z = (low ≤ℤ z) × (z <ℤ high)

-- one of at most 2^24 values, and a first width of at most 16
abbrev pub IsCode : Code → Type 0
IsCode (Quniform n v) = (v < max n 1) × (n ≤ 2 ^ 24)
IsCode (Subexp n k v) = (v < n) × (n ≤ 2 ^ 24) × (k ≤ 16)
IsCode (UnsignedSubexp v mx k r) = (v < mx) × (r < mx) × (mx ≤ 2 ^ 24) × (k ≤ 16)
IsCode (SignedSubexp v low high k r) = IsBetween low high v × IsBetween low high r × ((high -ℤ low) ≤ℤ pos (2 ^ 24)) × (k ≤ 16)

abbrev pub IsCall : Call → Type 0
IsCall (Symbol s cdf) = IsSymbol s cdf.items
IsCall (Bool val f) = (0 < f) × (f < 32768)
IsCall (Bit bit) = bit ≤ 1
IsCall (Literal bits s) = (bits ≤ 32) × (s < 2 ^ bits)
IsCall (Golomb level) = level + 1 < 2 ^ 32
IsCall (OfCode code) = IsCode code

abbrev pub IsQuestion : Question → Type 0
IsQuestion Tell = ⊤
IsQuestion TellFrac = ⊤
IsQuestion StreamBits = ⊤
IsQuestion Range = ⊤
IsQuestion (SymbolBits s cdf) = IsSymbol s cdf.items
IsQuestion (Count code) = IsCode code
