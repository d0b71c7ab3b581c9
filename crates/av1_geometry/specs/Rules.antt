-- The rules of a place of the input: each with its number, and the first that is broken.
use Rattle.std.specs.Prelude.{ℕ, List, [], ◌∷◌, Bool, if◌then◌else◌, Option, Some, None}
use Rattle.av1_geometry.specs.declared.error.Rule.{Rule}

-- a rule, and whether it holds
abbrev pub Check : Type 0
Check = Rule × Bool

abbrev pub rule : ℕ → Bool → Check
rule number holds = (record { 0 = number }, holds)

-- the first rule that is broken
abbrev pub first_broken : List Check → Option Rule
first_broken [] = None
first_broken (c ∷ cs) = if c.1 then first_broken cs else Some c.0
