-- The first broken rule of two lists of rules after each other.
use Rattle.std.proofs.Common.{◌≡◌, List, [], ◌∷◌, ◌++◌, true, false, Some, None, refl}
use Rattle.av1_geometry.specs.Rules.{Check, first_broken}
use Rattle.av1_geometry.specs.declared.error.Rule.{Rule}

-- where the first list holds, the second decides
pub first_broken_later : (xs ys : List Check) → first_broken xs ≡ None → first_broken (xs ++ ys) ≡ first_broken ys
first_broken_later [] ys none = refl
first_broken_later ((rule, true) ∷ xs) ys none = first_broken_later xs ys none
first_broken_later ((rule, false) ∷ xs) ys none = (cc)

-- where a rule of the first list is broken, it decides
pub first_broken_sooner : (xs ys : List Check) (r : Rule) → first_broken xs ≡ Some r → first_broken (xs ++ ys) ≡ Some r
first_broken_sooner [] ys r some = (cc)
first_broken_sooner ((rule, true) ∷ xs) ys r some = first_broken_sooner xs ys r some
first_broken_sooner ((rule, false) ∷ xs) ys r some = some

pub ruleset broken = (first_broken_later, first_broken_sooner)
