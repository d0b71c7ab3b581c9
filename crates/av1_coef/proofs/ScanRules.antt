-- The answer of a check of two rules.
use Rattle.std.proofs.Common.{◌≡◌, Bool, true, false, [], ◌∷◌, None, Some, refl}
use Rattle.av1_geometry.specs.Rules.{rule, first_broken}

pub breaks_4 : (a b : Bool) → a ≡ false → Some (record { 0 = 4 }) ≡ first_broken (rule 4 a ∷ rule 5 b ∷ [])
breaks_4 a b e = rw e refl

pub breaks_5 : (a b : Bool) → a ≡ true → b ≡ false → Some (record { 0 = 5 }) ≡ first_broken (rule 4 a ∷ rule 5 b ∷ [])
breaks_5 a b e f = rw (e, f) refl

pub both_hold : (a b : Bool) → first_broken (rule 4 a ∷ rule 5 b ∷ []) ≡ None → (a ≡ true) × (b ≡ true)
both_hold true true h = (refl, refl)
both_hold true false h = absurd cc
both_hold false true h = absurd cc
both_hold false false h = absurd cc

pub none_broken : (a b : Bool) → a ≡ true → b ≡ true → first_broken (rule 4 a ∷ rule 5 b ∷ []) ≡ None
none_broken a b e f = rw (e, f) refl
