-- Distances from a reference and back: one to one on the n values.
use Rattle.std.proofs.Common.{◌≡◌, ℕ, ◌*◌, ◌<◌, ◌≤◌, arith}
use Rattle.std.proofs.lemmas.Bool.Decides.{nat_tests}
use Rattle.av1_model.specs.Codes.{recenter, inverse_recenter, recenter_finite, inverse_recenter_finite}

pub recenter-below : (n r v : ℕ) → 2 * r ≤ n → v < n → recenter r v < n
recenter-below n r v side below = grind (arith, nat_tests)

pub inverse_recenter-below : (n r d : ℕ) → 2 * r ≤ n → d < n → inverse_recenter r d < n
inverse_recenter-below n r d side below = grind (arith, nat_tests)

pub inverse-recenter : (r v : ℕ) → inverse_recenter r (recenter r v) ≡ v
inverse-recenter r v = grind (arith, nat_tests)

pub recenter-inverse : (r d : ℕ) → recenter r (inverse_recenter r d) ≡ d
recenter-inverse r d = grind (arith, nat_tests)

pub recenter_finite-below : (n r v : ℕ) → r < n → v < n → recenter_finite n r v < n
recenter_finite-below n r v within below = grind (arith, nat_tests, recenter-below)

pub inverse_recenter_finite-below : (n r d : ℕ) → r < n → d < n → inverse_recenter_finite n r d < n
inverse_recenter_finite-below n r d within below = grind (arith, nat_tests, inverse_recenter-below)

pub inverse-recenter_finite : (n r v : ℕ) → r < n → v < n → inverse_recenter_finite n r (recenter_finite n r v) ≡ v
inverse-recenter_finite n r v within below = grind (arith, nat_tests)

pub recenter_finite-inverse : (n r d : ℕ) → r < n → d < n → recenter_finite n r (inverse_recenter_finite n r d) ≡ d
recenter_finite-inverse n r d within below = grind (arith, nat_tests)
