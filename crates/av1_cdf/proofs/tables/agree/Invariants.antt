use Rattle.std.proofs.Common.{◌≡◌, ℕ, ◌<◌, [], ◌∷◌, true, ◌||◌}
use Rattle.av1_cdf.specs.Tables.{is_coefficient, same_at}
use Rattle.av1_cdf.proofs.tables.agree.Given as goal

abbrev pub invariant-loop-k : goal.invariant-loop-k
invariant-loop-k l = (j : ℕ) → j < l.k → (is_coefficient j || same_at (l.a ∷ l.b ∷ l.c ∷ l.d ∷ []) j) ≡ true
