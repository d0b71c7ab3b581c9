use Rattle.std.proofs.Common.{◌≡◌, ℕ, zero, suc, ◌<◌, [], ◌∷◌, false, pos, negsuc, refl, inr, arith}
use Rattle.std.proofs.lemmas.Int.{ints}
use Rattle.av1_geometry.specs.declared.constants.TheConstants.{SGRPROJ_XQD_MIN, SGRPROJ_XQD_MAX}
use Rattle.av1_syntax.specs.Restoration.{number_at, has_radius, unused_weight, AreWithin, AreWeights}
use Rattle.av1_syntax_tests.proofs.restoration.set_14.Goals as goal

within : AreWithin 2 SGRPROJ_XQD_MIN SGRPROJ_XQD_MAX (negsuc 31 ∷ pos 95 ∷ [])
within zero l = record { from = omega (arith, ints); to = omega (arith, ints) }
within (suc zero) l = record { from = omega (arith, ints); to = omega (arith, ints) }
within (suc (suc k)) l = absurd (omega (arith, l))

unused : (pass : ℕ) → pass < 2 → has_radius 14 pass ≡ false → number_at (negsuc 31 ∷ pos 95 ∷ []) pass ≡ unused_weight pass
unused zero l h = absurd (let z : ⊥ = cc in z)
unused (suc zero) l h = refl
unused (suc (suc k)) l h = absurd (omega (arith, l))

weights : AreWeights 14 (negsuc 31 ∷ pos 95 ∷ [])
weights = record { two = refl; within = within; unused = unused }

pub returns-clause-coded : goal.returns-clause-coded
returns-clause-coded c = (inr refl, omega arith, weights)

pub returns-clause-counted : goal.returns-clause-counted
returns-clause-counted c = (omega arith, within)
