-- The slots of coefficients, and how many symbols each has.
use Rattle.std.proofs.Common.{ℕ, zero, suc, ◌+◌, ◌*◌, ◌<◌, ◌≤◌, [], ◌∷◌, codes, refl, arith}
use Rattle.std.specs.Prelude.{slice_index_or}
use Rattle.av1_cdf.specs.Distribution.{HasSymbols}
use Rattle.av1_cdf.specs.Layout.{slot, layout, fields, vector_fields, component_fields}
use Rattle.av1_cdf.specs.Runs.{has_run}
use Rattle.av1_cdf.proofs.Cells.{slot_of_run}
use Rattle.av1_syntax.specs.Calls.{adaptive}
use Rattle.av1_syntax.specs.EndOfBlock.{class_fields}

pub txb_skip_has : (t k : ℕ) → t < 5 → k < 13 → HasSymbols (adaptive (codes "txb_skip_cdf") (t ∷ k ∷ [])) 2
unfolding slot layout fields vector_fields component_fields has_run
txb_skip_has t k a b = (slot_of_run (record { place = 416; count = 65; len = 2 }) (t * 13 + k) refl (omega arith), refl)

pub dc_sign_has : (p k : ℕ) → p < 2 → k < 3 → HasSymbols (adaptive (codes "dc_sign_cdf") (p ∷ k ∷ [])) 2
unfolding slot layout fields vector_fields component_fields has_run
dc_sign_has p k a b = (slot_of_run (record { place = 50; count = 6; len = 2 }) (p * 3 + k) refl (omega arith), refl)

pub eob_extra_has : (t p k : ℕ) → t < 5 → p < 2 → k < 9 → HasSymbols (adaptive (codes "eob_extra_cdf") (t ∷ p ∷ k ∷ [])) 2
unfolding slot layout fields vector_fields component_fields has_run
eob_extra_has t p k a b c = (slot_of_run (record { place = 68; count = 90; len = 2 }) ((t * 2 + p) * 9 + k) refl (omega arith), refl)

pub base_eob_has : (t p k : ℕ) → t < 5 → p < 2 → k < 4 → HasSymbols (adaptive (codes "coeff_base_eob_cdf") (t ∷ p ∷ k ∷ [])) 3
unfolding slot layout fields vector_fields component_fields has_run
base_eob_has t p k a b c = (slot_of_run (record { place = 606; count = 40; len = 3 }) ((t * 2 + p) * 4 + k) refl (omega arith), refl)

pub base_has : (t p k : ℕ) → t < 5 → p < 2 → k < 42 → HasSymbols (adaptive (codes "coeff_base_cdf") (t ∷ p ∷ k ∷ [])) 4
unfolding slot layout fields vector_fields component_fields has_run
base_has t p k a b c = (slot_of_run (record { place = 756; count = 420; len = 4 }) ((t * 2 + p) * 42 + k) refl (omega arith), refl)

pub br_has : (t p k : ℕ) → t < 5 → p < 2 → k < 21 → HasSymbols (adaptive (codes "coeff_br_cdf") (t ∷ p ∷ k ∷ [])) 4
unfolding slot layout fields vector_fields component_fields has_run
br_has t p k a b c = (slot_of_run (record { place = 2436; count = 210; len = 4 }) ((t * 2 + p) * 21 + k) refl (omega arith), refl)

pub eob_flag_has : (k p o : ℕ) → k ≤ 6 → p < 2 → o < 2 → HasSymbols (adaptive (slice_index_or class_fields k []) (p ∷ o ∷ [])) (5 + k)
unfolding slot layout fields vector_fields component_fields has_run
eob_flag_has zero p o a b c = (slot_of_run (record { place = 3312; count = 4; len = 5 }) (p * 2 + o) refl (omega arith), refl)
eob_flag_has (suc zero) p o a b c = (slot_of_run (record { place = 3592; count = 4; len = 6 }) (p * 2 + o) refl (omega arith), refl)
eob_flag_has (suc (suc zero)) p o a b c = (slot_of_run (record { place = 3672; count = 4; len = 7 }) (p * 2 + o) refl (omega arith), refl)
eob_flag_has (suc (suc (suc zero))) p o a b c = (slot_of_run (record { place = 4136; count = 4; len = 8 }) (p * 2 + o) refl (omega arith), refl)
eob_flag_has (suc (suc (suc (suc zero)))) p o a b c = (slot_of_run (record { place = 4224; count = 4; len = 9 }) (p * 2 + o) refl (omega arith), refl)
eob_flag_has (suc (suc (suc (suc (suc zero))))) p o a b c = (slot_of_run (record { place = 4260; count = 4; len = 10 }) (p * 2 + o) refl (omega arith), refl)
eob_flag_has (suc (suc (suc (suc (suc (suc zero)))))) p o a b c = (slot_of_run (record { place = 4420; count = 4; len = 11 }) (p * 2 + o) refl (omega arith), refl)
eob_flag_has (suc (suc (suc (suc (suc (suc (suc k))))))) p o a b c = absurd (omega arith)
