-- The slots of inter blocks, and how many symbols each has.
use Rattle.std.proofs.Common.{ℕ, ◌+◌, ◌*◌, ◌<◌, [], ◌∷◌, codes, refl, arith}
use Rattle.av1_cdf.specs.Distribution.{HasSymbols}
use Rattle.av1_cdf.specs.Distribution.Distribution.{Adaptive}
use Rattle.av1_cdf.specs.Layout.{slot, component_slot, layout, fields, vector_fields, component_fields}
use Rattle.av1_cdf.specs.Runs.{has_run}
use Rattle.av1_cdf.proofs.Cells.{slot_of_run, component_run}
use Rattle.av1_syntax.specs.Calls.{adaptive}

pub intra_inter_has : (k : ℕ) → k < 4 → HasSymbols (adaptive (codes "intra_inter_cdfs") (k ∷ [])) 2
unfolding slot layout fields vector_fields component_fields has_run
intra_inter_has k h = (slot_of_run (record { place = 292; count = 4; len = 2 }) k refl h, refl)

pub drl_has : (k : ℕ) → k < 3 → HasSymbols (adaptive (codes "drl_cdfs") (k ∷ [])) 2
unfolding slot layout fields vector_fields component_fields has_run
drl_has k h = (slot_of_run (record { place = 62; count = 3; len = 2 }) k refl h, refl)

pub newmv_has : (k : ℕ) → k < 6 → HasSymbols (adaptive (codes "newmv_cdf") (k ∷ [])) 2
unfolding slot layout fields vector_fields component_fields has_run
newmv_has k h = (slot_of_run (record { place = 304; count = 6; len = 2 }) k refl h, refl)

pub zeromv_has : (k : ℕ) → k < 2 → HasSymbols (adaptive (codes "zeromv_cdf") (k ∷ [])) 2
unfolding slot layout fields vector_fields component_fields has_run
zeromv_has k h = (slot_of_run (record { place = 588; count = 2; len = 2 }) k refl h, refl)

pub refmv_has : (k : ℕ) → k < 6 → HasSymbols (adaptive (codes "refmv_cdf") (k ∷ [])) 2
unfolding slot layout fields vector_fields component_fields has_run
refmv_has k h = (slot_of_run (record { place = 362; count = 6; len = 2 }) k refl h, refl)

pub compound_mode_has : (k : ℕ) → k < 8 → HasSymbols (adaptive (codes "compound_mode_cdf") (k ∷ [])) 8
unfolding slot layout fields vector_fields component_fields has_run
compound_mode_has k h = (slot_of_run (record { place = 4072; count = 8; len = 8 }) k refl h, refl)

pub comp_mode_has : (k : ℕ) → k < 5 → HasSymbols (adaptive (codes "comp_mode_cdf") (k ∷ [])) 2
unfolding slot layout fields vector_fields component_fields has_run
comp_mode_has k h = (slot_of_run (record { place = 12; count = 5; len = 2 }) k refl h, refl)

pub comp_ref_type_has : (k : ℕ) → k < 5 → HasSymbols (adaptive (codes "comp_ref_type_cdf") (k ∷ [])) 2
unfolding slot layout fields vector_fields component_fields has_run
comp_ref_type_has k h = (slot_of_run (record { place = 40; count = 5; len = 2 }) k refl h, refl)

pub comp_bwd_has : (k n : ℕ) → k < 3 → n < 2 → HasSymbols (adaptive (codes "comp_bwd_ref_cdf") (k ∷ n ∷ [])) 2
unfolding slot layout fields vector_fields component_fields has_run
comp_bwd_has k n h l = (slot_of_run (record { place = 0; count = 6; len = 2 }) (k * 2 + n) refl (omega arith), refl)

pub comp_has : (k n : ℕ) → k < 3 → n < 3 → HasSymbols (adaptive (codes "comp_ref_cdf") (k ∷ n ∷ [])) 2
unfolding slot layout fields vector_fields component_fields has_run
comp_has k n h l = (slot_of_run (record { place = 22; count = 9; len = 2 }) (k * 3 + n) refl (omega arith), refl)

pub single_has : (k n : ℕ) → k < 3 → n < 6 → HasSymbols (adaptive (codes "single_ref_cdfs") (k ∷ n ∷ [])) 2
unfolding slot layout fields vector_fields component_fields has_run
single_has k n h l = (slot_of_run (record { place = 374; count = 18; len = 2 }) (k * 6 + n) refl (omega arith), refl)

pub joints_has : HasSymbols (adaptive (codes "joints_cdf") []) 4
unfolding slot layout fields vector_fields component_fields has_run
joints_has = (slot_of_run (record { place = 5400; count = 1; len = 4 }) 0 refl (omega arith), refl)

-- of both components of vectors
pub sign_has : (axis : ℕ) → axis < 2 → HasSymbols (Adaptive (component_slot axis (codes "sign_cdf") [])) 2
unfolding component_slot layout fields vector_fields component_fields has_run
sign_has axis a = (slot_of_run (record { place = 5416 + 56 * axis; count = 1; len = 2 }) 0 (component_run 5416 1 2 axis a refl refl) (omega arith), refl)

pub classes_has : (axis : ℕ) → axis < 2 → HasSymbols (Adaptive (component_slot axis (codes "classes_cdf") [])) 11
unfolding component_slot layout fields vector_fields component_fields has_run
classes_has axis a = (slot_of_run (record { place = 5456 + 56 * axis; count = 1; len = 11 }) 0 (component_run 5456 1 11 axis a refl refl) (omega arith), refl)

pub class0_has : (axis : ℕ) → axis < 2 → HasSymbols (Adaptive (component_slot axis (codes "class0_cdf") [])) 2
unfolding component_slot layout fields vector_fields component_fields has_run
class0_has axis a = (slot_of_run (record { place = 5422 + 56 * axis; count = 1; len = 2 }) 0 (component_run 5422 1 2 axis a refl refl) (omega arith), refl)

pub bits_has : (axis k : ℕ) → axis < 2 → k < 10 → HasSymbols (Adaptive (component_slot axis (codes "bits_cdf") (k ∷ []))) 2
unfolding component_slot layout fields vector_fields component_fields has_run
bits_has axis k a h = (slot_of_run (record { place = 5424 + 56 * axis; count = 10; len = 2 }) k (component_run 5424 10 2 axis a refl refl) h, refl)

pub class0_fp_has : (axis k : ℕ) → axis < 2 → k < 2 → HasSymbols (Adaptive (component_slot axis (codes "class0_fp_cdf") (k ∷ []))) 4
unfolding component_slot layout fields vector_fields component_fields has_run
class0_fp_has axis k a h = (slot_of_run (record { place = 5444 + 56 * axis; count = 2; len = 4 }) k (component_run 5444 2 4 axis a refl refl) h, refl)

pub fp_has : (axis : ℕ) → axis < 2 → HasSymbols (Adaptive (component_slot axis (codes "fp_cdf") [])) 4
unfolding component_slot layout fields vector_fields component_fields has_run
fp_has axis a = (slot_of_run (record { place = 5452 + 56 * axis; count = 1; len = 4 }) 0 (component_run 5452 1 4 axis a refl refl) (omega arith), refl)

pub class0_hp_has : (axis : ℕ) → axis < 2 → HasSymbols (Adaptive (component_slot axis (codes "class0_hp_cdf") [])) 2
unfolding component_slot layout fields vector_fields component_fields has_run
class0_hp_has axis a = (slot_of_run (record { place = 5418 + 56 * axis; count = 1; len = 2 }) 0 (component_run 5418 1 2 axis a refl refl) (omega arith), refl)

pub hp_has : (axis : ℕ) → axis < 2 → HasSymbols (Adaptive (component_slot axis (codes "hp_cdf") [])) 2
unfolding component_slot layout fields vector_fields component_fields has_run
hp_has axis a = (slot_of_run (record { place = 5420 + 56 * axis; count = 1; len = 2 }) 0 (component_run 5420 1 2 axis a refl refl) (omega arith), refl)
