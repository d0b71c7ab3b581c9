-- The slots of the elements, and how many symbols each has.
use Rattle.std.proofs.Common.{ℕ, ◌+◌, ◌*◌, ◌<◌, [], ◌∷◌, codes, refl, arith}
use Rattle.av1_cdf.specs.Distribution.{HasSymbols}
use Rattle.av1_cdf.specs.Layout.{slot, layout, fields, vector_fields, component_fields}
use Rattle.av1_cdf.specs.Runs.{has_run}
use Rattle.av1_cdf.proofs.Cells.{slot_of_run}
use Rattle.av1_syntax.specs.Calls.{adaptive}

pub skip_has : (k : ℕ) → k < 3 → HasSymbols (adaptive (codes "skip_cdfs") (k ∷ [])) 2
unfolding slot layout fields vector_fields component_fields has_run
skip_has k h = (slot_of_run (record { place = 410; count = 3; len = 2 }) k refl h, refl)

pub filter_intra_has : (k : ℕ) → k < 22 → HasSymbols (adaptive (codes "filter_intra_cdfs") (k ∷ [])) 2
unfolding slot layout fields vector_fields component_fields has_run
filter_intra_has k h = (slot_of_run (record { place = 248; count = 22; len = 2 }) k refl h, refl)

pub kf_y_has : (above left : ℕ) → above < 5 → left < 5 → HasSymbols (adaptive (codes "kf_y_cdf") (above ∷ left ∷ [])) 13
unfolding slot layout fields vector_fields component_fields has_run
kf_y_has above left a l = (slot_of_run (record { place = 4512; count = 25; len = 13 }) (above * 5 + left) refl (omega arith), refl)

pub y_mode_has : (k : ℕ) → k < 4 → HasSymbols (adaptive (codes "y_mode_cdf") (k ∷ [])) 13
unfolding slot layout fields vector_fields component_fields has_run
y_mode_has k h = (slot_of_run (record { place = 4837; count = 4; len = 13 }) k refl h, refl)

pub uv_mode_has : (k : ℕ) → k < 13 → HasSymbols (adaptive (codes "uv_mode_cdf") (k ∷ [])) 13
unfolding slot layout fields vector_fields component_fields has_run
uv_mode_has k h = (slot_of_run (record { place = 4889; count = 13; len = 13 }) k refl h, refl)

pub uv_mode_cfl_has : (k : ℕ) → k < 13 → HasSymbols (adaptive (codes "uv_mode_cfl_cdf") (k ∷ [])) 14
unfolding slot layout fields vector_fields component_fields has_run
uv_mode_cfl_has k h = (slot_of_run (record { place = 5058; count = 13; len = 14 }) k refl h, refl)

pub angle_delta_has : (k : ℕ) → k < 8 → HasSymbols (adaptive (codes "angle_delta_cdf") (k ∷ [])) 7
unfolding slot layout fields vector_fields component_fields has_run
angle_delta_has k h = (slot_of_run (record { place = 3616; count = 8; len = 7 }) k refl h, refl)

pub partition_w8_has : (k : ℕ) → k < 4 → HasSymbols (adaptive (codes "partition_w8_cdf") (k ∷ [])) 4
unfolding slot layout fields vector_fields component_fields has_run
partition_w8_has k h = (slot_of_run (record { place = 3296; count = 4; len = 4 }) k refl h, refl)

pub partition_has : (k : ℕ) → k < 12 → HasSymbols (adaptive (codes "partition_cdf") (k ∷ [])) 10
unfolding slot layout fields vector_fields component_fields has_run
partition_has k h = (slot_of_run (record { place = 4300; count = 12; len = 10 }) k refl h, refl)

pub palette_y_has : (size k : ℕ) → size < 7 → k < 3 → HasSymbols (adaptive (codes "palette_y_mode_cdfs") (size ∷ k ∷ [])) 2
unfolding slot layout fields vector_fields component_fields has_run
palette_y_has size k a b = (slot_of_run (record { place = 320; count = 21; len = 2 }) (size * 3 + k) refl (omega arith), refl)

pub palette_uv_has : (k : ℕ) → k < 2 → HasSymbols (adaptive (codes "palette_uv_mode_cdfs") (k ∷ [])) 2
unfolding slot layout fields vector_fields component_fields has_run
palette_uv_has k h = (slot_of_run (record { place = 316; count = 2; len = 2 }) k refl h, refl)

pub cfl_sign_has : HasSymbols (adaptive (codes "cfl_sign_cdf") []) 8
unfolding slot layout fields vector_fields component_fields has_run
cfl_sign_has = (slot_of_run (record { place = 4064; count = 1; len = 8 }) 0 refl (omega arith), refl)

pub cfl_alpha_has : (k : ℕ) → k < 6 → HasSymbols (adaptive (codes "cfl_alpha_cdf") (k ∷ [])) 16
unfolding slot layout fields vector_fields component_fields has_run
cfl_alpha_has k h = (slot_of_run (record { place = 5240; count = 6; len = 16 }) k refl h, refl)

pub segmentation_has : (k : ℕ) → k < 3 → HasSymbols (adaptive (codes "spatial_segmentation_cdfs") (k ∷ [])) 8
unfolding slot layout fields vector_fields component_fields has_run
segmentation_has k h = (slot_of_run (record { place = 4168; count = 3; len = 8 }) k refl h, refl)

pub delta_has : HasSymbols (adaptive (codes "deblock_delta_cdf") []) 4
unfolding slot layout fields vector_fields component_fields has_run
delta_has = (slot_of_run (record { place = 3276; count = 1; len = 4 }) 0 refl (omega arith), refl)

pub delta_multi_has : (k : ℕ) → k < 4 → HasSymbols (adaptive (codes "deblock_delta_multi_cdf") (k ∷ [])) 4
unfolding slot layout fields vector_fields component_fields has_run
delta_multi_has k h = (slot_of_run (record { place = 3280; count = 4; len = 4 }) k refl h, refl)
