-- What film grain is by its members, which must all be there.
use Rattle.std.specs.Prelude.{ℕ, ℤ, List, [], ◌∷◌, false, codes}
use Rattle.arrayvec.specs.ArrayVec.{ArrayVec}
use Rattle.av1_frame.specs.Grain.{Grain}
use Rattle.av1_input.specs.Kinds.{Kind, exactly, signed, truth, up_to, whole}
use Rattle.av1_input.specs.Rows.{Row, object_of, required}

-- pairs of a value and its scaling
abbrev pub points : ℕ → Kind (ArrayVec (List ℕ))
points most = up_to most (exactly 2 (whole 8))

abbrev pub coefficients : ℕ → Kind (ArrayVec ℤ)
coefficients most = up_to most (signed 8)

abbrev pub no_grain : Grain
no_grain = record {
  scaling_points_y = [];
  scaling_points_cb = [];
  scaling_points_cr = [];
  scaling_shift = 0;
  ar_coeff_lag = 0;
  ar_coeffs_y = [];
  ar_coeffs_cb = [];
  ar_coeffs_cr = [];
  ar_coeff_shift = 0;
  cb_mult = 0;
  cb_luma_mult = 0;
  cb_offset = 0;
  cr_mult = 0;
  cr_luma_mult = 0;
  cr_offset = 0;
  overlap_flag = false;
  chroma_scaling_from_luma = false;
  grain_scale_shift = 0;
  random_seed = 0;
}

abbrev pub grain_rows : List (Row Grain)
grain_rows =
    required (codes "scaling_points_y") (points 14) (λ g x. record g { scaling_points_y = x.items })
    ∷ required (codes "scaling_points_cb") (points 10) (λ g x. record g { scaling_points_cb = x.items })
    ∷ required (codes "scaling_points_cr") (points 10) (λ g x. record g { scaling_points_cr = x.items })
    ∷ required (codes "scaling_shift") (whole 8) (λ g x. record g { scaling_shift = x })
    ∷ required (codes "ar_coeff_lag") (whole 8) (λ g x. record g { ar_coeff_lag = x })
    ∷ required (codes "ar_coeffs_y") (coefficients 24) (λ g x. record g { ar_coeffs_y = x.items })
    ∷ required (codes "ar_coeffs_cb") (coefficients 25) (λ g x. record g { ar_coeffs_cb = x.items })
    ∷ required (codes "ar_coeffs_cr") (coefficients 25) (λ g x. record g { ar_coeffs_cr = x.items })
    ∷ required (codes "ar_coeff_shift") (whole 8) (λ g x. record g { ar_coeff_shift = x })
    ∷ required (codes "cb_mult") (whole 8) (λ g x. record g { cb_mult = x })
    ∷ required (codes "cb_luma_mult") (whole 8) (λ g x. record g { cb_luma_mult = x })
    ∷ required (codes "cb_offset") (whole 16) (λ g x. record g { cb_offset = x })
    ∷ required (codes "cr_mult") (whole 8) (λ g x. record g { cr_mult = x })
    ∷ required (codes "cr_luma_mult") (whole 8) (λ g x. record g { cr_luma_mult = x })
    ∷ required (codes "cr_offset") (whole 16) (λ g x. record g { cr_offset = x })
    ∷ required (codes "overlap_flag") truth (λ g x. record g { overlap_flag = x })
    ∷ required (codes "chroma_scaling_from_luma") truth (λ g x. record g { chroma_scaling_from_luma = x })
    ∷ required (codes "grain_scale_shift") (whole 8) (λ g x. record g { grain_scale_shift = x })
    ∷ required (codes "random_seed") (whole 16) (λ g x. record g { random_seed = x })
    ∷ []

abbrev pub grain : Kind Grain
grain = object_of grain_rows no_grain
