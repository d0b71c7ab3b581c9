-- The parameters of film grain as contracts see them: each list is a plain one.
use Rattle.std.specs.Prelude.{ℕ, ℤ, Bool, List}

pub record Grain : Type 0 where
  pub scaling_points_y : List (List ℕ)
  pub scaling_points_cb : List (List ℕ)
  pub scaling_points_cr : List (List ℕ)
  pub scaling_shift : ℕ
  pub ar_coeff_lag : ℕ
  pub ar_coeffs_y : List ℤ
  pub ar_coeffs_cb : List ℤ
  pub ar_coeffs_cr : List ℤ
  pub ar_coeff_shift : ℕ
  pub cb_mult : ℕ
  pub cb_luma_mult : ℕ
  pub cb_offset : ℕ
  pub cr_mult : ℕ
  pub cr_luma_mult : ℕ
  pub cr_offset : ℕ
  pub overlap_flag : Bool
  pub chroma_scaling_from_luma : Bool
  pub grain_scale_shift : ℕ
  pub random_seed : ℕ
