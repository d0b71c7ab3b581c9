-- Film grain as contracts see it.
use Rattle.av1_frame.specs.Grain.{Grain}
use Rattle.av1_frame.specs.declared.film_grain.FilmGrain.TheInside.{Inside}

abbrev pub grain_of : Inside → Grain
grain_of g = record {
  scaling_points_y = g.scaling_points_y.items;
  scaling_points_cb = g.scaling_points_cb.items;
  scaling_points_cr = g.scaling_points_cr.items;
  scaling_shift = g.scaling_shift;
  ar_coeff_lag = g.ar_coeff_lag;
  ar_coeffs_y = g.ar_coeffs_y.items;
  ar_coeffs_cb = g.ar_coeffs_cb.items;
  ar_coeffs_cr = g.ar_coeffs_cr.items;
  ar_coeff_shift = g.ar_coeff_shift;
  cb_mult = g.cb_mult;
  cb_luma_mult = g.cb_luma_mult;
  cb_offset = g.cb_offset;
  cr_mult = g.cr_mult;
  cr_luma_mult = g.cr_luma_mult;
  cr_offset = g.cr_offset;
  overlap_flag = g.overlap_flag;
  chroma_scaling_from_luma = g.chroma_scaling_from_luma;
  grain_scale_shift = g.grain_scale_shift;
  random_seed = g.random_seed;
}
