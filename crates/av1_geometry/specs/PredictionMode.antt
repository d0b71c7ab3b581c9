-- The modes of prediction by their numbers.
use Rattle.std.specs.Prelude.{ℕ, Bool, true, false, Option, slice_get}
use Rattle.av1_geometry.specs.declared.prediction_mode.PredictionMode.{PredictionMode}
use Rattle.av1_geometry.specs.declared.prediction_mode.PredictionMode.TheVariants.{DC_PRED, V_PRED, H_PRED, D45_PRED, D135_PRED, D113_PRED}
use Rattle.av1_geometry.specs.declared.prediction_mode.PredictionMode.TheVariants.{D157_PRED, D203_PRED, D67_PRED, SMOOTH_PRED, SMOOTH_V_PRED}
use Rattle.av1_geometry.specs.declared.prediction_mode.PredictionMode.TheVariants.{SMOOTH_H_PRED, PAETH_PRED, UV_CFL_PRED, NEARESTMV, NEAR0MV}
use Rattle.av1_geometry.specs.declared.prediction_mode.PredictionMode.TheVariants.{NEAR1MV, NEAR2MV, GLOBALMV, NEWMV, NEAREST_NEARESTMV}
use Rattle.av1_geometry.specs.declared.prediction_mode.PredictionMode.TheVariants.{NEAR_NEAR0MV, NEAR_NEAR1MV, NEAR_NEAR2MV, NEAREST_NEWMV}
use Rattle.av1_geometry.specs.declared.prediction_mode.PredictionMode.TheVariants.{NEW_NEARESTMV, NEAR_NEW0MV, NEAR_NEW1MV, NEAR_NEW2MV}
use Rattle.av1_geometry.specs.declared.prediction_mode.PredictionMode.TheVariants.{NEW_NEAR0MV, NEW_NEAR1MV, NEW_NEAR2MV, GLOBAL_GLOBALMV, NEW_NEWMV}
use Rattle.av1_geometry.specs.declared.prediction_mode.TheConstants.{ALL_MODES}

-- the place of a mode in the order of the enum
abbrev pub prediction_mode_number : PredictionMode → ℕ
prediction_mode_number DC_PRED = 0
prediction_mode_number V_PRED = 1
prediction_mode_number H_PRED = 2
prediction_mode_number D45_PRED = 3
prediction_mode_number D135_PRED = 4
prediction_mode_number D113_PRED = 5
prediction_mode_number D157_PRED = 6
prediction_mode_number D203_PRED = 7
prediction_mode_number D67_PRED = 8
prediction_mode_number SMOOTH_PRED = 9
prediction_mode_number SMOOTH_V_PRED = 10
prediction_mode_number SMOOTH_H_PRED = 11
prediction_mode_number PAETH_PRED = 12
prediction_mode_number UV_CFL_PRED = 13
prediction_mode_number NEARESTMV = 14
prediction_mode_number NEAR0MV = 15
prediction_mode_number NEAR1MV = 16
prediction_mode_number NEAR2MV = 17
prediction_mode_number GLOBALMV = 18
prediction_mode_number NEWMV = 19
prediction_mode_number NEAREST_NEARESTMV = 20
prediction_mode_number NEAR_NEAR0MV = 21
prediction_mode_number NEAR_NEAR1MV = 22
prediction_mode_number NEAR_NEAR2MV = 23
prediction_mode_number NEAREST_NEWMV = 24
prediction_mode_number NEW_NEARESTMV = 25
prediction_mode_number NEAR_NEW0MV = 26
prediction_mode_number NEAR_NEW1MV = 27
prediction_mode_number NEAR_NEW2MV = 28
prediction_mode_number NEW_NEAR0MV = 29
prediction_mode_number NEW_NEAR1MV = 30
prediction_mode_number NEW_NEAR2MV = 31
prediction_mode_number GLOBAL_GLOBALMV = 32
prediction_mode_number NEW_NEWMV = 33

-- the value with this number
abbrev pub prediction_mode_of : ℕ → Option PredictionMode
prediction_mode_of number = slice_get ALL_MODES number

-- the modes that code a vector
abbrev pub has_newmv : PredictionMode → Bool
has_newmv NEWMV = true
has_newmv NEAREST_NEWMV = true
has_newmv NEW_NEARESTMV = true
has_newmv NEAR_NEW0MV = true
has_newmv NEAR_NEW1MV = true
has_newmv NEAR_NEW2MV = true
has_newmv NEW_NEAR0MV = true
has_newmv NEW_NEAR1MV = true
has_newmv NEW_NEAR2MV = true
has_newmv NEW_NEWMV = true
has_newmv _ = false
