use Rattle.std.proofs.Common.{arith}
use Rattle.av1_geometry.specs.PredictionMode.{prediction_mode_number}
use Rattle.av1_syntax.specs.IntraModes.{mode_below}
use Rattle.av1_syntax.proofs.Values.{mode_below_told}
use Rattle.av1_syntax.proofs.Writing.{wrote_symbol}
use Rattle.av1_syntax.proofs.context_writer.ContextWriter.write_intra_mode_kf.Goals as goal

pub symbol-requires-clause-s : goal.symbol-requires-clause-s
symbol-requires-clause-s g c = omega (arith, c.kf_y_slot-cdf.ensures.len, c.number.ensures.value, c.requires.luma)

pub returns-clause-wrote : goal.returns-clause-wrote
returns-clause-wrote g c =
    wrote_symbol c.symbol.result _ _ (mode_below 13) prediction_mode_number c.number.result c.args.mode _ _ c.kf_y_slot-cdf.ensures.is c.number.ensures.value (mode_below_told 13 c.args.mode c.requires.luma) c.symbol.ensures.ok c.symbol.ensures.err
