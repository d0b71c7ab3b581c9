use Rattle.std.proofs.Common.{arith}
use Rattle.av1_geometry.specs.PredictionMode.{prediction_mode_number}
use Rattle.av1_syntax.specs.IntraModes.{mode_below, uv_modes}
use Rattle.av1_syntax.proofs.Values.{mode_below_told}
use Rattle.av1_syntax.proofs.Writing.{wrote_symbol}
use Rattle.av1_syntax.proofs.context_writer.ContextWriter.write_intra_uv_mode.Goals as goal

pub symbol-requires-clause-s : goal.symbol-requires-clause-s
symbol-requires-clause-s g c = omega (arith, c.uv_mode_slot.ensures.len, c.number.ensures.value, c.requires.chroma)

pub returns-clause-wrote : goal.returns-clause-wrote
returns-clause-wrote g c =
    wrote_symbol c.symbol.result _ _ (mode_below (uv_modes c.args.bs)) prediction_mode_number c.number.result c.args.uv_mode _ _ c.uv_mode_slot.ensures.is c.number.ensures.value (mode_below_told (uv_modes c.args.bs) c.args.uv_mode c.requires.chroma)
    c.symbol.ensures.ok c.symbol.ensures.err
