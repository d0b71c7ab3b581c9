use Rattle.std.proofs.Common.{refl, rules}
use Rattle.av1_header.specs.Deltas.{quantization_params}
use Rattle.av1_header.proofs.RowLaws.{number_then, flag_then, on_then, wrote_number}
use Rattle.av1_header.proofs.deltas.write_quantizer.Goals as goal

pub returns : goal.returns
unfolding quantization_params
returns c =
    number_then _ _ _ _ _ _ _ _ _ _ _ _ _ _ _ _ _ _ _ c.number_or.ensures refl refl refl (search rules)
    (on_then _ _ _ _ _ _ _ _ _ _ _ _ _ c.write_delta.ensures (search (rules, c.dc_delta.ensures))
    (flag_then _ _ _ _ _ _ _ _ _ _ _ _ _ _ _ _ _ c.flag_or-differs.ensures refl refl c.chroma_differs.ensures
    (on_then _ _ _ _ _ _ _ _ _ _ _ _ _ c.write_delta-2.ensures (search (rules, c.dc_delta-2.ensures))
    (on_then _ _ _ _ _ _ _ _ _ _ _ _ _ c.write_delta-3.ensures (search (rules, c.ac_delta.ensures))
    (on_then _ _ _ _ _ _ _ _ _ _ _ _ _ c.write_delta-4.ensures (search (rules, c.dc_delta-3.ensures))
    (on_then _ _ _ _ _ _ _ _ _ _ _ _ _ c.write_delta-5.ensures (search (rules, c.ac_delta-2.ensures))
    (wrote_number _ _ _ _ _ _ _ _ _ _ _ _ _ _ _ c.fixed.ensures refl refl refl refl)))))))
