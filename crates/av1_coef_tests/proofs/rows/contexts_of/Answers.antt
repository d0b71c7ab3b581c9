use Rattle.std.proofs.Common.{sym, arith}
use Rattle.av1_geometry.specs.declared.tx_size.TxSize.TheVariants.{TX_8X8}
use Rattle.av1_coef_tests.proofs.rows.contexts_of.Goals as goal

pub get_nz_map_contexts-requires-clause-places : goal.get_nz_map_contexts-requires-clause-places
get_nz_map_contexts-requires-clause-places c = λ i l.
    c.law_of_scans.ensures.inside TX_8X8 c.args.tx_class c.args.scan.now i (sym c.in-None.ensures) (omega (arith, l))
