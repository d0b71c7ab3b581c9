use Rattle.av1_syntax.proofs.VectorWrites.{fraction_refused, fraction_wrote}
use Rattle.av1_syntax.proofs.context_writer.ContextWriter.write_mv_fraction.Goals as goal

pub returns-in_err-digit_where-clause-wrote : goal.returns-in_err-digit_where-clause-wrote
returns-in_err-digit_where-clause-wrote g c =
    fraction_refused c.from_residual.result c.args.axis c.args.precision c.args.mv_class c.args.offset c.has_quarters.result _ _ _ c.requires.axis c.has_quarters.ensures c.quarters_slot-quarters.ensures.is c.from_residual.ensures.0 (c.in_err-digit_where.ensures.wrote 3)

pub returns-clause-wrote : goal.returns-clause-wrote
returns-clause-wrote g c =
    fraction_wrote c.digit_where-2.result c.args.axis c.args.precision c.args.mv_class c.args.offset c.has_quarters.result c.has_eighths.result _ _ _ _ _ c.has_quarters.ensures c.quarters_slot-quarters.ensures.is c.has_eighths.ensures c.eighth_slot-eighth.ensures.is
    (c.in_ok-digit_where.ensures.wrote 3) (c.digit_where-2.ensures.wrote 1)
