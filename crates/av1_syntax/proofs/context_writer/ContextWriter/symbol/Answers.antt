use Rattle.std.proofs.Common.{sym, subst}
use Rattle.av1_cdf.specs.Slots.{slot_of}
use Rattle.av1_model.specs.Cdf.{IsCdf}
use Rattle.av1_syntax.proofs.context_writer.ContextWriter.symbol.Goals as goal

pub fixed_symbol-requires-clause-cdf : goal.fixed_symbol-requires-clause-cdf
fixed_symbol-requires-clause-cdf g c = subst IsCdf (sym c.values_of.ensures.value) (c.requires.cdfs.valid (slot_of c.args.cdf) c.args.cdf.is_slot)
