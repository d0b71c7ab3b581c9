use Rattle.std.proofs.Common.{false, refl, arith}
use Rattle.av1_cdf.proofs.Cells.{slot_within}
use Rattle.av1_cdf.specs.Distribution.Distribution.{Adaptive}
use Rattle.av1_cdf.specs.Slots.{slot_of}
use Rattle.av1_model.specs.Element.{symbol, known}
use Rattle.av1_syntax.specs.Flags.{flag_number}
use Rattle.av1_syntax.specs.Palette.{off_of}
use Rattle.av1_syntax.proofs.Writing.{wrote_symbol, chosen}
use Rattle.av1_syntax.proofs.context_writer.ContextWriter.off_where.Goals as goal

pub symbol-requires-clause-s : goal.symbol-requires-clause-s
symbol-requires-clause-s g c = omega (arith, (slot_within c.args.cdf.place c.args.cdf.len c.args.cdf.is_slot).1)

pub returns-then-asked-clause-wrote : goal.returns-then-asked-clause-wrote
returns-then-asked-clause-wrote g c =
    chosen c.symbol.result c.args.asked (symbol (Adaptive (slot_of c.args.cdf)) off_of flag_number) (known false) false _ _ c.if-asked.true
    (wrote_symbol c.symbol.result _ _ off_of flag_number 0 false _ _ refl refl refl c.symbol.ensures.ok c.symbol.ensures.err)
