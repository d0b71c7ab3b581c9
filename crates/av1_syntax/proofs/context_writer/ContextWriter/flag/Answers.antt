use Rattle.std.proofs.Common.{◌≤◌, ◌∙◌, refl, arith, rules}
use Rattle.av1_cdf.proofs.Cells.{slot_within}
use Rattle.av1_syntax.specs.Flags.{flag_of, flag_number}
use Rattle.av1_syntax.proofs.Values.{flag_told, flag_byte}
use Rattle.av1_syntax.proofs.Writing.{wrote_symbol}
use Rattle.av1_syntax.proofs.context_writer.ContextWriter.flag.Goals as goal

pub symbol-requires-clause-s : goal.symbol-requires-clause-s
symbol-requires-clause-s g c =
    let two = (slot_within c.args.cdf.place c.args.cdf.len c.args.cdf.is_slot).1 in
    let small : c.from.result ≤ 1 = search rules in
    omega (arith, two, small)

pub returns-clause-wrote : goal.returns-clause-wrote
returns-clause-wrote g c =
    wrote_symbol c.symbol.result _ _ flag_of flag_number c.from.result c.args.on _ _ refl (c.from.ensures ∙ flag_byte c.args.on) (flag_told c.args.on) c.symbol.ensures.ok c.symbol.ensures.err
