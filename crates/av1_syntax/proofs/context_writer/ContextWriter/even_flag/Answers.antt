use Rattle.std.proofs.Common.{◌∙◌, ◌∷◌, [], refl, arith}
use Rattle.av1_cdf.specs.Distribution.{Even}
use Rattle.av1_cdf.specs.Distribution.Distribution.{Fixed}
use Rattle.av1_syntax.specs.Flags.{flag_of, flag_number}
use Rattle.av1_syntax.proofs.Gathering.{two_numbers}
use Rattle.av1_syntax.proofs.Values.{flag_told, flag_byte}
use Rattle.av1_syntax.proofs.Writing.{wrote_by}
use Rattle.av1_syntax.proofs.context_writer.ContextWriter.even_flag.Goals as goal

pub fixed_symbol-requires-clause-cdf : goal.fixed_symbol-requires-clause-cdf
fixed_symbol-requires-clause-cdf g c = two_numbers 16384 (omega arith)

pub returns-clause-wrote : goal.returns-clause-wrote
returns-clause-wrote g c =
    wrote_by c.fixed_symbol.result (Fixed (16384 ∷ 0 ∷ [])) Even flag_of flag_number c.from.result c.args.on _ _ refl (c.from.ensures ∙ flag_byte c.args.on) (flag_told c.args.on) c.fixed_symbol.ensures.ok c.fixed_symbol.ensures.err
