use Rattle.std.specs.Prelude.{[]}
use Rattle.av1_syntax.specs.declared.restoration.RestorationFilter.TheVariants.{Wiener}
use Rattle.av1_input.specs.Filter.{wiener_rows}
use Rattle.av1_input.specs.Rows.{closed}
use Rattle.av1_input.proofs.Rows.{here, rest, ◌▸◌}
use Rattle.av1_input.proofs.filter.wiener.Goals as goal

pub returns : goal.returns
returns c = rest c.finish.result (here (closed Wiener) wiener_rows [] c.args.members ▸ c.required-coeffs.ensures) c.finish.ensures
