use Rattle.std.specs.Prelude.{[]}
use Rattle.av1_input.specs.Item.{coeffs, coeffs_rows, nothing}
use Rattle.av1_input.specs.Rows.{closed}
use Rattle.av1_input.proofs.Rows.{here, rest, ◌▸◌}
use Rattle.av1_input.proofs.item.coeffs.Goals as goal

pub returns : goal.returns
returns c = rest c.finish.result (here (closed coeffs) coeffs_rows (nothing []) c.args.members ▸ c.required.ensures ▸ c.required-2.ensures ▸ c.required-3.ensures ▸ c.required-4.ensures ▸ c.required-5.ensures) c.finish.ensures
