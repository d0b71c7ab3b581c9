use Rattle.av1_input.specs.Filter.{guided, guided_rows, no_guided}
use Rattle.av1_input.specs.Rows.{closed}
use Rattle.av1_input.proofs.Rows.{here, rest, ◌▸◌}
use Rattle.av1_input.proofs.filter.guided.Goals as goal

pub returns : goal.returns
returns c = rest c.finish.result (here (closed guided) guided_rows no_guided c.args.members ▸ c.required.ensures ▸ c.required-2.ensures) c.finish.ensures
