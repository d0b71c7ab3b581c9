use Rattle.std.specs.Prelude.{[]}
use Rattle.av1_input.specs.Item.{delta_lf, delta_lf_rows, nothing}
use Rattle.av1_input.specs.Rows.{closed}
use Rattle.av1_input.proofs.Rows.{here, rest, ◌▸◌}
use Rattle.av1_input.proofs.item.delta_lf.Goals as goal

pub returns : goal.returns
returns c = rest c.finish.result (here (closed delta_lf) delta_lf_rows (nothing []) c.args.members ▸ c.required-answer.ensures) c.finish.ensures
