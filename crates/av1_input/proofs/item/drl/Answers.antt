use Rattle.std.specs.Prelude.{false}
use Rattle.av1_input.specs.Item.{drl, drl_rows, nothing}
use Rattle.av1_input.specs.Rows.{closed}
use Rattle.av1_input.proofs.Rows.{here, rest, ◌▸◌}
use Rattle.av1_input.proofs.item.drl.Goals as goal

pub returns : goal.returns
returns c = rest c.finish.result (here (closed drl) drl_rows (nothing false) c.args.members ▸ c.required.ensures ▸ c.required-2.ensures) c.finish.ensures
