use Rattle.std.specs.Prelude.{false}
use Rattle.av1_input.specs.Item.{skip, flag_rows, nothing}
use Rattle.av1_input.specs.Rows.{closed}
use Rattle.av1_input.proofs.Rows.{here, rest, ◌▸◌}
use Rattle.av1_input.proofs.item.skip.Goals as goal

pub returns : goal.returns
returns c = rest c.finish.result (here (closed skip) flag_rows (nothing false) c.args.members ▸ c.required.ensures) c.finish.ensures
