use Rattle.av1_input.specs.Item.{begin, begin_rows, nothing}
use Rattle.av1_input.specs.Rows.{closed}
use Rattle.av1_input.proofs.Rows.{here, rest, ◌▸◌}
use Rattle.av1_input.proofs.item.begin.Goals as goal

pub returns : goal.returns
returns c = rest c.finish.result (here (closed begin) begin_rows (nothing tt) c.args.members ▸ c.required.ensures ▸ c.required-2.ensures) c.finish.ensures
