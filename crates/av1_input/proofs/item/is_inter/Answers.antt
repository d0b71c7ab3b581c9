use Rattle.std.specs.Prelude.{false}
use Rattle.av1_input.specs.Item.{is_inter, flag_rows, nothing}
use Rattle.av1_input.specs.Rows.{closed}
use Rattle.av1_input.proofs.Rows.{here, rest, ◌▸◌}
use Rattle.av1_input.proofs.item.is_inter.Goals as goal

pub returns : goal.returns
returns c = rest c.finish.result (here (closed is_inter) flag_rows (nothing false) c.args.members ▸ c.required-answer.ensures) c.finish.ensures
