use Rattle.av1_input.specs.Item.{segment, byte_rows, nothing}
use Rattle.av1_input.specs.Rows.{closed}
use Rattle.av1_input.proofs.Rows.{here, rest, ◌▸◌}
use Rattle.av1_input.proofs.item.segment.Goals as goal

pub returns : goal.returns
returns c = rest c.finish.result (here (closed segment) byte_rows (nothing 0) c.args.members ▸ c.required-answer.ensures) c.finish.ensures
