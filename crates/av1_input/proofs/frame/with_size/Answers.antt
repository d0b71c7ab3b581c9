use Rattle.av1_input.specs.Frame.{size_rows}
use Rattle.av1_input.proofs.Rows.{by_default, here, poured, so_far, ◌▸◌}
use Rattle.av1_input.proofs.frame.with_size.Goals as goal

pub returns : goal.returns
returns c = poured (here so_far size_rows c.args.fi c.args.members.now ▸ c.required-width.ensures ▸ c.required-height.ensures ▸ by_default c.div_ceil.ensures c.or.ensures ▸ by_default c.div_ceil-2.ensures c.or-2.ensures)
