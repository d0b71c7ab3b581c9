use Rattle.av1_input.specs.Frame.{show_rows}
use Rattle.av1_input.proofs.Rows.{here, poured, so_far, ◌▸◌}
use Rattle.av1_input.proofs.frame.with_show.Goals as goal

pub returns : goal.returns
returns c = poured (here so_far show_rows c.args.fi c.args.members.now ▸ c.optional.ensures ▸ c.or.ensures ▸ c.optional-2.ensures ▸ c.optional-3.ensures ▸ c.optional-4.ensures ▸ c.optional-5.ensures ▸ c.or-2.ensures ▸ c.optional-6.ensures ▸ c.optional-7.ensures ▸ c.or-3.ensures)
