use Rattle.av1_input.specs.Frame.{reference_rows}
use Rattle.av1_input.proofs.Rows.{here, poured, so_far, ◌▸◌}
use Rattle.av1_input.proofs.frame.with_reference.Goals as goal

pub returns : goal.returns
returns c = poured (here so_far reference_rows c.args.fi c.args.members.now ▸ c.optional.ensures ▸ c.optional-2.ensures ▸ c.or.ensures ▸ c.or-2.ensures ▸ c.optional-3.ensures ▸ c.or-3.ensures ▸ c.or-4.ensures ▸ c.optional-4.ensures ▸ c.optional-5.ensures)
