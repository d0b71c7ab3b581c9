use Rattle.av1_input.specs.Frame.{motion_rows}
use Rattle.av1_input.proofs.Rows.{here, poured, so_far, ◌▸◌}
use Rattle.av1_input.proofs.frame.with_motion.Goals as goal

pub returns : goal.returns
returns c = poured (here so_far motion_rows c.args.fi c.args.members.now ▸ c.optional.ensures ▸ c.optional-2.ensures ▸ c.optional-3.ensures ▸ c.optional-4.ensures ▸ c.optional-5.ensures ▸ c.or.ensures)
