use Rattle.av1_input.specs.Sequence.{force_rows}
use Rattle.av1_input.proofs.Rows.{here, poured, so_far, ◌▸◌}
use Rattle.av1_input.proofs.sequence.with_force.Goals as goal

pub returns : goal.returns
returns c = poured (here so_far force_rows c.args.seq c.args.members.now ▸ c.or.ensures ▸ c.or-2.ensures ▸ c.optional.ensures ▸ c.optional-2.ensures ▸ c.optional-3.ensures ▸ c.optional-4.ensures ▸ c.optional-5.ensures ▸ c.optional-6.ensures ▸ c.optional-7.ensures)
