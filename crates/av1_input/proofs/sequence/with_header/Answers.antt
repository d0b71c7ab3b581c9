use Rattle.av1_input.specs.Sequence.{header_rows}
use Rattle.av1_input.proofs.Rows.{here, poured, so_far, ◌▸◌}
use Rattle.av1_input.proofs.sequence.with_header.Goals as goal

pub returns : goal.returns
returns c = poured (here so_far header_rows c.args.seq c.args.members.now ▸ c.optional.ensures ▸ c.or.ensures ▸ c.or-2.ensures ▸ c.optional-2.ensures ▸ c.optional-3.ensures ▸ c.optional-4.ensures)
