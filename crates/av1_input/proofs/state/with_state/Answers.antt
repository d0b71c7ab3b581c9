use Rattle.av1_input.specs.FrameState.{state_rows}
use Rattle.av1_input.proofs.Rows.{here, poured, so_far, ◌▸◌}
use Rattle.av1_input.proofs.state.with_state.Goals as goal

pub returns : goal.returns
returns c = poured (here so_far state_rows c.args.fs c.args.members.now ▸ c.optional.ensures ▸ c.optional-2.ensures ▸ c.optional-3.ensures ▸ c.optional-4.ensures)
