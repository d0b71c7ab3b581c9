use Rattle.serde_json.specs.View.{view}
use Rattle.av1_input.specs.FrameState.{deblock_rows}
use Rattle.av1_frame.specs.Defaults.{nothing_deblocked}
use Rattle.av1_input.specs.Rows.{closed}
use Rattle.av1_input.proofs.Rows.{begin, ◌▸◌, end}
use Rattle.av1_input.proofs.state.DeblockStateFromJson.from_json.Goals as goal

pub returns : goal.returns
returns c = end c.finish.result (begin (closed (λ s. s)) deblock_rows nothing_deblocked (view c.args.value) c.of-members.ensures ▸ c.optional.ensures ▸ c.optional-2.ensures ▸ c.optional-3.ensures ▸ c.optional-4.ensures ▸ c.optional-5.ensures ▸ c.optional-6.ensures ▸ c.optional-7.ensures ▸ c.optional-8.ensures ▸ c.optional-9.ensures) c.finish.ensures
