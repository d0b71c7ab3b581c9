use Rattle.serde_json.specs.View.{view}
use Rattle.av1_input.specs.Sequence.{mastering_rows, no_display}
use Rattle.av1_input.specs.Rows.{closed}
use Rattle.av1_input.proofs.Rows.{begin, ◌▸◌, end}
use Rattle.av1_input.proofs.sequence.MasteringDisplayFromJson.from_json.Goals as goal

pub returns : goal.returns
returns c = end c.finish.result (begin (closed (λ s. s)) mastering_rows no_display (view c.args.value) c.of-members.ensures ▸ c.optional.ensures ▸ c.optional-2.ensures ▸ c.optional-3.ensures ▸ c.optional-4.ensures) c.finish.ensures
