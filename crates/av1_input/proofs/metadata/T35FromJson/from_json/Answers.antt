use Rattle.serde_json.specs.View.{view}
use Rattle.av1_input.specs.Metadata.{message_rows, no_message}
use Rattle.av1_input.specs.Rows.{closed}
use Rattle.av1_input.proofs.Rows.{begin, ◌▸◌, end}
use Rattle.av1_input.proofs.metadata.T35FromJson.from_json.Goals as goal

pub returns : goal.returns
returns c = end c.finish.result (begin (closed (λ s. s)) message_rows no_message (view c.args.value) c.of-members.ensures ▸ c.optional.ensures ▸ c.optional-2.ensures ▸ c.list.ensures) c.finish.ensures
