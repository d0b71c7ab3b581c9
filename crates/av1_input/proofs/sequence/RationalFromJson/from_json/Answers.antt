use Rattle.serde_json.specs.View.{view}
use Rattle.av1_input.specs.Sequence.{rational_rows, no_time}
use Rattle.av1_input.specs.Rows.{closed}
use Rattle.av1_input.proofs.Rows.{begin, ◌▸◌, end}
use Rattle.av1_input.proofs.sequence.RationalFromJson.from_json.Goals as goal

pub returns : goal.returns
returns c = end c.finish.result (begin (closed (λ s. s)) rational_rows no_time (view c.args.value) c.of-members.ensures ▸ c.optional.ensures ▸ c.optional-2.ensures) c.finish.ensures
