use Rattle.serde_json.specs.View.{view}
use Rattle.av1_input.specs.Rows.{closed}
use Rattle.av1_input.specs.Unit.{nothing_said, unit_rows}
use Rattle.av1_input.proofs.Rows.{begin, ◌▸◌, end}
use Rattle.av1_input.proofs.unit.unit_members.Goals as goal

pub returns : goal.returns
returns c = end c.finish.result (begin (closed (λ s. s)) unit_rows nothing_said (view c.args.value) c.of-members.ensures ▸ c.optional.ensures ▸ c.optional-2.ensures ▸ c.optional-3.ensures ▸ c.required.ensures ▸ c.optional-4.ensures ▸ c.list.ensures ▸ c.or.ensures ▸ c.optional-5.ensures ▸ c.optional-6.ensures ▸ c.required_list.ensures) c.finish.ensures
