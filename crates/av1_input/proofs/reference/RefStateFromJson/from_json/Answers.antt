use Rattle.serde_json.specs.View.{view}
use Rattle.av1_input.specs.Refs.{ref_rows, no_ref}
use Rattle.av1_input.specs.Rows.{closed}
use Rattle.av1_input.proofs.Rows.{begin, ◌▸◌, end}
use Rattle.av1_input.proofs.reference.RefStateFromJson.from_json.Goals as goal

pub returns : goal.returns
returns c = end c.finish.result (begin (closed (λ s. s)) ref_rows no_ref (view c.args.value) c.of-members.ensures ▸ c.optional.ensures ▸ c.required.ensures ▸ c.required-2.ensures ▸ c.required-3.ensures ▸ c.required-4.ensures ▸ c.optional-2.ensures ▸ c.optional-3.ensures) c.finish.ensures
