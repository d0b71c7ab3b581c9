use Rattle.std.specs.Prelude.{[]}
use Rattle.serde_json.specs.View.{view}
use Rattle.av1_input.specs.Item.{item_kinds, of_op, op_rows}
use Rattle.av1_input.proofs.Rows.{begin, computed, end, ◌▸◌}
use Rattle.av1_input.proofs.item.ItemFromJson.from_json.Goals as goal

pub returns : goal.returns
returns c = end c.item_of.result (begin (of_op item_kinds) op_rows [] (view c.args.value) c.of-members.ensures ▸ c.required_text-op.ensures) (computed (of_op item_kinds) c.as_str.ensures.value c.item_of.ensures)
