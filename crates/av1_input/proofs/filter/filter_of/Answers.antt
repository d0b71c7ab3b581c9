use Rattle.std.specs.Prelude.{[]}
use Rattle.serde_json.specs.View.{view}
use Rattle.av1_input.specs.Filter.{filter_by}
use Rattle.av1_input.proofs.Rows.{begin, end}
use Rattle.av1_input.proofs.filter.filter_of.Goals as goal

pub returns : goal.returns
returns c = end c.filter_by.result (begin filter_by [] tt (view c.args.value) c.of-members.ensures) c.filter_by.ensures
