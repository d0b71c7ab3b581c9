use Rattle.av1_input.specs.Filter.{filter}
use Rattle.av1_input.specs.Item.{lrf, lrf_rows, nothing}
use Rattle.av1_input.specs.Rows.{closed}
use Rattle.av1_input.proofs.Rows.{here, rest, ◌▸◌}
use Rattle.av1_input.proofs.item.lrf.Goals as goal

pub returns : goal.returns
returns c = rest c.finish.result (here (closed lrf) lrf_rows (nothing filter.none) c.args.members ▸ c.required.ensures ▸ c.required-2.ensures) c.finish.ensures
