use Rattle.av1_input.specs.Item.{mv_refs, mv_refs_rows, nothing}
use Rattle.av1_input.specs.Rows.{closed}
use Rattle.av1_input.proofs.Rows.{here, rest, ◌▸◌}
use Rattle.av1_input.proofs.item.mv_refs.Goals as goal

pub returns : goal.returns
returns c = rest c.finish.result (here (closed mv_refs) mv_refs_rows (nothing tt) c.args.members ▸ c.required-has_tr.ensures) c.finish.ensures
