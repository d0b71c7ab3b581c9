use Rattle.std.specs.Prelude.{[]}
use Rattle.av1_input.specs.Item.{mv, mv_rows, nothing}
use Rattle.av1_input.specs.Rows.{closed}
use Rattle.av1_input.proofs.Rows.{computed, here, rest, ◌▸◌}
use Rattle.av1_input.proofs.item.mv.Goals as goal

pub returns : goal.returns
returns c =
    let at_end = here (closed mv) mv_rows (nothing []) c.args.members ▸ c.required-list.ensures ▸ c.required-parts.ensures in
    rest c.finish.result at_end (computed (closed (λ x. x)) c.of_vector.ensures c.finish.ensures)
