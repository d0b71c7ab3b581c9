use Rattle.std.specs.Prelude.{[]}
use Rattle.av1_input.specs.Item.{cfl_alphas, cfl_alphas_rows, nothing}
use Rattle.av1_input.specs.Rows.{closed}
use Rattle.av1_input.proofs.Rows.{computed, here, rest, ◌▸◌}
use Rattle.av1_input.proofs.item.cfl_alphas.Goals as goal

pub returns : goal.returns
returns c = rest c.finish.result (here (closed cfl_alphas) cfl_alphas_rows (nothing []) c.args.members ▸ c.required-alphas.ensures) (computed (closed (λ x. x)) c.of_alphas.ensures c.finish.ensures)
