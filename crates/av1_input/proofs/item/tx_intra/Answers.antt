use Rattle.av1_geometry.specs.declared.tx_size.TxSize.TheVariants.{TX_4X4}
use Rattle.av1_input.specs.Item.{tx_intra, tx_intra_rows, nothing}
use Rattle.av1_input.specs.Rows.{closed}
use Rattle.av1_input.proofs.Rows.{here, rest, ◌▸◌}
use Rattle.av1_input.proofs.item.tx_intra.Goals as goal

pub returns : goal.returns
returns c = rest c.finish.result (here (closed tx_intra) tx_intra_rows (nothing TX_4X4) c.args.members ▸ c.required-answer.ensures) c.finish.ensures
