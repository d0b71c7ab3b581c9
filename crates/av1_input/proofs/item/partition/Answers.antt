use Rattle.av1_geometry.specs.declared.partition_type.PartitionType.TheVariants.{PARTITION_NONE}
use Rattle.av1_input.specs.Item.{parted, partition_rows, nothing}
use Rattle.av1_input.specs.Rows.{closed}
use Rattle.av1_input.proofs.Rows.{here, rest, ◌▸◌}
use Rattle.av1_input.proofs.item.partition.Goals as goal

pub returns : goal.returns
returns c = rest c.finish.result (here (closed parted) partition_rows (nothing PARTITION_NONE) c.args.members ▸ c.required.ensures ▸ c.required-2.ensures ▸ c.required-3.ensures ▸ c.required-4.ensures) c.finish.ensures
