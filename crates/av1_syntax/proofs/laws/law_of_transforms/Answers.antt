use Rattle.av1_syntax.proofs.Splits.{part_reads, split_reads}
use Rattle.av1_syntax.proofs.TransformSizes.{tx_size_reads}
use Rattle.av1_syntax.proofs.TransformTypes.{tx_type_reads}
use Rattle.av1_syntax.proofs.laws.law_of_transforms.Goals as goal

pub returns-clause-types : goal.returns-clause-types
returns-clause-types c = tx_type_reads

pub returns-clause-sizes : goal.returns-clause-sizes
returns-clause-sizes c = tx_size_reads

pub returns-clause-splits : goal.returns-clause-splits
returns-clause-splits c = split_reads

pub returns-clause-parts : goal.returns-clause-parts
returns-clause-parts c bc bo size tbx tby larger = part_reads size larger bc bo tbx tby
