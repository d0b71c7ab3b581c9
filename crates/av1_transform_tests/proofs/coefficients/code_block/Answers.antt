use Rattle.av1_transform_tests.proofs.Putting.{zero_at}
use Rattle.av1_transform_tests.proofs.coefficients.code_block.Goals as goal

pub put_levels-requires-clause-zeros : goal.put_levels-requires-clause-zeros
put_levels-requires-clause-zeros g c = zero_at 1024
