use Rattle.av1_make.specs.Blocks.{coefficients}
use Rattle.av1_make.proofs.Making.{then_makes}
use Rattle.av1_make.proofs.blocks.add_coefficients.Goals as goal

pub returns : goal.returns
unfolding coefficients
returns c = then_makes _ _ _ _ _ _ c.in_ok-add_transform.ensures (then_makes _ _ _ _ _ _ c.in_ok-add_transform-2.ensures c.add_transform-3.ensures)
