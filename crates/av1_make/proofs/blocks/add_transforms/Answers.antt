use Rattle.std.proofs.Common.{subst}
use Rattle.std.specs.Prelude.{OnOk}
use Rattle.av1_geometry.specs.declared.tx_type.TxType.{TxType}
use Rattle.av1_make.specs.Blocks.{coefficients, transforms}
use Rattle.av1_make.specs.Draws.{Makes}
use Rattle.av1_make.proofs.Making.{makes_both, makes_nothing, then_makes}
use Rattle.av1_make.proofs.blocks.add_transforms.Goals as goal

pub returns-then-skip : goal.returns-then-skip
unfolding transforms
returns-then-skip c = makes_both _ _ _ _ _ c.in_ok-add_step.ensures (rw c.if-skip.true (makes_nothing c.add_step.new.self))

pub returns-else-skip : goal.returns-else-skip
unfolding transforms
returns-else-skip c =
    let Made : TxType → Type 0 = λ t. OnOk c.add_coefficients.result (Makes (coefficients c.args.x c.args.y t) c.add_step.new.self c.add_coefficients.new.maker) in
    then_makes _ _ _ _ _ _ c.in_ok-add_step.ensures (rw c.if-skip.false (subst Made c.chroma_type.ensures c.add_coefficients.ensures))
