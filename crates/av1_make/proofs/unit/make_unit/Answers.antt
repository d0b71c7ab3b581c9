use Rattle.std.proofs.Common.{refl}
use Rattle.av1_make.specs.Unit.{made_given}
use Rattle.av1_make.proofs.unit.make_unit.Goals as goal

pub returns-clause-given : goal.returns-clause-given
unfolding made_given
returns-clause-given c =
    rw (c.in_ok-uniform.ensures, c.in_ok-diagonal.ensures.value, c.new.ensures, c.default.ensures, c.made_width.ensures.value, c.made_height.ensures.value, c.default-2.ensures, c.new-2.ensures.items)
    refl

pub returns-clause-scripts : goal.returns-clause-scripts
returns-clause-scripts c = rw (c.in_ok-push.ensures.items, c.new-scripts.ensures.items, c.in_ok-made_items.ensures) refl
