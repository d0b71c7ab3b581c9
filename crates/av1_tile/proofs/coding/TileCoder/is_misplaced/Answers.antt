use Rattle.std.proofs.Common.{sym, ◌∙◌, ap}
use Rattle.av1_step.specs.declared.unit.Item.{Item}
use Rattle.av1_tile.specs.Trials.{strays, misplaced}
use Rattle.av1_tile.proofs.coding.TileCoder.is_misplaced.Goals as goal

pub returns-in-Step : goal.returns-in-Step
returns-in-Step g c start p s = c.is_misplaced_step.ensures start p s ∙ ap (λ (i : Item). misplaced i p.at.context p.trials) (sym c.in-Step.is)

pub returns-in-Begin : goal.returns-in-Begin
returns-in-Begin g c start p s = c.strays.ensures start p s ∙ ap (λ (i : Item). misplaced i p.at.context p.trials) (sym c.in-Begin.is)
