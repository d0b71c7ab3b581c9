use Rattle.std.proofs.Common.{true, false, not, ◌&&◌, sym, ◌∙◌, ap}
use Rattle.av1_step.specs.Step.{is_untried}
use Rattle.av1_tile.specs.Trials.{no_trial}
use Rattle.av1_tile.proofs.coding.TileCoder.is_barred.Goals as goal

pub returns-then-is_untried : goal.returns-then-is_untried
returns-then-is_untried g c start p s = c.is_in_trial.ensures start p s ∙ ap (λ b. b && not (no_trial p.trials)) (sym (sym c.is_untried.ensures ∙ c.if-is_untried.true))

pub returns-else-is_untried : goal.returns-else-is_untried
returns-else-is_untried g c start p s = c.if-is_untried.false ∙ ap (λ b. b && not (no_trial p.trials)) (sym (sym c.is_untried.ensures ∙ c.if-is_untried.false))
