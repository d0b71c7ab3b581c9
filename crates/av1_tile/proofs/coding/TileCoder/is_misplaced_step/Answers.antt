use Rattle.std.proofs.Common.{true, false, ◌||◌, sym, ◌∙◌, ap}
use Rattle.av1_step.specs.declared.unit.Item.TheVariants.{Step}
use Rattle.av1_tile.specs.Trials.{strays, place_of}
use Rattle.av1_tile.proofs.coding.TileCoder.is_misplaced_step.Goals as goal

pub returns-then-is_barred : goal.returns-then-is_barred
returns-then-is_barred g c start p s = c.if-is_barred.true ∙ ap (λ b. b || strays p.trials (place_of (Step c.args.step.now) p.at.context)) (sym c.if-is_barred.true ∙ c.is_barred.ensures start p s)

pub returns-else-is_barred : goal.returns-else-is_barred
returns-else-is_barred g c start p s =
    c.is_astray.ensures start p s ∙ ap (λ b. b || strays p.trials (place_of (Step c.args.step.now) p.at.context)) (sym c.if-is_barred.false ∙ c.is_barred.ensures start p s)
