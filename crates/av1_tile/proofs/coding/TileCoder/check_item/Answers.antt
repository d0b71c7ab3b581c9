use Rattle.std.proofs.Common.{ℕ, sym, ◌∙◌, ap}
use Rattle.av1_model.specs.Interval.{bits}
use Rattle.av1_step.specs.declared.unit.Item.{Item}
use Rattle.av1_step.specs.State.{tile_of}
use Rattle.av1_step.specs.Step.{step_fault}
use Rattle.av1_step.specs.Tile.{Tile}
use Rattle.av1_tile.specs.Trials.{item_fault}
use Rattle.av1_tile.proofs.Coded.{told_bits}
use Rattle.av1_tile.proofs.coding.TileCoder.check_item.Goals as goal

pub returns-in-Step : goal.returns-in-Step
returns-in-Step g c start p s =
    c.check_step.ensures
    ∙ ap (λ (k : ℕ). step_fault (tile_of c.args.self.now.tile) k c.in-Step.step) (c.tell.ensures ∙ told_bits start (g.W.Known.position c.args.self.now.writer) p.at.interval s.coded)
    ∙ ap (λ (t : Tile). step_fault t (bits p.at.interval) c.in-Step.step) s.tile_is
    ∙ ap (λ (i : Item). item_fault i p.at) (sym c.in-Step.is)
