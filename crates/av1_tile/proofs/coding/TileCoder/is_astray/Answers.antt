use Rattle.std.proofs.Common.{Option, sym, ◌∙◌, ap}
use Rattle.av1_geometry.specs.declared.block_offset.BlockOffset.{BlockOffset}
use Rattle.av1_step.specs.declared.unit.Item.TheVariants.{Step}
use Rattle.av1_step.specs.Tile.{Tile}
use Rattle.av1_tile.specs.Trials.{place_of, strays}
use Rattle.av1_tile.proofs.Standing.{strays_none}
use Rattle.av1_tile.proofs.coding.TileCoder.is_astray.Goals as goal

pub returns-in-Some : goal.returns-in-Some
returns-in-Some g c start p s =
    c.strays.ensures start p s
    ∙ ap (λ (o : Option BlockOffset). strays p.trials o) (sym c.in-Some.is ∙ c.place_of.ensures ∙ ap (λ (t : Tile). place_of (Step c.args.step.now) t) s.tile_is)

pub returns-in-None : goal.returns-in-None
returns-in-None g c start p s =
    sym (strays_none p.trials)
    ∙ ap (λ (o : Option BlockOffset). strays p.trials o) (sym c.in-None.is ∙ c.place_of.ensures ∙ ap (λ (t : Tile). place_of (Step c.args.step.now) t) s.tile_is)
