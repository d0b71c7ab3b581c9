use Rattle.std.proofs.Common.{ap, sym, ◌∙◌, Some}
use Rattle.av1_tile.specs.declared.error.UnitError.TheVariants.{BadScript}
use Rattle.av1_step.specs.Tile.{Tile}
use Rattle.av1_tile.specs.Trials.{error_of}
use Rattle.av1_tile.proofs.Standing.{wrong_place, wrong_item}
use Rattle.av1_tile.proofs.coding.TileCoder.check.Goals as goal

pub returns-then-is_misplaced-clause-err : goal.returns-then-is_misplaced-clause-err
returns-then-is_misplaced-clause-err g c start p s rest =
    wrong_place c.args.n p c.args.item.now rest (sym (c.is_misplaced.ensures start p s) ∙ c.if-is_misplaced.true)
    ∙ ap (λ k. Some (BadScript k c.args.n)) (sym (ap (λ (t : Tile). t.number) s.tile_is) ∙ sym c.number-tile.ensures)

pub returns-in-Some-clause-err : goal.returns-in-Some-clause-err
returns-in-Some-clause-err g c start p s rest =
    wrong_item c.args.n p c.args.item.now rest c.in-Some.fault (sym (c.is_misplaced.ensures start p s) ∙ c.if-is_misplaced.false) (sym (c.check_item.ensures start p s) ∙ c.in-Some.is)
    ∙ ap (λ k. Some (error_of k c.args.n c.in-Some.fault)) (sym (ap (λ (t : Tile). t.number) s.tile_is) ∙ sym c.number-tile.ensures) ∙ ap Some (sym c.error_of.ensures)

pub returns-in-None-clause-ok : goal.returns-in-None-clause-ok
returns-in-None-clause-ok g c start p s = (sym (c.is_misplaced.ensures start p s) ∙ c.if-is_misplaced.false, sym (c.check_item.ensures start p s) ∙ c.in-None.is)
