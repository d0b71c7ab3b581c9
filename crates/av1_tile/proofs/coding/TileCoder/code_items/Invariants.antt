use Rattle.av1_model.specs.Position.{Position}
use Rattle.av1_tile.specs.Trials.{Progress}
use Rattle.av1_tile.specs.Coder.{HasTaken}
use Rattle.av1_tile.proofs.Coming.{HasCome}
use Rattle.av1_tile.proofs.coding.TileCoder.code_items.Given as goal

abbrev pub invariant-loop-i : goal.invariant-loop-i
invariant-loop-i g l =
    (start : Position) (p : Progress) → HasTaken g.W.Known start l.initial.self p → HasCome g.W.Known start p l.items l.i l.self.tile l.self.writer l.self.marks.items l.self.costs.begun.items l.self.costs.all.items
