use Rattle.std.proofs.Common.{List, sym, ◌∙◌, subst}
use Rattle.av1_step.specs.declared.trial.TrialMark.{TrialMark}
use Rattle.av1_tile.specs.Coder.{MarksAre}
use Rattle.av1_tile.proofs.Marks.{ends_in}
use Rattle.av1_tile.proofs.Standing.{strays_is}
use Rattle.av1_tile.proofs.coding.TileCoder.strays.Goals as goal

pub returns-in-Some : goal.returns-in-Some
returns-in-Some g c start p s =
    let w = c.args.self.now.writer in
    let tile = c.args.self.now.tile in
    let last = rw (c.deref.ensures.value) at c.in-Some.ensures.item in
    let here = ends_in c.args.self.now.marks.items c.in-Some.mark.now last.3.0 last.1 in
    let marks = subst (λ (l : List TrialMark). MarksAre g.W.Known start w tile l p.trials) here.1 s.marks_are in
    let ne = rw (c.sb_offset.ensures.x, c.sb_offset.ensures.y, c.sb_offset-in-Some.ensures.x, c.sb_offset-in-Some.ensures.y) at c.ne.ensures in
    ne ∙ sym (strays_is g.W.Known start w tile here.0 c.in-Some.mark.now p.trials c.args.place marks)
