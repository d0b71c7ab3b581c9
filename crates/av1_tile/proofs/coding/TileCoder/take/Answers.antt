use Rattle.std.proofs.Common.{◌≡◌, ℕ, List, None, Ok, length, refl, sym, ◌∙◌, ap, subst}
use Rattle.av1_model.specs.Interval.{bits}
use Rattle.av1_step.specs.declared.trial.TrialMark.{TrialMark}
use Rattle.av1_step.specs.declared.unit.Item.{Item}
use Rattle.av1_tile.specs.Coder.{StandsAt, begun_of, all_costs, unknown_cost}
use Rattle.av1_step.specs.State.{tile_of}
use Rattle.av1_step.specs.Step.{step_fault}
use Rattle.av1_step.specs.Tile.{Tile}
use Rattle.av1_tile.specs.Trials.{item_fault}
use Rattle.av1_tile.proofs.Standing.{can_come, stepped, begun, at_end, kept_end, undone_end}
use Rattle.av1_step.proofs.StepLaws.{IsAllowed, faultless}
use Rattle.av1_tile.proofs.coding.TileCoder.take.Goals as goal

pub write_item-requires-clause-item : goal.write_item-requires-clause-item
write_item-requires-clause-item g c =
    let start = c.requires.standing.0 in
    let p = c.requires.standing.1 in
    let s = c.requires.standing.2 in
    let r = c.requires.right start p s in
    can_come g.W.Known start c.args.self.now.tile c.args.self.now.writer c.args.self.now.marks.items c.args.self.now.costs.begun.items c.args.self.now.costs.all.items p c.args.item.now s r.0 r.1

pub returns-in-Step : goal.returns-in-Step
returns-in-Step g c start p s =
    let e = c.in_ok-answer.ensures in
    let answer = c.in_ok-answer.answer in
    let step = c.in-Step.field-0 in
    let old = c.args.self.now.tile in
    let right = (c.requires.right start p s).1 in
    let none : step_fault p.at.context (bits p.at.interval) step ≡ None = ap (λ (i : Item). item_fault i p.at) (sym c.in-Step.is) ∙ right in
    let f = faultless p.at.context (bits p.at.interval) step none in
    let allowed : IsAllowed step (tile_of old) = subst (λ (t : Tile). IsAllowed step t) (sym s.tile_is) f.1 in
    let took = rw (c.in-Step.is) at e.took in
    rw (c.in-Step.is)
    (stepped g.W.Known start (Ok answer) answer refl old c.write_item.new.state c.args.self.now.writer c.write_item.new.w c.args.self.now.marks.items c.write_item.new.marks.items c.args.self.now.costs.begun.items c.args.self.now.costs.all.items p step s allowed f.0 took e.marks)

pub returns-in_ok-begin-in-Begin : goal.returns-in_ok-begin-in-Begin
returns-in_ok-begin-in-Begin g c start p s =
    let e = c.in_ok-answer.ensures in
    let answer = c.in_ok-answer.answer in
    let took = rw (c.in-Begin.is) at e.took in
    rw (c.in-Begin.is, c.in_ok-begin-in-Begin.ensures.begun, c.in_ok-begin-in-Begin.ensures.all, c.number-tile.ensures)
    (begun g.W.Known start (Ok answer) answer refl c.args.n c.args.self.now.tile c.write_item.new.state c.args.self.now.writer c.write_item.new.w c.args.self.now.marks.items c.write_item.new.marks.items c.args.self.now.costs.begun.items c.args.self.now.costs.all.items c.in-Begin.field-0 p s took e.marks)

pub returns-in-Keep : goal.returns-in-Keep
returns-in-Keep g c start p s =
    let e = c.in_ok-answer.ensures in
    let answer = c.in_ok-answer.answer in
    let old = c.args.self.now.tile in
    let w = c.args.self.now.writer in
    let marks = c.args.self.now.marks.items in
    let places = c.args.self.now.costs.begun.items in
    let all = c.args.self.now.costs.all.items in
    let left = c.write_item.new.marks.items in
    let took = rw (c.in-Keep.is) at e.took in
    let r = at_end g.W.Known start old w left took.mark places all p (subst (λ (l : List TrialMark). StandsAt g.W.Known start old w l places all p) took.ends.marks_are s) in
    let outer = begun_of r.1 p.costs in
    let trial = length (all_costs r.1 p.costs) in
    let d = unknown_cost r.0 in
    rw (c.in-Keep.is, c.end.ensures.begun outer trial r.3, c.end.ensures.all outer trial d r.3, c.unwrap_or-eighths.ensures)
    (kept_end g.W.Known start old c.write_item.new.state w c.write_item.new.w marks left outer trial all answer p (subst (λ (l : List ℕ). StandsAt g.W.Known start old w marks l all p) r.3 s) took e.marks d)

pub returns-in-Abandon : goal.returns-in-Abandon
returns-in-Abandon g c start p s =
    let e = c.in_ok-answer.ensures in
    let answer = c.in_ok-answer.answer in
    let old = c.args.self.now.tile in
    let w = c.args.self.now.writer in
    let marks = c.args.self.now.marks.items in
    let places = c.args.self.now.costs.begun.items in
    let all = c.args.self.now.costs.all.items in
    let left = c.write_item.new.marks.items in
    let took = rw (c.in-Abandon.is) at e.took in
    let r = at_end g.W.Known start old w left took.mark places all p (subst (λ (l : List TrialMark). StandsAt g.W.Known start old w l places all p) took.ends.marks_are s) in
    let outer = begun_of r.1 p.costs in
    let trial = length (all_costs r.1 p.costs) in
    let d = unknown_cost r.0 in
    rw (c.in-Abandon.is, c.end-in-Abandon.ensures.begun outer trial r.3, c.end-in-Abandon.ensures.all outer trial d r.3, c.unwrap_or-eighths.ensures)
    (undone_end g.W.Known start old c.write_item.new.state w c.write_item.new.w marks left outer trial all answer p (subst (λ (l : List ℕ). StandsAt g.W.Known start old w marks l all p) r.3 s) took e.marks d)
