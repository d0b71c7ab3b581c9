use Rattle.std.proofs.Common.{subst, sym, ◌<◌, ◌∷◌, List, Some, length, take, arith, rules, ◌≡◌, ◌⊎◌, inl, inr, Err}
use Rattle.std.proofs.lemmas.List.{take_all}
use Rattle.av1_model.specs.Position.{Position}
use Rattle.av1_tile.specs.declared.error.UnitError.TheVariants.{OutOfMemory}
use Rattle.av1_step.specs.declared.unit.Item.{Item}
use Rattle.av1_tile.specs.Trials.{Progress, moved_all, first_wrong}
use Rattle.av1_tile.specs.Coder.{HasTaken}
use Rattle.av1_tile.proofs.Coming.{come_more, ended_right, ended_wrong, wrong_here}
use Rattle.av1_tile.proofs.coding.TileCoder.code_items.Goals as goal

pub loop-i-preserved : goal.loop-i-preserved
loop-i-preserved g c start p s =
    let items = c.args.items.now in
    let i = c.loop-i.i in
    let there : i < length items = omega arith in
    let come = c.loop-i.invariant start p s in
    let done = c.in_ok-code_item.ensures in
    come_more g.W.Known start p items i c.index-items-i.result c.code_item.new.self.tile c.code_item.new.self.writer c.code_item.new.self.marks.items c.code_item.new.self.costs.begun.items c.code_item.new.self.costs.all.items there (sym c.index-items-i.is) come.wrong (done.ok start _ come.stands) (done.right start _ come.stands)

pub returns-in_err-code_item-clause-err : goal.returns-in_err-code_item-clause-err
returns-in_err-code_item-clause-err g c =
    let items = c.args.items.now in
    let i = c.loop-i.i in
    let there : i < length items = omega arith in
    let item = c.index-items-i.result in
    let e = c.in_err-code_item.field-0.0 in
    let wrong : (start : Position) (p : Progress) (s : HasTaken g.W.Known start c.args.self.now p)
    → ((begin : Position) (q : Progress) → HasTaken g.W.Known begin c.loop-i.self q → (rest : List Item) → first_wrong i q (item ∷ rest) ≡ Some e)
    → first_wrong 0 p items ≡ Some e =
    λ start p s here. let come = c.loop-i.invariant start p s in wrong_here p items i item e there (sym c.index-items-i.is) come.wrong (here start (moved_all 0 p (take i items)) come.stands) in
    let told : (e ≡ OutOfMemory) ⊎ ((start : Position) (p : Progress) → HasTaken g.W.Known start c.args.self.now p → first_wrong 0 p items ≡ Some e) =
    elim c.in_err-code_item.ensures.err [
      | inl m ↦ inl m
      | inr here ↦ inr (λ start p s. wrong start p s here)
    ] in
    let is : c.from_residual.result ≡ Err e = search rules in
    rw (is) told

pub returns-then-is_empty-clause-right : goal.returns-then-is_empty-clause-right
returns-then-is_empty-clause-right g c start p s =
    let come = c.loop-i.invariant start p s in
    ended_right g.W.Known start p c.args.items.now c.loop-i.i _ c.loop-i.self.writer c.loop-i.self.marks.items _ _ come (omega arith) (search rules)

pub returns-else-is_empty-clause-err : goal.returns-else-is_empty-clause-err
returns-else-is_empty-clause-err g c =
    rw (c.number.ensures) (inr (λ start p s. ended_wrong g.W.Known start p c.args.items.now c.loop-i.i _ c.loop-i.self.writer c.loop-i.self.marks.items _ _ (c.loop-i.invariant start p s) (omega arith) (search rules)))

pub code_item-requires : goal.code_item-requires
code_item-requires g c =
    let begin = c.requires.standing in
    record { standing = (begin.0, moved_all 0 begin.1 (take c.loop-i.i c.args.items.now), (c.loop-i.invariant begin.0 begin.1 begin.2).stands) }

pub returns-then-is_empty-clause-ok : goal.returns-then-is_empty-clause-ok
returns-then-is_empty-clause-ok g c start p s =
    subst (λ (l : List Item). HasTaken g.W.Known start c.loop-i.self (moved_all 0 p l)) (take_all c.loop-i.i c.args.items.now (omega arith)) (c.loop-i.invariant start p s).stands
