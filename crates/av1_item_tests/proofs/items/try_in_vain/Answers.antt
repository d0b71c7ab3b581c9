use Rattle.std.proofs.Common.{IsTrue, rules}
use Rattle.av1_item_tests.proofs.Taking.{trial_taken}
use Rattle.av1_item_tests.proofs.items.try_in_vain.Goals as goal

pub returns : goal.returns
returns g c came =
    let begun : IsTrue c.in_ok-take.field-0 = search rules in
    let all : IsTrue c.in_ok-take_all.field-0 = search rules in
    let taken = trial_taken g.W.Known _ _ _ _ c.args.place c.args.items.now (c.in_ok-take.ensures.took begun) (c.in_ok-take_all.ensures.took all) (c.in_ok-came.ensures.took came) in
    let left = c.law_of_trials.ensures c.args.place c.args.items.now _ _ c.requires.own taken in
    (left.0, left.1)
