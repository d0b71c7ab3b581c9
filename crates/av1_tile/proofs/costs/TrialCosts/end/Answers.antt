use Rattle.std.proofs.Common.{◌≡◌, ◌<◌, ℕ, [], length, sym, ◌∙◌, ap, set, get_or, rules}
use Rattle.std.proofs.lemmas.List.{get_or_default}
use Rattle.av1_tile.specs.declared.report.TrialCost.{TrialCost}
use Rattle.av1_tile.proofs.Marks.{last_one, none_last}
use Rattle.av1_tile.proofs.costs.TrialCosts.end.Goals as goal

pub returns-in_default-clause-begun : goal.returns-in_default-clause-begun
returns-in_default-clause-begun c outer trial is =
    let none : c.args.self.now.begun.items ≡ [] = search rules in
    absurd (none_last outer trial (sym is ∙ none))

pub returns-in_default-clause-all : goal.returns-in_default-clause-all
returns-in_default-clause-all c outer trial other is =
    let none : c.args.self.now.begun.items ≡ [] = search rules in
    absurd (none_last outer trial (sym is ∙ none))

pub returns-clause-begun : goal.returns-clause-begun
returns-clause-begun c outer trial is = (last_one c.pop.new.self.items outer c.in-Some.trial trial (sym c.in-Some.ensures.items ∙ is)).0

pub returns-clause-all : goal.returns-clause-all
returns-clause-all c outer trial other is =
    let items = c.args.self.now.all.items in
    let e = (last_one c.pop.new.self.items outer c.in-Some.trial trial (sym c.in-Some.ensures.items ∙ is)).1 in
    let there : c.in-Some.trial < length items = c.requires c.pop.new.self.items c.in-Some.trial c.in-Some.ensures.items in
    let v = c.index_mut-cost.result.now in
    let value : v ≡ get_or items c.in-Some.trial other = c.index_mut-cost.ensures.value ∙ get_or_default items c.in-Some.trial v other there in
    ap (λ (x : TrialCost). set items c.in-Some.trial (record x { eighths = c.args.eighths; kept = c.args.kept })) value
    ∙ ap (λ (n : ℕ). set items n (record (get_or items n other) { eighths = c.args.eighths; kept = c.args.kept })) e
