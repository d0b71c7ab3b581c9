-- The steps that survive break no rule, and are what is coded in the end.
use Rattle.std.proofs.Common.{option_map, ◌≡◌, ℕ, ◌+◌, Bool, true, false, List, [], ◌∷◌, ◌++◌, Option, Some, None, refl, sym, ◌∙◌, ap, subst, if◌then◌else◌}
use Rattle.std.specs.Option.{option_map_or}
use Rattle.av1_model.specs.Reading.{Coding}
use Rattle.av1_tile.specs.declared.error.UnitError.{UnitError}
use Rattle.av1_tile.specs.declared.error.UnitError.TheVariants.{BadScript}
use Rattle.av1_tile.specs.declared.report.TrialCost.{TrialCost}
use Rattle.av1_step.specs.declared.unit.Item.{Item}
use Rattle.av1_step.specs.declared.unit.Item.TheVariants.{Step, Begin, Keep, Abandon}
use Rattle.av1_step.specs.declared.step.TileStep.{TileStep}
use Rattle.av1_step.specs.Tile.{Tile}
use Rattle.av1_geometry.specs.declared.error.Rule.{Rule}
use Rattle.av1_geometry.specs.Rules.{first_broken}
use Rattle.av1_step.specs.Script.{after_step, after_all, first_broken_step}
use Rattle.av1_step.specs.declared.error.StepFault.TheVariants.{TooLong, Broken}
use Rattle.av1_tile.specs.Trials.{too_long, item_fault, error_of, Trial, Progress, with_costs, cost_of, moved, moved_all, surviving_from, misplaced, item_rules, first_wrong}
use Rattle.av1_step.proofs.StepLaws.{IsAllowed}
use Rattle.av1_step.proofs.ReadingBack.{allowed}

pub after_all-append : (at : Coding Tile) (xs ys : List TileStep) → after_all at (xs ++ ys) ≡ after_all (after_all at xs) ys
after_all-append at [] ys = refl
after_all-append at (x ∷ xs) ys = after_all-append (after_step at x) xs ys

-- one step more that breaks no rule
pub allowed_more : (n : ℕ) (at : Coding Tile) (steps : List TileStep) (step : TileStep) → first_broken_step n at steps ≡ None → IsAllowed step (after_all at steps).context → first_broken_step n at (steps ++ step ∷ []) ≡ None
allowed_more n at [] step h a = ap (λ o. option_map_or (λ rule. Some (n, rule)) o None) a
allowed_more n at (first ∷ steps) step h a =
    let f = allowed n at first steps h in
    ap (λ o. option_map_or (λ rule. Some (n, rule)) o (first_broken_step (n + 1) (after_step at first) (steps ++ step ∷ []))) f.0
    ∙ allowed_more (n + 1) (after_step at first) steps step f.1 a

-- what the trials began at is what had survived before them
pub AllMatch : Coding Tile → List Trial → List (List TileStep) → Type 0
AllMatch at [] [] = Unit {0}
AllMatch at [] (o ∷ os) = ⊥
AllMatch at (t ∷ ts) [] = ⊥
AllMatch at (t ∷ ts) (o ∷ os) = (t.start ≡ after_all at o) × (first_broken_step 0 at o ≡ None) × AllMatch at ts os

-- before the first item
pub none_match : (at : Coding Tile) → AllMatch at [] []
unfolding AllMatch
none_match at = tt

choose : {A : Type 0} (bad : Bool) (wrong : UnitError) (say : A → Option UnitError) (broken : Option A) (rest : Option UnitError) → ((rule : A) → say rule ≡ None → ⊥) → (if bad then Some wrong else option_map_or say broken rest) ≡ None → (bad ≡ false) × (broken ≡ None) × (rest ≡ None)
choose true wrong say broken rest some h = cc
choose false wrong say None rest some h = (refl, refl, h)
choose false wrong say (Some rule) rest some h = absurd (some rule h)

-- an item with no fault breaks no rule, and doesn't come too late
pub no_fault : (item : Item) (at : Coding Tile) → item_fault item at ≡ None → (too_long item at ≡ false) × (first_broken (item_rules item at.context) ≡ None)
no_fault item at h = neither (too_long item at) (first_broken (item_rules item at.context)) h
  where
    neither : (long : Bool) (o : Option Rule) → (if long then Some TooLong else option_map Broken o) ≡ None → (long ≡ false) × (o ≡ None)
    neither true o e = cc
    neither false None e = (refl, refl)
    neither false (Some rule) e = cc

-- where nothing is wrong from an item on, the item is in its place, breaks no rule, and nothing is wrong after it
pub nothing_wrong : (n : ℕ) (p : Progress) (item : Item) (items : List Item) → first_wrong n p (item ∷ items) ≡ None
    → (misplaced item p.at.context p.trials ≡ false) × (first_broken (item_rules item p.at.context) ≡ None) × (first_wrong (n + 1) (moved n p item) items ≡ None)
nothing_wrong n p item items h =
    let c = choose (misplaced item p.at.context p.trials) (BadScript p.at.context.number n) (λ fault. Some (error_of p.at.context.number n fault)) (item_fault item p.at) (first_wrong (n + 1) (moved n p item) items) (λ fault e. cc) h in
    (c.0, (no_fault item p.at c.1).1, c.2)

-- costs change nothing but costs
costs_match : (begin at : Coding Tile) (more : List TrialCost) (ts : List Trial) (costs : List TrialCost) (outer : List (List TileStep)) → AllMatch begin ts outer → AllMatch begin (with_costs more at ts costs).trials outer
unfolding AllMatch
costs_match begin at more [] costs outer m = m
costs_match begin at more (t ∷ ts) costs [] m = m
costs_match begin at more (t ∷ ts) costs (o ∷ outer) m = m

costs_at : (at : Coding Tile) (more : List TrialCost) (ts : List Trial) (costs : List TrialCost) → (with_costs more at ts costs).at ≡ at
costs_at at more [] costs = refl
costs_at at more (t ∷ ts) costs = refl

pub survives : (begin : Coding Tile) (items : List Item) (n : ℕ) (at : Coding Tile) (trials : List Trial) (costs : List TrialCost) (outer : List (List TileStep)) (steps : List TileStep)
    → at ≡ after_all begin steps → first_broken_step 0 begin steps ≡ None → AllMatch begin trials outer → first_wrong n record { at = at; trials = trials; costs = costs } items ≡ None
    → ((moved_all n record { at = at; trials = trials; costs = costs } items).at ≡ after_all begin (surviving_from outer steps items)) × (first_broken_step 0 begin (surviving_from outer steps items) ≡ None)
unfolding AllMatch
survives begin [] n at trials costs outer steps is free match right = (is, free)
survives begin (Step step ∷ items) n at trials costs outer steps is free match right =
    let w = nothing_wrong n record { at = at; trials = trials; costs = costs } (Step step) items right in
    survives begin items (n + 1) (after_step at step) trials costs outer (steps ++ step ∷ [])
    (ap (λ (a : Coding Tile). after_step a step) is ∙ sym (after_all-append begin steps (step ∷ [])))
    (allowed_more 0 begin steps step free (subst (λ (a : Coding Tile). IsAllowed step a.context) is w.1)) match w.2
survives begin (Begin place ∷ items) n at trials costs outer steps is free match right =
    let w = nothing_wrong n record { at = at; trials = trials; costs = costs } (Begin place) items right in
    survives begin items (n + 1) at (record { place = place.0; item = n; start = at; inner = [] } ∷ trials) costs (steps ∷ outer) steps is free (is, free, match) w.2
survives begin (Keep ∷ items) n at [] costs [] steps is free match right = cc
survives begin (Keep ∷ items) n at [] costs (o ∷ outer) steps is free match right = absurd match
survives begin (Keep ∷ items) n at (t ∷ ts) costs [] steps is free match right = absurd match
survives begin (Keep ∷ items) n at (t ∷ ts) costs (o ∷ outer) steps is free match right =
    let p = with_costs (cost_of true at t ∷ t.inner) at ts costs in
    survives begin items (n + 1) p.at p.trials p.costs outer steps (costs_at at (cost_of true at t ∷ t.inner) ts costs ∙ is) free (costs_match begin at (cost_of true at t ∷ t.inner) ts costs outer match.2) right
survives begin (Abandon ∷ items) n at [] costs [] steps is free match right = cc
survives begin (Abandon ∷ items) n at [] costs (o ∷ outer) steps is free match right = absurd match
survives begin (Abandon ∷ items) n at (t ∷ ts) costs [] steps is free match right = absurd match
survives begin (Abandon ∷ items) n at (t ∷ ts) costs (o ∷ outer) steps is free match right =
    let p = with_costs (cost_of false at t ∷ t.inner) t.start ts costs in
    survives begin items (n + 1) p.at p.trials p.costs outer o (costs_at t.start (cost_of false at t ∷ t.inner) ts costs ∙ match.0) match.1 (costs_match begin t.start (cost_of false at t ∷ t.inner) ts costs outer match.2) right
