-- How far the loop over a script has come.
use Rattle.std.proofs.Common.{◌≡◌, ℕ, ◌+◌, ◌<◌, ◌≤◌, Bool, true, false, List, [], ◌∷◌, ◌++◌, Some, None, length, take, drop, get_or, refl, sym, ◌∙◌, ap, subst, arith, if◌then◌else◌}
use Rattle.std.proofs.lemmas.List.{take_more, drop_more, drop_all}
use Rattle.std.proofs.Math.ListN.{length-take}
use Rattle.av1_model.specs.Position.{Position}
use Rattle.av1_ec.specs.declared.known.Known.{Ghosts}
use Rattle.av1_step.specs.declared.trial.TrialMark.{TrialMark}
use Rattle.av1_tile.specs.declared.error.UnitError.{UnitError}
use Rattle.av1_tile.specs.declared.error.UnitError.TheVariants.{BadScript}
use Rattle.av1_tile.specs.declared.report.TrialCost.{TrialCost}
use Rattle.av1_step.specs.declared.tile.TileState.{TileState}
use Rattle.av1_step.specs.declared.unit.Item.{Item}
use Rattle.av1_step.specs.State.{tile_of}
use Rattle.av1_step.specs.Tile.{Tile}
use Rattle.av1_tile.specs.Trials.{Trial, Progress, moved, moved_all, first_wrong, no_trial}
use Rattle.av1_tile.proofs.Surviving.{nothing_wrong}
use Rattle.av1_tile.specs.Coder.{all_costs, StandsAt}
use Rattle.av1_tile.proofs.Standing.{no_trial_is, some_trial_is}

moved_all-last : (n : ℕ) (p : Progress) (xs : List Item) (item : Item) → moved_all n p (xs ++ item ∷ []) ≡ moved (n + length xs) (moved_all n p xs) item
moved_all-last n p [] item = ap (λ k. moved k p item) (omega arith)
moved_all-last n p (x ∷ xs) item = moved_all-last (n + 1) (moved n p x) xs item ∙ ap (λ k. moved k (moved_all (n + 1) (moved n p x) xs) item) (omega arith)

-- after one item more
moved_more : (p : Progress) (items : List Item) (i : ℕ) (item : Item) → i < length items → get_or items i item ≡ item → moved_all 0 p (take (i + 1) items) ≡ moved i (moved_all 0 p (take i items)) item
moved_more p items i item h e =
    ap (λ (l : List Item). moved_all 0 p l) (take_more items i item h ∙ ap (λ x. take i items ++ x ∷ []) e)
    ∙ moved_all-last 0 p (take i items) item
    ∙ ap (λ k. moved k (moved_all 0 p (take i items)) item) (omega (arith, h, length-take i items))

module _ {W : Type 0} (writer : Ghosts W) (start : Position) where
  -- i items are taken: a tile on its way stands there, and what is wrong with all is wrong with those that are left
  pub record HasCome (begin : Progress) (items : List Item) (i : ℕ) (tile : TileState) (w : W) (marks : List TrialMark) (places : List ℕ) (costs : List TrialCost) : Type 0 where
    pub stands : StandsAt writer start tile w marks places costs (moved_all 0 begin (take i items))
    pub wrong : first_wrong 0 begin items ≡ first_wrong i (moved_all 0 begin (take i items)) (drop i items)

  pub come_more : (begin : Progress) (items : List Item) (i : ℕ) (item : Item) (tile : TileState) (w : W) (marks : List TrialMark) (places : List ℕ) (costs : List TrialCost)
      → i < length items → get_or items i item ≡ item
      → first_wrong 0 begin items ≡ first_wrong i (moved_all 0 begin (take i items)) (drop i items)
      → StandsAt writer start tile w marks places costs (moved i (moved_all 0 begin (take i items)) item)
      → ((rest : List Item) → first_wrong i (moved_all 0 begin (take i items)) (item ∷ rest) ≡ first_wrong (i + 1) (moved i (moved_all 0 begin (take i items)) item) rest)
      → HasCome begin items (i + 1) tile w marks places costs
  come_more begin items i item tile w marks places costs h e wrong stands right =
      let more = moved_more begin items i item h e in
      record {
        stands = subst (λ (p : Progress). StandsAt writer start tile w marks places costs p) (sym more) stands;
        wrong = wrong ∙ ap (λ (l : List Item). first_wrong i (moved_all 0 begin (take i items)) l) (drop_more items i item h ∙ ap (λ x. x ∷ drop (i + 1) items) e)
            ∙ right (drop (i + 1) items) ∙ ap (λ (p : Progress). first_wrong (i + 1) p (drop (i + 1) items)) (sym more);
      }

-- what is wrong with the item that comes is wrong with all
pub wrong_here : (begin : Progress) (items : List Item) (i : ℕ) (item : Item) (e : UnitError) → i < length items → get_or items i item ≡ item
    → first_wrong 0 begin items ≡ first_wrong i (moved_all 0 begin (take i items)) (drop i items)
    → ((rest : List Item) → first_wrong i (moved_all 0 begin (take i items)) (item ∷ rest) ≡ Some e) → first_wrong 0 begin items ≡ Some e
wrong_here begin items i item e h is wrong here =
    wrong ∙ ap (λ (l : List Item). first_wrong i (moved_all 0 begin (take i items)) l) (drop_more items i item h ∙ ap (λ x. x ∷ drop (i + 1) items) is) ∙ here (drop (i + 1) items)

module _ {W : Type 0} (writer : Ghosts W) (start : Position) where
  at_last : (begin : Progress) (items : List Item) (i : ℕ) (tile : TileState) (w : W) (marks : List TrialMark) (places : List ℕ) (costs : List TrialCost)
      → HasCome writer start begin items i tile w marks places costs → length items ≤ i
      → first_wrong 0 begin items ≡ (if no_trial (moved_all 0 begin (take i items)).trials then None else Some (BadScript (moved_all 0 begin (take i items)).at.context.number i))
  at_last begin items i tile w marks places costs come h =
      come.wrong ∙ ap (λ (l : List Item). first_wrong i (moved_all 0 begin (take i items)) l) (drop_all i items h)

  -- where all items are taken and no trial is left, nothing is wrong
  pub ended_right : (begin : Progress) (items : List Item) (i : ℕ) (tile : TileState) (w : W) (marks : List TrialMark) (places : List ℕ) (costs : List TrialCost)
      → HasCome writer start begin items i tile w marks places costs → length items ≤ i → length marks ≡ 0 → first_wrong 0 begin items ≡ None
  ended_right begin items i tile w marks places costs come h e =
      let p = moved_all 0 begin (take i items) in
      at_last begin items i tile w marks places costs come h
      ∙ ap (λ b. if b then None else Some (BadScript p.at.context.number i)) (no_trial_is writer start tile w marks places costs p come.stands e)

  -- where one is left, the script has not ended it
  pub ended_wrong : (begin : Progress) (items : List Item) (i : ℕ) (tile : TileState) (w : W) (marks : List TrialMark) (places : List ℕ) (costs : List TrialCost)
      → HasCome writer start begin items i tile w marks places costs → length items ≡ i → 0 < length marks → first_wrong 0 begin items ≡ Some (BadScript (tile_of tile).number (length items))
  ended_wrong begin items i tile w marks places costs come h e =
      let p = moved_all 0 begin (take i items) in
      at_last begin items i tile w marks places costs come (omega (arith, h))
      ∙ ap (λ b. if b then None else Some (BadScript p.at.context.number i)) (some_trial_is writer start tile w marks places costs p come.stands e)
      ∙ ap (λ k. Some (BadScript p.at.context.number k)) (sym h) ∙ ap (λ (t : Tile). Some (BadScript t.number (length items))) (sym come.stands.tile_is)

none_or : (b : Bool) (e : UnitError) → (if b then None else Some e) ≡ None → b ≡ true
none_or true e h = refl
none_or false e h = cc

-- where nothing is wrong, each trial ends
ends_all : (n : ℕ) (p : Progress) (items : List Item) → first_wrong n p items ≡ None → no_trial (moved_all n p items).trials ≡ true
ends_all n p [] h = none_or (no_trial p.trials) (BadScript p.at.context.number n) h
ends_all n p (item ∷ items) h = ends_all (n + 1) (moved n p item) items (nothing_wrong n p item items h).2

only_costs : (trials : List Trial) (costs : List TrialCost) → no_trial trials ≡ true → all_costs trials costs ≡ costs
only_costs [] costs h = refl
only_costs (t ∷ ts) costs h = cc

-- and then all costs are the script's
pub costs_all : (p : Progress) (items : List Item) → first_wrong 0 p items ≡ None → let q = moved_all 0 p items in all_costs q.trials q.costs ≡ q.costs
costs_all p items h = let q = moved_all 0 p items in only_costs q.trials q.costs (ends_all 0 p items h)
