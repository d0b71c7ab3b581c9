-- What holds of every kind of step of the current block.
use Rattle.std.proofs.Common.{◌≡◌, [], true, Option, Some, None, is_some, option_map, refl, sym, ap, subst, ◌∙◌}
use Rattle.av1_geometry.specs.Rules.{first_broken}
use Rattle.av1_step.specs.declared.step.TileStep.{TileStep}
use Rattle.av1_step.specs.Effect.{changed_by_all}
use Rattle.av1_step.specs.Kind.{Kind, rules_of, steps, of_current}
use Rattle.av1_step.specs.Tile.{Tile, CurrentBlock, place_of_block}

module _ {A : Type 0} (step : A → TileStep) (f : CurrentBlock → Kind A) where
  -- its step is the one with the answer
  pub of_current_named : (o : Option CurrentBlock) → ((b : CurrentBlock) → (f b).step ≡ step) → (a : A) → (of_current o step f).step a ≡ step a
  of_current_named None h a = refl
  of_current_named (Some b) h a = ap (λ (s : A → TileStep). s a) (h b)

  -- it has the block's place
  pub of_current_place : (o : Option CurrentBlock) → ((b : CurrentBlock) → (f b).place ≡ Some (place_of_block b)) → option_map place_of_block o ≡ (of_current o step f).place
  of_current_place None h = refl
  of_current_place (Some b) h = sym (h b)

  -- where it has no place, there is no current block, and it changes nothing
  pub current_bare : (o : Option CurrentBlock) → ((b : CurrentBlock) → (f b).place ≡ Some (place_of_block b)) → (a : A) → (of_current o step f).place ≡ None → (of_current o step f).effects a ≡ []
  current_bare None h a e = refl
  current_bare (Some b) h a e = let none : Some (place_of_block b) ≡ None = sym (h b) ∙ e in cc

  -- where a block is the current one, it is that of the block
  pub current_tree : (o : Option CurrentBlock) (b : CurrentBlock) → o ≡ Some b → steps (f b) ≡ steps (of_current o step f)
  current_tree o b e = ap (λ (p : Option CurrentBlock). steps (of_current p step f)) (sym e)

  pub current_effects : (o : Option CurrentBlock) (b : CurrentBlock) (a : A) → o ≡ Some b → (of_current o step f).effects a ≡ (f b).effects a
  current_effects o b a e = ap (λ (p : Option CurrentBlock). (of_current p step f).effects a) e

  pub current_allowed : (o : Option CurrentBlock) (b : CurrentBlock) (a : A) → o ≡ Some b → first_broken (rules_of (of_current o step f) a) ≡ None → first_broken (rules_of (f b) a) ≡ None
  current_allowed o b a e h = subst (λ (p : Option CurrentBlock). first_broken (rules_of (of_current p step f) a) ≡ None) e h

  pub current_entered : (o : Option CurrentBlock) (b : CurrentBlock) → o ≡ Some b → (t : Tile) (a : A) → changed_by_all ((f b).effects a) t ≡ changed_by_all ((of_current o step f).effects a) t
  current_entered o b e t a = ap (λ (c : Option CurrentBlock). changed_by_all ((of_current c step f).effects a) t) (sym e)

  -- where a step keeps its rules, there is a current block
  pub current_there : (o : Option CurrentBlock) (a : A) → first_broken (rules_of (of_current o step f) a) ≡ None → is_some o ≡ true
  current_there None a h = cc
  current_there (Some b) a h = refl

  module _ (g : CurrentBlock → Kind A) where
    -- by kinds that have the same rules, and the same places
    pub of_current_rules : (o : Option CurrentBlock) (a : A) → ((b : CurrentBlock) → rules_of (f b) a ≡ rules_of (g b) a) → rules_of (of_current o step f) a ≡ rules_of (of_current o step g) a
    of_current_rules None a h = refl
    of_current_rules (Some b) a h = h b

    pub of_current_places : (o : Option CurrentBlock) → ((b : CurrentBlock) → (f b).place ≡ (g b).place) → (of_current o step f).place ≡ (of_current o step g).place
    of_current_places None h = refl
    of_current_places (Some b) h = h b

-- a current block that is there
pub some_block : (o : Option CurrentBlock) → is_some o ≡ true → (b : CurrentBlock) × (o ≡ Some b)
some_block None h = absurd cc
some_block (Some b) h = (b, refl)
